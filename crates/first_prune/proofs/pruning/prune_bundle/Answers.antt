use Rattle.first_prune.proofs.Shown.{result_keeps, result_settles}
use Rattle.first_prune.proofs.pruning.prune_bundle.Goals as goal

pub returns-clause-keeps : goal.returns-clause-keeps
returns-clause-keeps c = result_keeps c.args.bundle.now c.as_slice-givens.result.now c.as_slice-statements.result.now c.as_slice-givens.ensures c.as_slice-statements.ensures c.prune.result c.prune.ensures

pub returns-clause-settles : goal.returns-clause-settles
returns-clause-settles c = result_settles c.args.bundle.now c.as_slice-givens.result.now c.as_slice-statements.result.now c.as_slice-givens.ensures c.as_slice-statements.ensures c.prune.result c.prune.ensures
