use Rattle.udb_cond.specs.Steps.{steps_of}
use Rattle.udb_cond.proofs.Agreement.{known-yes, known-no}
use Rattle.udb_cond.proofs.partial_truth.holds3.Goals as goal

pub returns-clause-yes : goal.returns-clause-yes
returns-clause-yes c = λ e full w. known-yes c.args.space.now (steps_of c.args.cells.now) full w c.args.cond.now _ c.truth_within.ensures e

pub returns-clause-no : goal.returns-clause-no
returns-clause-no c = λ e full w. known-no c.args.space.now (steps_of c.args.cells.now) full w c.args.cond.now _ c.truth_within.ensures e
