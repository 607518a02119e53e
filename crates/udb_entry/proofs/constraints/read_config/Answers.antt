use Rattle.std.proofs.lemmas.Result.{IfOk-weaker}
use Rattle.udb_entry.proofs.GivenLaws.{all_valued}
use Rattle.udb_entry.proofs.constraints.read_config.Goals as goal

pub returns-clause-values : goal.returns-clause-values
returns-clause-values c = IfOk-weaker c.partial.result _ _ (λ part is. all_valued c.args.space.now c.args.entry.now part is) c.partial.ensures
