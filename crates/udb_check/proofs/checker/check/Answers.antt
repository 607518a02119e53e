use Rattle.std.proofs.Common.{sym, ◌∙◌}
use Rattle.udb_cond.proofs.Sound.{none-meets}
use Rattle.udb_check.proofs.checker.check.Goals as goal

pub returns-clause-none : goal.returns-clause-none
returns-clause-none c = λ yes_ full done. none-meets c.args.space.now c.args.part.now c.args.cond.now c.args.proof.now c.requires (sym c.refutes_under.ensures ∙ yes_) full done
