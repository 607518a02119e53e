use Rattle.std.proofs.Common.{arith}
use Rattle.udb_base.specs.declared.conditions.Value.TheVariants.{Number}
use Rattle.udb_spec.specs.Conditions.{passes}
use Rattle.udb_cond.specs.Steps.{steps_of}
use Rattle.udb_cond.proofs.TallyLemmas.{values-done}
use Rattle.udb_cond.proofs.partial_truth.numbers_known.Goals as goal

pub returns : goal.returns
returns c = values-done (λ x. passes c.args.test x c.args.given.now) (λ x. Number x) (steps_of c.args.cells.now) c.args.place _ _ c.args.numbers.now c.loop-at.at _ c.verdict.ensures (omega arith) c.loop-at.invariant
