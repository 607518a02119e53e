use Rattle.std.proofs.Common.{arith}
use Rattle.udb_cond.specs.Steps.{steps_of}
use Rattle.udb_cond.proofs.TallyLemmas.{choices-done}
use Rattle.udb_cond.proofs.partial_truth.choices_known.Goals as goal

pub returns : goal.returns
returns c = choices-done c.args.ext.now c.as_slice-versions.result.now c.args.needs.now (steps_of c.args.cells.now) c.args.place c.loop-at.at _ _ _ c.as_slice-versions.ensures c.verdict.ensures (omega arith) c.loop-at.invariant
