use Rattle.std.proofs.Common.{arith}
use Rattle.udb_spec.specs.Known.{known}
use Rattle.udb_cond.specs.Steps.{steps_of}
use Rattle.udb_cond.proofs.KnownLemmas.{one-done}
use Rattle.udb_refute.proofs.truth.+truth.Goals as goal

pub one_truth-returns : goal.one_truth-returns
one_truth-returns t c = one-done (known c.args.space.now (steps_of c.args.cells.now)) c.args.conds.now c.loop-cond.cond-index c.loop-cond.holding c.loop-cond.undecided _ c.one_by.ensures (omega arith) c.loop-cond.invariant.0 c.loop-cond.invariant.1
