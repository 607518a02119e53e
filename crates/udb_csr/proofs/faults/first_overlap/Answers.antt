use Rattle.std.proofs.Common.{arith, subst}
use Rattle.udb_csr.specs.Steps.{IsOverlapAt}
use Rattle.udb_csr.proofs.ListLaws.{are-apart-more, no-overlap}
use Rattle.udb_csr.proofs.faults.first_overlap.Goals as goal

pub loop-at-preserved : goal.loop-at-preserved
loop-at-preserved c =
    are-apart-more c.args.space.now c.args.csr.now c.loop-at.at (subst (IsOverlapAt c.args.space.now c.args.csr.now c.loop-at.at) c.in_default.is c.in_ok-fault.ensures) c.loop-at.invariant

pub returns : goal.returns
returns c = no-overlap c.args.space.now c.args.csr.now c.loop-at.at (omega (arith, c.len-at-end.ensures, c.loop-at-test.false)) c.loop-at.invariant
