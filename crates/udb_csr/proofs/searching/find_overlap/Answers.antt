use Rattle.std.proofs.Common.{subst}
use Rattle.udb_csr.specs.Faults.{SharesBit}
use Rattle.udb_csr.specs.Steps.{IsShown, SharesFor}
use Rattle.udb_csr.proofs.FaultLaws.{shares-none, shown-last}
use Rattle.udb_csr.proofs.searching.find_overlap.Goals as goal

pub returns-in-None : goal.returns-in-None
returns-in-None c =
    shown-last (SharesFor c.args.space.now c.args.csr.now c.args.one.now c.args.other.now 64) (SharesBit c.args.space.now c.args.csr.now c.args.one.now c.args.other.now) c.overlap_for-in-None.result
    (λ full s. s.shares)
    (shares-none c.args.space.now c.args.csr.now c.requires.lawful c.args.one.now c.args.other.now (subst (IsShown (SharesFor c.args.space.now c.args.csr.now c.args.one.now c.args.other.now 32)) c.in-None.is c.in_ok-full.ensures))
    c.overlap_for-in-None.ensures
