use Rattle.std.proofs.Common.{subst}
use Rattle.udb_csr.specs.Faults.{PassesLength}
use Rattle.udb_csr.specs.Steps.{IsShown, PassesFor}
use Rattle.udb_csr.proofs.FaultLaws.{passes-none, shown-last}
use Rattle.udb_csr.proofs.searching.find_past.Goals as goal

pub returns-in-None : goal.returns-in-None
returns-in-None c =
    shown-last (PassesFor c.args.space.now c.args.csr.now c.args.field.now 64) (PassesLength c.args.space.now c.args.csr.now c.args.field.now) c.past_for-in-None.result
    (λ full s. s.passes)
    (passes-none c.args.space.now c.args.csr.now c.requires.lawful c.args.field.now (subst (IsShown (PassesFor c.args.space.now c.args.csr.now c.args.field.now 32)) c.in-None.is c.in_ok-full.ensures))
    c.past_for-in-None.ensures
