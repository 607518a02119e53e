use Rattle.std.proofs.Common.{◌∙◌, sym}
use Rattle.std.proofs.lemmas.Bool.{false≢true}
use Rattle.udb_csr.specs.Steps.{ArePresent, SharesFor}
use Rattle.udb_csr.proofs.FaultLaws.{shares-from, shares-present, shares-meet, shown-as}
use Rattle.udb_csr.proofs.searching.overlap_for.Goals as goal

pub returns-then-not-parts_meet : goal.returns-then-not-parts_meet
returns-then-not-parts_meet c full s =
    false≢true (sym (sym c.parts_meet.ensures ∙ c.if-not-parts_meet.true) ∙ shares-meet c.args.space.now c.args.csr.now c.args.one.now c.args.other.now c.args.registers full s)

pub returns : goal.returns
returns c =
    shown-as (ArePresent c.args.space.now c.args.csr.now c.args.one.now c.args.other.now c.args.registers) (SharesFor c.args.space.now c.args.csr.now c.args.one.now c.args.other.now c.args.registers) c.find_width.result
    (λ full are. shares-from c.args.space.now c.args.csr.now c.args.one.now c.args.other.now c.args.registers full c.requires.one c.requires.other (sym c.parts_meet.ensures ∙ c.if-not-parts_meet.false) are)
    (λ full s. shares-present c.args.space.now c.args.csr.now c.args.one.now c.args.other.now c.args.registers full s)
    c.find_width.ensures
