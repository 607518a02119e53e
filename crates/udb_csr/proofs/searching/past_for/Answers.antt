use Rattle.std.proofs.Common.{◌∙◌, sym}
use Rattle.std.proofs.lemmas.Bool.{false≢true}
use Rattle.udb_csr.specs.Steps.{ArePresent, PassesFor}
use Rattle.udb_csr.proofs.FaultLaws.{passes-from, passes-present, passes-test, shown-as}
use Rattle.udb_csr.proofs.searching.past_for.Goals as goal

pub returns-then-not-passes : goal.returns-then-not-passes
returns-then-not-passes c full s =
    false≢true (sym (sym c.passes.ensures ∙ c.if-not-passes.true) ∙ passes-test c.args.space.now c.args.csr.now c.args.field.now c.args.registers full s)

pub returns : goal.returns
returns c =
    shown-as (ArePresent c.args.space.now c.args.csr.now c.args.field.now c.args.field.now c.args.registers) (PassesFor c.args.space.now c.args.csr.now c.args.field.now c.args.registers) c.find_width.result
    (λ full are. passes-from c.args.space.now c.args.csr.now c.args.field.now c.args.registers full c.requires.field (sym c.passes.ensures ∙ c.if-not-passes.false) are)
    (λ full s. passes-present c.args.space.now c.args.csr.now c.args.field.now c.args.registers full s)
    c.find_width.ensures
