use Rattle.std.proofs.Common.{sym, ap, ◌∙◌}
use Rattle.idl_spec.specs.Formulas.{claims}
use Rattle.type_kinds.proofs.FormulaForms.{true-plain, false-plain, true-others, false-others}
use Rattle.type_kinds.proofs.formulas.+known.Goals as goal

pub when_true-returns-in_default : goal.when_true-returns-in_default
when_true-returns-in_default t c =
    sym (true-plain c.args.space.now c.args.test.now c.in_default.not-Unary c.in_default.not-Binary (sym c.in_ok-formula.ensures ∙ c.in-None.is))

pub when_true-returns-in_default-sign : goal.when_true-returns-in_default-sign
when_true-returns-in_default-sign t c =
    sym (ap (λ e. (claims c.args.space.now e).when_true) c.in-Binary.is
    ∙ true-others c.args.space.now c.in-Binary.sign c.in-Binary.left c.in-Binary.right c.in_default-sign.not-And
    (sym (ap (λ e. (claims c.args.space.now e).formula) c.in-Binary.is) ∙ (sym c.in_ok-formula.ensures ∙ c.in-None.is)))

pub when_false-returns-in_default : goal.when_false-returns-in_default
when_false-returns-in_default t c =
    sym (false-plain c.args.space.now c.args.test.now c.in_default.not-Unary c.in_default.not-Binary (sym c.in_ok-formula.ensures ∙ c.in-None.is))

pub when_false-returns-in_default-sign : goal.when_false-returns-in_default-sign
when_false-returns-in_default-sign t c =
    sym (ap (λ e. (claims c.args.space.now e).when_false) c.in-Binary.is
    ∙ false-others c.args.space.now c.in-Binary.sign c.in-Binary.left c.in-Binary.right c.in_default-sign.not-Or
    (sym (ap (λ e. (claims c.args.space.now e).formula) c.in-Binary.is) ∙ (sym c.in_ok-formula.ensures ∙ c.in-None.is)))
