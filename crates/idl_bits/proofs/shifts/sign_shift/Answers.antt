use Rattle.std.proofs.Common.{sym, ap, ◌∙◌}
use Rattle.std.specs.Prelude.{◌-◌}
use Rattle.idl_bits.proofs.Fields.{sign-shift-negative, sign-shift-plain}
use Rattle.idl_bits.proofs.shifts.sign_shift.Goals as goal

pub returns-then-has_top_bit : goal.returns-then-has_top_bit
returns-then-has_top_bit c =
    ap (λ x. c.ones-ones.result - x) c.unbounded_shr.ensures
    ∙ sign-shift-negative c.args.a _ _ _ (sym c.if-has_top_bit.ensures) (rw (← c.width.ensures.value) c.ones-ones.ensures) c.pattern.ensures.value c.pattern.ensures.in_width (rw (← c.width.ensures.value) c.width.ensures.limit) c.requires

pub returns-else-has_top_bit : goal.returns-else-has_top_bit
returns-else-has_top_bit c =
    c.unbounded_shr-else-has_top_bit.ensures
    ∙ sign-shift-plain c.args.a _ _ (sym c.if-has_top_bit.ensures) c.pattern-else-has_top_bit.ensures.value c.pattern-else-has_top_bit.ensures.in_width c.pattern-else-has_top_bit.type_inv c.requires
