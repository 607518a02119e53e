use Rattle.std.proofs.Common.{sym}
use Rattle.idl_bits.proofs.Patterns.{whole-negative, whole-plain}
use Rattle.idl_bits.proofs.number.whole.Goals as goal

pub returns-then-is_negative : goal.returns-then-is_negative
returns-then-is_negative c =
    whole-negative c.args.a _ _ (sym c.if-is_negative.ensures) (rw (← c.width.ensures.value) c.width.ensures.limit) (rw (← c.width.ensures.value) c.ones.ensures) c.pattern.ensures.value c.pattern.ensures.in_width

pub returns-else-is_negative : goal.returns-else-is_negative
returns-else-is_negative c =
    whole-plain c.args.a _ (sym c.if-is_negative.ensures) c.pattern-else-is_negative.ensures.value c.pattern-else-is_negative.type_inv
