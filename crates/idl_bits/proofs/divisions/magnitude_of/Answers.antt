use Rattle.std.proofs.Common.{sym}
use Rattle.idl_bits.proofs.Signs.{magnitude-negative, magnitude-plain}
use Rattle.idl_bits.proofs.divisions.magnitude_of.Goals as goal

pub returns-then-is_negative-clause-number : goal.returns-then-is_negative-clause-number
returns-then-is_negative-clause-number c =
    magnitude-negative c.args.a _ _ (sym c.if-is_negative.ensures) (rw (← c.width.ensures.value) c.ones.ensures) c.pattern.ensures.value c.pattern.ensures.in_width

pub returns-else-is_negative-clause-number : goal.returns-else-is_negative-clause-number
returns-else-is_negative-clause-number c =
    magnitude-plain c.args.a _ (sym c.if-is_negative.ensures) c.pattern-else-is_negative.ensures.value
