use Rattle.std.proofs.Common.{◌∙◌}
use Rattle.std.specs.Ordering.{int_eq}
use Rattle.idl_bits.proofs.Signs.{equal-signs}
use Rattle.idl_bits.specs.Operators.{is_equal}
use Rattle.idl_bits.proofs.comparisons.eq.Goals as goal

pub returns : goal.returns
unfolding is_equal
returns c =
    c.eq.ensures ∙ equal-signs _ _ _ _ c.operand.ensures.negative c.operand-2.ensures.negative
    ∙ (λ i. int_eq (c.operand.ensures.number i) (c.operand-2.ensures.number i))
