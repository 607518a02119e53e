use Rattle.std.proofs.Common.{◌∙◌}
use Rattle.std.specs.Prelude.{int_lt}
use Rattle.idl_bits.proofs.Signs.{below-unlike, below-negative, below-plain}
use Rattle.idl_bits.specs.Operators.{is_below}
use Rattle.idl_bits.proofs.comparisons.lt.Goals as goal

pub returns-then-left-right : goal.returns-then-left-right
unfolding is_below
returns-then-left-right c =
    below-unlike _ _ _ _ c.if-left-right.true c.operand-left.ensures.negative c.operand-right.ensures.negative
    ∙ (λ i. int_lt (c.operand-left.ensures.number i) (c.operand-right.ensures.number i))

pub returns-then-left : goal.returns-then-left
unfolding is_below
returns-then-left c =
    below-negative _ _ _ _ c.if-left-right.false c.if-left.true
    ∙ (λ i. int_lt (c.operand-left.ensures.number i) (c.operand-right.ensures.number i))

pub returns-else-left : goal.returns-else-left
unfolding is_below
returns-else-left c =
    below-plain _ _ _ _ c.if-left-right.false c.if-left.false
    ∙ (λ i. int_lt (c.operand-left.ensures.number i) (c.operand-right.ensures.number i))
