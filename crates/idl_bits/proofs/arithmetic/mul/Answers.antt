use Rattle.std.proofs.Common.{◌∙◌}
use Rattle.idl_bits.proofs.Patterns.{value-at}
use Rattle.idl_bits.specs.Operators.{product_of}
use Rattle.idl_bits.proofs.arithmetic.mul.Goals as goal

pub returns : goal.returns
unfolding product_of
returns c = c.product_at.ensures ∙ value-at _ _ _ _ c.larger_width.ensures.value
