use Rattle.std.proofs.Common.{◌∙◌}
use Rattle.std.proofs.Common.{◌+◌}
use Rattle.idl_bits.proofs.Patterns.{value-at}
use Rattle.idl_bits.specs.Operators.{wide_product_of}
use Rattle.idl_bits.proofs.arithmetic.wide_mul.Goals as goal

pub returns : goal.returns
unfolding wide_product_of
returns c = c.product_at.ensures ∙ value-at _ _ _ _ (λ i. c.width.ensures.value i + c.width-2.ensures.value i)
