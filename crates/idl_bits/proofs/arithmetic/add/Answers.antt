use Rattle.std.proofs.Common.{◌∙◌}
use Rattle.idl_bits.proofs.Patterns.{value-at}
use Rattle.idl_bits.specs.Operators.{sum_of}
use Rattle.idl_bits.proofs.arithmetic.add.Goals as goal

pub returns : goal.returns
unfolding sum_of
returns c = c.sum_at.ensures ∙ value-at _ _ _ _ c.larger_width.ensures.value
