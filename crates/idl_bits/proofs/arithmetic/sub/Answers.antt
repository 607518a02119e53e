use Rattle.std.proofs.Common.{◌∙◌}
use Rattle.idl_bits.proofs.Patterns.{value-at}
use Rattle.idl_bits.specs.Operators.{difference_of}
use Rattle.idl_bits.proofs.arithmetic.sub.Goals as goal

pub returns : goal.returns
unfolding difference_of
returns c = c.difference_at.ensures ∙ value-at _ _ _ _ c.larger_width.ensures.value
