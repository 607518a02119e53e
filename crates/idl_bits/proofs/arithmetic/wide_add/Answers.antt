use Rattle.std.proofs.Common.{ap, ◌∙◌}
use Rattle.std.proofs.Common.{◌+◌}
use Rattle.idl_bits.proofs.Patterns.{value-at}
use Rattle.idl_bits.specs.Operators.{wide_sum_of}
use Rattle.idl_bits.proofs.arithmetic.wide_add.Goals as goal

pub returns : goal.returns
unfolding wide_sum_of
returns c = c.sum_at.ensures ∙ value-at _ _ _ _ (ap (λ w. w + 1) c.larger_width.ensures.value)
