use Rattle.std.proofs.Common.{◌∙◌}
use Rattle.std.specs.Prelude.{◌^◌, ◌/◌}
use Rattle.idl_bits.proofs.Patterns.{same-parts}
use Rattle.idl_bits.proofs.Fields.{shifted-right}
use Rattle.idl_bits.specs.Operators.{right_shift_of}
use Rattle.idl_bits.proofs.shifts.shr.Goals as goal

pub returns : goal.returns
unfolding right_shift_of
returns c =
    same-parts _ _ _ _ _ _ c.new.result c.new.ensures c.width.ensures.value c.signed.ensures
    (c.unbounded_shr.ensures ∙ shifted-right _ _ c.shift_amount.ensures.limit c.pattern.type_inv ∙ (λ i. c.pattern.ensures.value i / 2 ^ c.shift_amount.ensures.value i))
