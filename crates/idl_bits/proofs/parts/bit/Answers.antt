use Rattle.std.proofs.Common.{refl, ap, ◌∙◌}
use Rattle.std.specs.Prelude.{bit_and}
use Rattle.std.specs.Int.{bit_at}
use Rattle.std.proofs.lemmas.Nat.Bits.{shr_and_one}
use Rattle.idl_bits.proofs.Patterns.{same-parts}
use Rattle.idl_bits.proofs.Fields.{shifted-right}
use Rattle.idl_bits.specs.Operators.{bit_of}
use Rattle.idl_bits.proofs.parts.bit.Goals as goal

pub returns : goal.returns
unfolding bit_of
returns c =
    same-parts _ _ _ _ _ _ c.new.result c.new.ensures refl refl
    (ap (λ x. bit_and x 1) (c.unbounded_shr.ensures ∙ shifted-right _ _ c.shift_amount.ensures.limit c.pattern.type_inv)
    ∙ shr_and_one _ _ ∙ (λ i. bit_at (c.pattern.ensures.value i) (c.shift_amount.ensures.value i)))
