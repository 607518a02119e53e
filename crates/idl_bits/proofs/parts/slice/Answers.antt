use Rattle.std.proofs.Common.{refl, ap, ◌∙◌}
use Rattle.std.specs.Prelude.{◌+◌, ◌-◌, ◌/◌, ◌%◌, ◌^◌}
use Rattle.idl_bits.proofs.Patterns.{same-parts}
use Rattle.idl_bits.proofs.Modulo.{pattern_of-pos}
use Rattle.idl_bits.specs.Operators.{slice_of}
use Rattle.idl_bits.proofs.parts.slice.Goals as goal

pub returns : goal.returns
unfolding slice_of
returns c =
    same-parts _ _ _ _ _ _ c.wrap.result c.wrap.ensures refl refl
    (pattern_of-pos _ _ ∙ ap (λ p. p / 2 ^ c.args.low % 2 ^ (c.args.high - c.args.low + 1)) c.pattern.ensures.value)
