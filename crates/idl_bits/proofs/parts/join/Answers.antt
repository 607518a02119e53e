use Rattle.std.proofs.Common.{refl, ◌∙◌}
use Rattle.std.specs.Prelude.{◌+◌, ◌*◌, ◌^◌}
use Rattle.idl_bits.proofs.Patterns.{same-parts}
use Rattle.idl_bits.proofs.Fields.{joined, joined-lt}
use Rattle.idl_bits.specs.Operators.{join_of}
use Rattle.idl_bits.proofs.parts.join.Goals as goal

pub new-requires-clause-in_width : goal.new-requires-clause-in_width
new-requires-clause-in_width c =
    joined-lt c.args.a.width c.args.b.width _ _ _ c.width-low.ensures.value c.pattern.ensures.in_width c.pattern-2.ensures.in_width c.requires _ c.width.ensures.value

pub returns : goal.returns
unfolding join_of
returns c =
    same-parts _ _ _ _ _ _ c.new.result c.new.ensures (λ i. c.width.ensures.value i + c.width-low.ensures.value i) refl
    (joined c.args.a.width c.args.b.width _ _ _ c.width-low.ensures.value c.pattern.ensures.in_width c.pattern-2.ensures.in_width c.requires
    ∙ (λ i. c.pattern.ensures.value i * 2 ^ c.args.b.width + c.pattern-2.ensures.value i))
