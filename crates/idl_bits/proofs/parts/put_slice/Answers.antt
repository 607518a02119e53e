use Rattle.std.proofs.Common.{◌∙◌, arith}
use Rattle.std.specs.Prelude.{◌+◌, ◌-◌}
use Rattle.idl_bits.specs.Number.{number}
use Rattle.idl_bits.proofs.Patterns.{same-parts}
use Rattle.idl_bits.proofs.Fields.{with_field-lt}
use Rattle.idl_bits.proofs.Modulo.{pattern_of-lt}
use Rattle.idl_bits.specs.Operators.{with_slice, with_field}
use Rattle.idl_bits.proofs.parts.put_slice.Goals as goal

pub with_field-requires-clause-in_width : goal.with_field-requires-clause-in_width
with_field-requires-clause-in_width c = rw c.extend-part.ensures (pattern_of-lt _ _)

pub new-requires-clause-in_width : goal.new-requires-clause-in_width
new-requires-clause-in_width c =
    let in_width = rw (← c.extend-part.ensures) at (pattern_of-lt (c.args.high - c.args.low + 1) (number c.args.value)) in
    rw (c.with_field.ensures, c.width.ensures.value) (with_field-lt _ _ _ _ c.args.a.width c.pattern.ensures.in_width (omega arith) in_width)

pub returns : goal.returns
unfolding with_slice
returns c =
    same-parts _ _ _ _ _ _ c.new.result c.new.ensures c.width.ensures.value c.signed.ensures
    (c.with_field.ensures ∙ (λ i. with_field (c.pattern.ensures.value i) c.args.low (c.args.high - c.args.low + 1) (c.extend-part.ensures i)))
