use Rattle.std.proofs.Common.{ap, ◌∙◌}
use Rattle.std.specs.Prelude.{◌^◌, pos}
use Rattle.std.specs.Int.{int_div_euclid}
use Rattle.idl_bits.specs.Number.{number, pattern_of}
use Rattle.idl_bits.proofs.Patterns.{same-parts}
use Rattle.idl_bits.proofs.Modulo.{pattern_of-lt}
use Rattle.idl_bits.specs.Operators.{signed_of, sign_shift_of}
use Rattle.idl_bits.proofs.shifts.sar.Goals as goal

pub new-requires-clause-in_width : goal.new-requires-clause-in_width
new-requires-clause-in_width c = rw (c.sign_shift.ensures, c.width.ensures.value) (pattern_of-lt _ _)

pub returns : goal.returns
unfolding sign_shift_of
returns c =
    same-parts _ _ _ _ _ _ c.new.result c.new.ensures c.width.ensures.value c.signed.ensures
    (c.sign_shift.ensures ∙ ap (λ k. pattern_of c.args.a.width (int_div_euclid (number (signed_of c.args.a)) (pos (2 ^ k)))) c.shift_amount.ensures.value)
