use Rattle.std.proofs.Common.{◌≡◌, ◌<◌, ◌+◌, false, arith}
use Rattle.std.specs.Prelude.{nat_le}
use Rattle.std.proofs.lemmas.Bool.{leb-false}
use Rattle.idl_bits.specs.Number.{larger}
use Rattle.idl_bits.specs.Operators.{wide_difference_of}
use Rattle.idl_forms.proofs.Widths.{sized-stuck}
use Rattle.idl_forms.proofs.operators.wide_difference.Goals as goal

pub returns-then-not-fits : goal.returns-then-not-fits
unfolding wide_difference_of
returns-then-not-fits c = λ s.
    let past : nat_le (c.max.result + 1) 128 ≡ false = cc (c.fits.ensures, c.if-not-fits.ensures) in
    let over : 128 < c.max.result + 1 = leb-false (c.max.result + 1) 128 past in
    let wide : 128 < larger c.args.x c.args.y + 1 = omega arith in
    sized-stuck (wide_difference_of c.args.x c.args.y) s wide
