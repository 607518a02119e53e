use Rattle.std.proofs.Common.{◌≡◌, ◌<◌, ◌+◌, false, arith}
use Rattle.std.specs.Prelude.{nat_le}
use Rattle.std.proofs.lemmas.Bool.{leb-false}
use Rattle.idl_bits.specs.Operators.{wide_product_of}
use Rattle.idl_forms.proofs.Widths.{sized-stuck}
use Rattle.idl_forms.proofs.operators.wide_product.Goals as goal

pub returns-then-not-fits : goal.returns-then-not-fits
unfolding wide_product_of
returns-then-not-fits c = λ s.
    let past : nat_le (c.width.result + c.width-2.result) 128 ≡ false = cc (c.fits.ensures, c.if-not-fits.ensures) in
    let over : 128 < c.width.result + c.width-2.result = leb-false (c.width.result + c.width-2.result) 128 past in
    let wide : 128 < c.args.x.width + c.args.y.width = omega arith in
    sized-stuck (wide_product_of c.args.x c.args.y) s wide
