use Rattle.std.proofs.Common.{◌≡◌, ◌<◌, ◌+◌, false, length, drop, ◌∙◌, arith}
use Rattle.std.specs.Prelude.{nat_le}
use Rattle.std.proofs.lemmas.Bool.{leb-false}
use Rattle.idl_bits.specs.Operators.{join_of}
use Rattle.idl_forms.proofs.Widths.{behind-more, behind-stuck}
use Rattle.idl_forms.proofs.operators.join.Goals as goal

pub returns-then-not-fits : goal.returns-then-not-fits
unfolding join_of
returns-then-not-fits c = λ s.
    let rest = c.in-Some.rest.now in
    let at = c.loop-part.part-index in
    let joined = c.loop-part.joined in
    let part = c.part-item.result in
    let past : nat_le (c.width.result + c.width-in-loop-part.result) 128 ≡ false = cc (c.fits.ensures, c.if-not-fits.ensures) in
    let over : 128 < c.width.result + c.width-in-loop-part.result = leb-false (c.width.result + c.width-in-loop-part.result) 128 past in
    let wide : 128 < joined.width + part.width = omega arith in
    let within : at < length rest = omega arith in
    c.loop-part.invariant s ∙ behind-more joined rest at part s within c.part-item.is ∙ behind-stuck (join_of joined part) (drop (at + 1) rest) s wide
