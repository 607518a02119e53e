use Rattle.std.proofs.Common.{◌≡◌, ℕ, ◌<◌, ◌+◌, false, Option, Some, ap, ◌∙◌, arith}
use Rattle.std.specs.Prelude.{nat_le}
use Rattle.std.proofs.lemmas.Bool.{leb-false}
use Rattle.idl_bits.specs.BitVector.{BitVector}
use Rattle.idl_bits.specs.Operators.{wide_left_shift_of}
use Rattle.idl_spec.specs.Values.{within}
use Rattle.idl_spec.specs.Harts.{State, or_stuck}
use Rattle.idl_spec.specs.Settings.{number_of_width, sized}
use Rattle.idl_forms.specs.Scenes.{setting_of}
use Rattle.idl_forms.proofs.Endings.{bits-given}
use Rattle.idl_forms.proofs.Widths.{sized-stuck, some-of}
use Rattle.idl_forms.proofs.operators.wide_left.Goals as goal

pub returns-then-not-fits : goal.returns-then-not-fits
unfolding wide_left_shift_of
returns-then-not-fits c = λ s o h.
    let left = c.in_ok-left.left in
    let by = c.in_ok-by.field-0 in
    let number = number_of_width (setting_of c.args.scene.now) c.args.by.now in
    let past : nat_le (c.width.result + by) 128 ≡ false = cc (c.fits.ensures, c.if-not-fits.ensures) in
    let over : 128 < c.width.result + by = leb-false (c.width.result + by) 128 past in
    let wide : 128 < left.width + by = omega arith in
    let is : within 0 127 number ≡ Some by = some-of (within 0 127 number) by c.in_ok-by.ensures.value in
    bits-given o (λ (v : BitVector) (t : State). or_stuck (within 0 127 number) (λ k. sized (wide_left_shift_of v k) t)) left s (c.in_ok-left.ensures s o h)
    ∙ ap (λ (x : Option ℕ). or_stuck x (λ k. sized (wide_left_shift_of left k) s)) is
    ∙ sized-stuck (wide_left_shift_of left by) s wide
