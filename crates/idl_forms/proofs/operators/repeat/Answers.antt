use Rattle.std.proofs.Common.{◌≡◌, ℕ, ◌<◌, ◌*◌, Option, Some, ap, ◌∙◌, arith}
use Rattle.idl_bits.specs.BitVector.{BitVector}
use Rattle.idl_bits.specs.Operators.{repeat_of}
use Rattle.idl_spec.specs.Values.{within}
use Rattle.idl_spec.specs.Harts.{State, or_stuck}
use Rattle.idl_spec.specs.Settings.{number_of_width, sized}
use Rattle.idl_forms.specs.Scenes.{setting_of}
use Rattle.idl_forms.proofs.Endings.{bits-given}
use Rattle.idl_forms.proofs.Widths.{sized-stuck, some-of}
use Rattle.idl_forms.proofs.operators.repeat.Goals as goal

pub returns-then-from-gt128 : goal.returns-then-from-gt128
unfolding repeat_of
returns-then-from-gt128 c = λ s o h.
    let of = c.in_ok-of.of in
    let times = c.in_ok-times.times in
    let number = number_of_width (setting_of c.args.scene.now) c.args.times.now in
    let left : c.from.result ≡ of.width = cc (c.from.ensures, c.width.ensures.value) in
    let right : c.from-2.result ≡ times = cc (c.from-2.ensures) in
    let product : c.from.result * c.from-2.result ≡ of.width * times = λ i. left i * right i in
    let wide : 128 < of.width * times = omega (arith, product, c.if-from-gt128.true) in
    let is : within 1 128 number ≡ Some times = some-of (within 1 128 number) times c.in_ok-times.ensures.value in
    bits-given o (λ (v : BitVector) (t : State). or_stuck (within 1 128 number) (λ k. sized (repeat_of v k) t)) of s (c.in_ok-of.ensures s o h)
    ∙ ap (λ (x : Option ℕ). or_stuck x (λ k. sized (repeat_of of k) s)) is
    ∙ sized-stuck (repeat_of of times) s wide
