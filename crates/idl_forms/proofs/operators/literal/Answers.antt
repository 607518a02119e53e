use Rattle.std.proofs.Common.{◌≡◌, ℕ, ◌<◌, ◌^◌, ◌%◌, Option, Some, sym, ap, ◌∙◌, subst}
use Rattle.std.proofs.lemmas.Nat.{pow_pos, mod_below}
use Rattle.idl_spec.specs.Values.{Value, bits, within}
use Rattle.idl_spec.specs.Harts.{done, or_stuck}
use Rattle.idl_spec.specs.Settings.{number_of_width}
use Rattle.idl_forms.specs.States.{as_value}
use Rattle.idl_forms.specs.Scenes.{setting_of}
use Rattle.idl_forms.proofs.Masks.{masked}
use Rattle.idl_forms.proofs.Widths.{some-of}
use Rattle.idl_forms.proofs.operators.literal.Goals as goal

pub new-requires-clause-in_width : goal.new-requires-clause-in_width
new-requires-clause-in_width c =
    let size = c.in_ok-size.size in
    subst (λ (n : ℕ). n < 2 ^ size) (sym (masked 128 size c.args.number c.in_ok-size.ensures.bounds.1)) (mod_below c.args.number (2 ^ size) (pow_pos size))

pub returns : goal.returns
returns c = λ s.
    let size = c.in_ok-size.size in
    let signed = c.args.signed in
    let number = number_of_width (setting_of c.args.scene.now) c.args.width.now in
    let cut = masked 128 size c.args.number c.in_ok-size.ensures.bounds.1 in
    let value : as_value c.of_bits.result ≡ bits (record { width = size; signed = signed; pattern = c.args.number % 2 ^ size }) =
    c.of_bits.ensures ∙ ap bits (c.new.ensures ∙ ap (λ (n : ℕ). record { width = size; signed = signed; pattern = n }) cut) in
    let is : within 1 128 number ≡ Some size = some-of (within 1 128 number) size c.in_ok-size.ensures.value in
    ap (λ (x : Option ℕ). or_stuck x (λ k. done (bits (record { width = k; signed = signed; pattern = c.args.number % 2 ^ k })) s)) is
    ∙ ap (λ (v : Value). done v s) (sym value)
