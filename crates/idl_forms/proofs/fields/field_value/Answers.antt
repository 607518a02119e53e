use Rattle.std.proofs.Common.{◌≡◌, ◌<◌, ◌^◌, Some, sym, ap, subst, ◌∙◌}
use Rattle.std.specs.Prelude.{map, option_map}
use Rattle.idl_spec.specs.Harts.{field_number}
use Rattle.idl_spec.specs.Fields.{part_width, present_field}
use Rattle.idl_forms.specs.States.{field_of}
use Rattle.idl_forms.specs.Scenes.{placed_of}
use Rattle.idl_forms.proofs.SceneKinds.{or-stop-ok}
use Rattle.idl_forms.proofs.PresentFields.{number-small}
use Rattle.idl_forms.proofs.fields.field_value.Goals as goal

pub new-requires-clause-in_width : goal.new-requires-clause-in_width
new-requires-clause-in_width c =
    let first : c.present_field.result ≡ Some c.in_ok-placed.placed = or-stop-ok c.present_field.result c.in_ok-placed.placed (sym c.required.ensures ∙ c.in_ok-placed.was) in
    let second : c.field_number.result ≡ Some c.in_ok-number.number = or-stop-ok c.field_number.result c.in_ok-number.number (sym c.required-2.ensures ∙ c.in_ok-number.was) in
    let there : present_field c.args.scene.now.space.now c.args.scene.now.full.now c.args.scene.now.program.now c.args.csr.now c.args.field.now ≡ Some (placed_of c.in_ok-placed.placed) = sym c.present_field.ensures.value ∙ ap (option_map placed_of) first in
    let counted : field_number (map field_of c.args.state.now.fields) c.args.csr.now c.args.field.now ≡ Some c.in_ok-number.number =
    ap (λ vs. field_number (map field_of vs) c.args.csr.now c.args.field.now) (sym c.as_slice.ensures) ∙ (sym c.field_number.ensures ∙ second) in
    let small : c.in_ok-number.number < 2 ^ part_width c.in_ok-placed.placed.bits =
    number-small c.args.scene.now.space.now c.args.scene.now.full.now c.args.scene.now.program.now c.args.csr.now c.args.field.now (map field_of c.args.state.now.fields) c.in_ok-number.number (placed_of c.in_ok-placed.placed) c.requires.sound.fields counted there in
    subst (λ m. c.from.result < 2 ^ m) (sym c.part_width-width.ensures.value) (subst (λ m. m < 2 ^ part_width c.in_ok-placed.placed.bits) (sym c.from.ensures) small)
