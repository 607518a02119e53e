use Rattle.std.proofs.Common.{◌≡◌, Some, sym, ap, subst, ◌∙◌}
use Rattle.std.specs.Option.{option_copied}
use Rattle.std.specs.Prelude.{All, option_map, filter_map}
use Rattle.idl_spec.specs.Fields.{csr_named, placed, placed_named}
use Rattle.idl_forms.specs.Scenes.{placed_of}
use Rattle.idl_forms.specs.Ready.{ArePlaces}
use Rattle.idl_forms.proofs.PresentFields.{present-unnamed, present-absent, present-named, lawful-places}
use Rattle.idl_forms.proofs.fields.present_field.Goals as goal

pub returns-in_err-csr-clause-value : goal.returns-in_err-csr-clause-value
returns-in_err-csr-clause-value c =
    ap (option_map placed_of) c.from_residual.ensures ∙ sym (present-unnamed c.args.scene.now.space.now c.args.scene.now.full.now c.args.scene.now.program.now c.args.csr.now c.args.field.now (sym c.csr_named.ensures.value ∙ ap option_copied c.in_err-csr.was))

pub returns-then-not-is_present_csr-clause-value : goal.returns-then-not-is_present_csr-clause-value
returns-then-not-is_present_csr-clause-value c =
    let named : csr_named c.args.scene.now.program.now.csrs c.args.csr.now ≡ Some c.in_ok-csr.csr.now = sym c.csr_named.ensures.value ∙ ap option_copied c.in_ok-csr.was in
    sym (present-absent c.args.scene.now.space.now c.args.scene.now.full.now c.args.scene.now.program.now c.args.csr.now c.args.field.now c.in_ok-csr.csr.now named (sym c.is_present_csr.ensures ∙ c.if-not-is_present_csr.true))

pub placed_named-requires-clause-places : goal.placed_named-requires-clause-places
placed_named-requires-clause-places c =
    let named : csr_named c.args.scene.now.program.now.csrs c.args.csr.now ≡ Some c.in_ok-csr.csr.now = sym c.csr_named.ensures.value ∙ ap option_copied c.in_ok-csr.was in
    subst (All (λ f. ArePlaces f.places)) (sym c.as_slice.ensures) (lawful-places c.args.scene.now.program.now c.args.csr.now c.in_ok-csr.csr.now c.requires.ready.program named)

pub returns-clause-value : goal.returns-clause-value
returns-clause-value c =
    let named : csr_named c.args.scene.now.program.now.csrs c.args.csr.now ≡ Some c.in_ok-csr.csr.now = sym c.csr_named.ensures.value ∙ ap option_copied c.in_ok-csr.was in
    c.placed_named.ensures.value ∙ (ap (λ fs. placed_named (filter_map (placed c.args.scene.now.space.now c.args.scene.now.full.now) fs) c.args.field.now) c.as_slice.ensures
    ∙ sym (present-named c.args.scene.now.space.now c.args.scene.now.full.now c.args.scene.now.program.now c.args.csr.now c.args.field.now c.in_ok-csr.csr.now named (sym c.is_present_csr.ensures ∙ c.if-not-is_present_csr.false)))
