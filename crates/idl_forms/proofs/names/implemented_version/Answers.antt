use Rattle.std.proofs.Common.{◌≡◌, None, Some, [], ◌∷◌, sym, ap, ◌∙◌}
use Rattle.std.specs.Prelude.{option_map, option_and_then}
use Rattle.std.specs.Option.{option_copied}
use Rattle.std.specs.Result.{result_ok}
use Rattle.udb_spec.specs.Conditions.{present_among}
use Rattle.udb_cond.specs.Requirements.{requirement_of}
use Rattle.idl_spec.specs.Values.{flag}
use Rattle.idl_spec.specs.Harts.{done, required}
use Rattle.idl_spec.specs.Forms.{choice_among}
use Rattle.idl_forms.proofs.SceneKinds.{exactly-read}
use Rattle.idl_forms.proofs.names.implemented_version.Goals as goal

pub returns-in_default : goal.returns-in_default
returns-in_default c = λ s.
    let read : result_ok c.parse_requirement.result ≡ requirement_of c.as_str.result.now = exactly-read c.as_str.result.now c.parse_requirement.result c.parse_requirement.ensures.spelled c.parse_requirement.ensures.exact in
    let none : requirement_of c.args.text.now ≡ None = ap requirement_of (sym c.as_str.ensures) ∙ (sym read ∙ ap result_ok c.in_default.is) in
    ap (λ o. required (option_and_then (λ need. option_map (λ choice. flag (present_among c.args.scene.now.space.now.extensions c.args.scene.now.full.now.extensions c.args.name.now (need ∷ []))) (choice_among c.args.scene.now.space.now.extensions c.args.scene.now.full.now.extensions c.args.name.now)) o) s) none

pub returns-in-Some : goal.returns-in-Some
returns-in-Some c = λ s.
    let read : result_ok c.parse_requirement.result ≡ requirement_of c.as_str.result.now = exactly-read c.as_str.result.now c.parse_requirement.result c.parse_requirement.ensures.spelled c.parse_requirement.ensures.exact in
    let some : requirement_of c.args.text.now ≡ Some c.in-Ok.need = ap requirement_of (sym c.as_str.ensures) ∙ (sym read ∙ ap result_ok c.in-Ok.is) in
    let chosen : choice_among c.args.scene.now.space.now.extensions c.args.scene.now.full.now.extensions c.args.name.now ≡ Some c.in-Some.field-0.now =
    ap (λ es. choice_among es c.args.scene.now.full.now.extensions c.args.name.now) (sym c.as_slice-extensions.ensures)
    ∙ (ap (λ cs. choice_among c.as_slice-extensions.result.now cs c.args.name.now) (sym c.as_slice-choices.ensures) ∙ (sym c.choice_of.ensures ∙ ap option_copied c.in-Some.is)) in
    let met : c.is_met.result ≡ present_among c.args.scene.now.space.now.extensions c.args.scene.now.full.now.extensions c.args.name.now (c.in-Ok.need ∷ []) =
    c.is_met.ensures ∙ (ap (λ es. present_among es c.as_slice-choices.result.now c.args.name.now (c.in-Ok.need ∷ [])) c.as_slice-extensions.ensures
    ∙ ap (λ cs. present_among c.args.scene.now.space.now.extensions cs c.args.name.now (c.in-Ok.need ∷ [])) c.as_slice-choices.ensures) in
    ap (λ o. required (option_and_then (λ need. option_map (λ choice. flag (present_among c.args.scene.now.space.now.extensions c.args.scene.now.full.now.extensions c.args.name.now (need ∷ []))) (choice_among c.args.scene.now.space.now.extensions c.args.scene.now.full.now.extensions c.args.name.now)) o) s) some
    ∙ (ap (λ o. required (option_map (λ choice. flag (present_among c.args.scene.now.space.now.extensions c.args.scene.now.full.now.extensions c.args.name.now (c.in-Ok.need ∷ []))) o) s) chosen
    ∙ sym (ap (λ v. done v s) (c.of_flag.ensures ∙ ap flag met)))
