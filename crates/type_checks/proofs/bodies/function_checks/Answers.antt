use Rattle.std.proofs.Common.{[], take, map, refl, sym, ap, ◌∙◌}
use Rattle.std.specs.Prelude.{slice_get}
use Rattle.std.specs.Option.{option_copied}
use Rattle.idl_spec.specs.Checks.{argument_names}
use Rattle.type_kinds.specs.Views.{visible_of, returned}
use Rattle.type_issues.specs.Issues.{checks_of}
use Rattle.type_checks.proofs.BodyForms.{function-is, function-missing, if-ok}
use Rattle.type_checks.proofs.bodies.function_checks.Goals as goal

pub returns-in_ok-names-in-Some : goal.returns-in_ok-names-in-Some
returns-in_ok-names-in-Some c =
    let place = c.args.place in
    let slice = c.as_slice-functions.result.now in
    if-ok checks_of c.checks_in.result
    (function-is c.args.space.now c.args.program.now c.args.presence.now c.args.body.now place c.in-Some.function.now [] (take place slice) (returned c.returned.result) (map visible_of c.as_slice-in-Some-2.result.now)
    (ap (λ fs. slice_get fs place) (sym c.as_slice-functions.ensures) ∙ sym c.at.ensures ∙ ap option_copied c.in-Some.is) refl
    (ap (take place) c.as_slice-functions.ensures) c.returned.ensures
    (ap (map visible_of) c.as_slice-in-Some-2.ensures ∙ c.in_ok-names-in-Some.ensures ∙ ap argument_names c.as_slice-in-Some.ensures))
    c.checks_in.ensures

pub returns-in-None : goal.returns-in-None
returns-in-None c =
    let place = c.args.place in
    let slice = c.as_slice-functions.result.now in
    if-ok checks_of c.checks_in-in-None.result
    (function-missing c.args.space.now c.args.program.now c.args.presence.now c.args.body.now place [] slice (map visible_of c.as_slice-in-None.result.now)
    (ap (λ fs. slice_get fs place) (sym c.as_slice-functions.ensures) ∙ sym c.at.ensures ∙ ap option_copied c.in-None.is) refl c.as_slice-functions.ensures
    (ap (map visible_of) (c.as_slice-in-None.ensures ∙ c.new-names.ensures)))
    c.checks_in-in-None.ensures
