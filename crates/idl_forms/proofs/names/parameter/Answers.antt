use Rattle.std.proofs.Common.{◌≡◌, Some, sym, ap, ◌∙◌}
use Rattle.std.specs.Option.{option_copied}
use Rattle.udb_spec.specs.Conditions.{value_of}
use Rattle.idl_spec.specs.Shapes.{parameter_named}
use Rattle.idl_forms.proofs.SceneKinds.{or-stop-ok}
use Rattle.idl_forms.proofs.ChoicePlaces.{in-domain}
use Rattle.idl_forms.proofs.names.parameter.Goals as goal

pub given_value-requires : goal.given_value-requires
given_value-requires c =
    let found : c.parameter_named.result ≡ Some c.in_ok-param.param = or-stop-ok c.parameter_named.result c.in_ok-param.param (sym c.required.ensures ∙ c.in_ok-param.was) in
    let first : parameter_named c.args.scene.now.space.now.params c.args.name.now ≡ Some c.in_ok-param.param.now =
    ap (λ ps. parameter_named ps c.args.name.now) (sym c.as_slice.ensures) ∙ (sym c.parameter_named.ensures ∙ ap option_copied found) in
    let second : value_of c.args.scene.now.space.now c.args.scene.now.full.now c.args.name.now ≡ Some c.in-Some.given.now =
    ap (λ n. value_of c.args.scene.now.space.now c.args.scene.now.full.now n) (sym c.as_str.ensures) ∙ (sym c.value_of.ensures ∙ ap option_copied c.in-Some.is) in
    in-domain c.args.scene.now.space.now c.args.scene.now.full.now c.args.scene.now.space.now.params c.args.scene.now.full.now.params c.args.name.now
    c.in_ok-param.param.now c.in-Some.given.now c.requires.ready.valid.values first second
