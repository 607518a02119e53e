use Rattle.std.proofs.Common.{◌≡◌, None, sym, ap, ◌∙◌, refl}
use Rattle.std.specs.Prelude.{option_map}
use Rattle.idl_spec.specs.Values.{bits}
use Rattle.idl_spec.specs.Harts.{required}
use Rattle.idl_spec.specs.Shapes.{innermost}
use Rattle.idl_spec.specs.Fields.{variables_for}
use Rattle.idl_spec.specs.Settings.{variable_among, value_named, parameter_value}
use Rattle.idl_forms.specs.States.{as_value, as_scalar, scope_of}
use Rattle.idl_forms.specs.Scenes.{setting_of}
use Rattle.idl_forms.proofs.Endings.{ends-same}
use Rattle.idl_forms.proofs.WordKinds.{parameter-left}
use Rattle.idl_forms.proofs.names.word.Goals as goal

pub returns : goal.returns
returns c = λ s at.
    let e = setting_of c.args.scene.now in
    let scope = scope_of c.args.scope.now in
    let name = c.args.name.now in
    let none : innermost scope name ≡ None = sym c.local.ensures ∙ ap (option_map as_scalar) c.in_default.is in
    let gone : variable_among c.args.word (variables_for c.args.scene.now.registers c.args.scene.now.variables.now name) ≡ None =
    sym c.variable.ensures ∙ ap (option_map bits) c.in_default-variable.is in
    ends-same as_value (required (value_named e scope name s) s) (required (parameter_value e name) s) c.parameter.result c.parameter.result s
    (ap (λ o. required o s) (parameter-left e scope name c.args.word c.args.scene.now.registers s at c.requires.ready.registers none gone)) refl (c.parameter.ensures s)
