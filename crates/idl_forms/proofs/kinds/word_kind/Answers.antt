use Rattle.std.proofs.Common.{◌≡◌, None, Some, sym, ap, ◌∙◌}
use Rattle.std.specs.Prelude.{option_map}
use Rattle.idl_spec.specs.Shapes.{innermost}
use Rattle.idl_forms.specs.States.{as_scalar, scope_of}
use Rattle.idl_forms.specs.Scenes.{setting_of}
use Rattle.idl_forms.specs.Kinds.{numbered_if_any}
use Rattle.idl_forms.proofs.WordKinds.{word-local, word-variable, word-parameter}
use Rattle.idl_forms.proofs.kinds.word_kind.Goals as goal

pub returns-in-Some-clause-value : goal.returns-in-Some-clause-value
returns-in-Some-clause-value c =
    let found : innermost (scope_of c.args.scope.now) c.args.name.now ≡ Some (as_scalar c.in-Some.value) = sym c.local.ensures ∙ ap (option_map as_scalar) c.in-Some.is in
    ap Some (c.kind_of.ensures.value (setting_of c.args.scene.now))
    ∙ sym (ap (numbered_if_any (setting_of c.args.scene.now)) (word-local (setting_of c.args.scene.now) (scope_of c.args.scope.now) c.args.name.now (as_scalar c.in-Some.value) found))

pub returns-then-has_variable-clause-value : goal.returns-then-has_variable-clause-value
returns-then-has_variable-clause-value c =
    let none : innermost (scope_of c.args.scope.now) c.args.name.now ≡ None = sym c.local.ensures ∙ ap (option_map as_scalar) c.in_default.is in
    c.variable_kind.ensures.value
    ∙ sym (ap (numbered_if_any (setting_of c.args.scene.now)) (word-variable (setting_of c.args.scene.now) (scope_of c.args.scope.now) c.args.name.now none (sym c.has_variable.ensures ∙ c.if-has_variable.true)))

pub returns-clause-value : goal.returns-clause-value
returns-clause-value c =
    let none : innermost (scope_of c.args.scope.now) c.args.name.now ≡ None = sym c.local.ensures ∙ ap (option_map as_scalar) c.in_default.is in
    c.parameter_kind.ensures.value
    ∙ sym (ap (numbered_if_any (setting_of c.args.scene.now)) (word-parameter (setting_of c.args.scene.now) (scope_of c.args.scope.now) c.args.name.now none (sym c.has_variable.ensures ∙ c.if-has_variable.false)))
