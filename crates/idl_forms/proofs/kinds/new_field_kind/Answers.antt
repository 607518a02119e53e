use Rattle.std.proofs.Common.{sym, ap, ◌∙◌}
use Rattle.std.specs.Prelude.{option_map, option_and_then}
use Rattle.idl_spec.specs.Shapes.{field_kind}
use Rattle.idl_spec.specs.Settings.{names_of}
use Rattle.idl_forms.specs.Kinds.{numbered_if_any}
use Rattle.idl_forms.specs.Scenes.{setting_of, new_number}
use Rattle.idl_forms.proofs.kinds.new_field_kind.Goals as goal

pub returns-clause-value : goal.returns-clause-value
returns-clause-value c = λ scope.
    c.field_kind.ensures.value scope
    ∙ sym (ap (λ o. numbered_if_any (setting_of c.args.scene.now) (option_and_then (λ n. field_kind (names_of (setting_of c.args.scene.now) scope) n c.args.field.now) (option_map (λ n. n.csr) (option_map new_number o)))) c.in_ok-new.was)
