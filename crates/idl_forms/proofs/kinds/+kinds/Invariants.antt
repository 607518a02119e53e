use Rattle.std.proofs.Common.{◌≡◌, drop}
use Rattle.std.specs.Prelude.{map, IfSome}
use Rattle.idl_spec.specs.Shapes.{shape, join_kind}
use Rattle.idl_spec.specs.Settings.{names_of}
use Rattle.idl_forms.specs.States.{scope_of}
use Rattle.idl_forms.specs.Scenes.{setting_of}
use Rattle.idl_forms.specs.Kinds.{numbered_if_any, IsSmallKind}
use Rattle.idl_forms.specs.NumberedKinds.{joined_kinds}
use Rattle.idl_forms.proofs.kinds.+kinds.Given as goal

abbrev pub invariant-join_kind-loop-part : goal.invariant-join_kind-loop-part
invariant-join_kind-loop-part l =
    let names = names_of (setting_of l.scene) (scope_of l.scope) in
    (joined_kinds l.kind (map (λ p. numbered_if_any (setting_of l.scene) (shape names p)) (drop l.part-index l.rest)) ≡ numbered_if_any (setting_of l.scene) (join_kind (map (shape names) l.parts)))
    × IfSome l.kind IsSmallKind
