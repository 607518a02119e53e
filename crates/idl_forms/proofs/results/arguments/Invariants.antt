use Rattle.std.proofs.Common.{◌≡◌, [], map, drop}
use Rattle.idl_spec.specs.Harts.{State}
use Rattle.idl_spec.specs.Programs as bodies
use Rattle.idl_forms.specs.States.{as_value, scope_of}
use Rattle.idl_forms.specs.Scenes.{setting_of}
use Rattle.idl_forms.proofs.results.arguments.Given as goal

abbrev pub invariant-loop-place : goal.invariant-loop-place
invariant-loop-place l = (s : State)
    → bodies.arguments (setting_of l.scene) l.declared (map as_value l.values) [] s
    ≡ bodies.arguments (setting_of l.scene) (drop l.place l.declared) (map as_value (drop l.place l.values)) (scope_of l.scope.items) s
