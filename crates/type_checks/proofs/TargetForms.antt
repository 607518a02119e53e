-- Targets by the visible names.
use Rattle.std.proofs.Common.{◌≡◌, Bool, [], ◌∷◌, Option, None, Some, refl, ap}
use Rattle.std.specs.Prelude.{option_map, is_some, if◌then◌else◌}
use Rattle.udb_base.specs.declared.names.Name.{Name}
use Rattle.idl_spec.specs.Shapes.{parameter_named}
use Rattle.idl_spec.specs.Demands.{View, Visible, mismatch, unknown_name, mismatch_unless}
use Rattle.idl_spec.specs.Checks.{local_kind, assigned_issues}

pub assigned-local : (view : View) (name : Name) (o : Option Visible) (may : Bool) → option_map (λ v. v.is_assignable) o ≡ Some may → assigned_issues view name o ≡ mismatch_unless may
assigned-local view name None may h = cc
assigned-local view name (Some v) may h = cc

pub assigned-other : (view : View) (name : Name) (o : Option Visible) → option_map (λ v. v.is_assignable) o ≡ None
    → assigned_issues view name o ≡ (if is_some (parameter_named view.space.params name) then mismatch ∷ [] else unknown_name name ∷ [])
assigned-other view name None h = refl
assigned-other view name (Some v) h = cc

pub ruleset assigned_laws = (assigned-local, assigned-other)

pub local-is : (o : Option Visible) (v : Visible) → o ≡ Some v → local_kind o ≡ Some v.kind
local-is o v h = ap local_kind h

pub local-none : (o : Option Visible) → o ≡ None → local_kind o ≡ None
local-none o h = ap local_kind h

pub ruleset local_laws = (local-is, local-none)
