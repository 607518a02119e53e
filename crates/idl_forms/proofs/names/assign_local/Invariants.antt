use Rattle.std.proofs.Common.{◌≡◌, ◌≤◌, None, drop, length}
use Rattle.idl_spec.specs.Shapes.{innermost}
use Rattle.idl_forms.specs.States.{scope_of}
use Rattle.idl_forms.proofs.names.assign_local.Given as goal

abbrev pub invariant-loop-at : goal.invariant-loop-at
invariant-loop-at l = (l.scope ≡ l.fn.scope) × (l.at ≤ length l.scope) × (innermost (scope_of (drop l.at l.scope)) l.name ≡ None)

abbrev pub decreases-loop-at : goal.decreases-loop-at
decreases-loop-at l = l.at
