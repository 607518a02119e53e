use Rattle.std.proofs.Common.{◌≡◌, ◌+◌, ◌*◌, ◌≤◌, [], suc, length, drop}
use Rattle.std.specs.Str.{IsCharBoundary}
use Rattle.yaml_spec.specs.Reading as spec
use Rattle.udb_yaml.proofs.flow.+flow.Given as goal

abbrev pub invariant-parts-parts : goal.invariant-parts-parts
invariant-parts-parts l = (spec.flow_parts l.group (spec.flow l.room) l.left l.before (drop l.at l.text) ≡ spec.flow_parts l.group (spec.flow l.room) (suc (length l.fn.text)) [] l.fn.text) × (l.at ≤ length l.text) × IsCharBoundary l.text l.at

abbrev pub decreases-parts-parts : goal.decreases-parts-parts
decreases-parts-parts l = l.left

abbrev pub decreases-flow : goal.decreases-flow
decreases-flow l = 5 * l.room + 1

abbrev pub decreases-group : goal.decreases-group
decreases-group l = 5 * l.room

abbrev pub decreases-rest : goal.decreases-rest
decreases-rest l = 5 * l.room + 4

abbrev pub decreases-parts : goal.decreases-parts
decreases-parts l = 5 * l.room + 3

abbrev pub decreases-part : goal.decreases-part
decreases-part l = 5 * l.room + 2
