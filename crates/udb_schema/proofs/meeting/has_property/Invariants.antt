use Rattle.std.proofs.Common.{◌≡◌, drop, map}
use Rattle.udb_schema.specs.Meets as spec
use Rattle.udb_schema.proofs.meeting.has_property.Given as goal

abbrev pub invariant-loop-property : goal.invariant-loop-property
invariant-loop-property l = spec.has_property (map spec.property (drop l.property-index l.properties)) l.key ≡ spec.has_property (map spec.property l.properties) l.key
