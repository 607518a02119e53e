use Rattle.std.proofs.Common.{◌≡◌, ◌++◌, take}
use Rattle.udb_schema.specs.Faults as spec
use Rattle.udb_schema.specs.Validating as view
use Rattle.udb_schema.proofs.validating.push_with_key.Given as goal

abbrev pub invariant-loop-property : goal.invariant-loop-property
invariant-loop-property l = view.behind l.into.items ≡ view.behind l.initial.into.items ++ spec.with_key l.key (take l.property-index l.properties)
