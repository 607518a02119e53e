use Rattle.std.proofs.Common.{◌≡◌, take}
use Rattle.udb_schema.specs.Faults as spec
use Rattle.udb_schema.specs.Validating as view
use Rattle.udb_schema.proofs.validating.for_items.Given as goal

abbrev pub invariant-loop-schema : goal.invariant-loop-schema
invariant-loop-schema l = view.behind l.into.items ≡ spec.for_items (view.behind (take l.schema-index l.schemas))
