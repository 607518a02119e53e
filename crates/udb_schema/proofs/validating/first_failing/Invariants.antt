use Rattle.std.proofs.Common.{◌≡◌, drop, None}
use Rattle.udb_schema.specs.Faults as spec
use Rattle.udb_schema.specs.Validating as view
use Rattle.udb_schema.proofs.validating.first_failing.Given as goal

abbrev pub invariant-loop-schema : goal.invariant-loop-schema
invariant-loop-schema l = spec.earliest l.least (spec.failing (view.behind (drop l.schema-index l.schemas)) l.tree) ≡ spec.earliest None (spec.failing (view.behind l.schemas) l.tree)
