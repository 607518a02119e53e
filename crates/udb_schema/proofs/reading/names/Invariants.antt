use Rattle.std.proofs.Common.{◌≡◌, drop}
use Rattle.udb_base.specs.Lists.{each, after_parts}
use Rattle.udb_schema.specs.Spelled as spec
use Rattle.udb_schema.proofs.reading.names.Given as goal

abbrev pub invariant-loop-text : goal.invariant-loop-text
invariant-loop-text l = after_parts l.names (each spec.type_name (drop l.text-index l.texts)) ≡ each spec.type_name l.texts
