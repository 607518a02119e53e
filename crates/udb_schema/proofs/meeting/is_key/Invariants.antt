use Rattle.std.proofs.Common.{◌≡◌, drop}
use Rattle.yaml_spec.specs.Line.{has_key}
use Rattle.udb_schema.proofs.meeting.is_key.Given as goal

abbrev pub invariant-loop-entry : goal.invariant-loop-entry
invariant-loop-entry l = has_key l.key (drop l.entry-index l.entries) ≡ has_key l.key l.entries
