use Rattle.std.proofs.Common.{◌≡◌, map, drop}
use Rattle.std.specs.List.{list_all}
use Rattle.udb_schema.specs.Equality as spec
use Rattle.udb_schema.proofs.equality.+same.Given as goal

abbrev pub invariant-same_entries-loop-entry : goal.invariant-same_entries-loop-entry
invariant-same_entries-loop-entry l = list_all (spec.has_entry l.others) (map spec.entry (drop l.entry-index l.entries)) ≡ list_all (spec.has_entry l.others) (map spec.entry l.entries)

abbrev pub invariant-same_items-loop-place : goal.invariant-same_items-loop-place
invariant-same_items-loop-place l = spec.agree (map spec.same (drop l.place l.items)) (drop l.place l.others) ≡ spec.agree (map spec.same l.items) l.others
