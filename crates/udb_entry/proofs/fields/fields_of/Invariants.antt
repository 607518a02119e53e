use Rattle.std.proofs.Common.{◌≡◌, ◌++◌, drop, map, None}
use Rattle.udb_entry.specs.Entries as spec
use Rattle.udb_entry.specs.First as order
use Rattle.udb_entry.proofs.fields.fields_of.Given as goal

abbrev pub invariant-loop-pair : goal.invariant-loop-pair
invariant-loop-pair l =
    (order.earliest l.worst (map order.field_breach (drop l.pair-index l.pairs)) ≡ order.earliest None (map order.field_breach l.pairs))
    × (l.worst ≡ None → l.list ++ map spec.field_of (drop l.pair-index l.pairs) ≡ map spec.field_of l.pairs)
