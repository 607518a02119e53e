use Rattle.std.proofs.Common.{◌≡◌, ◌++◌, drop, map}
use Rattle.udb_entry.specs.Keys as keys
use Rattle.udb_entry.proofs.domains.numbers.Given as goal

abbrev pub invariant-loop-item : goal.invariant-loop-item
invariant-loop-item l = l.numbers ++ map keys.number_in (drop l.item-index l.items) ≡ map keys.number_in l.items
