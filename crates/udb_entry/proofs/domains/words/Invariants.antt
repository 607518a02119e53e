use Rattle.std.proofs.Common.{◌≡◌, ◌++◌, drop, map}
use Rattle.udb_entry.specs.Keys as keys
use Rattle.udb_entry.proofs.domains.words.Given as goal

abbrev pub invariant-loop-item : goal.invariant-loop-item
invariant-loop-item l = l.words ++ map keys.text_in (drop l.item-index l.items) ≡ map keys.text_in l.items
