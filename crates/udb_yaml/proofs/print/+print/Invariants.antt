use Rattle.std.proofs.Common.{◌≡◌, ◌++◌, drop}
use Rattle.udb_yaml.specs.Printing.{items_text, entries_text}
use Rattle.udb_yaml.proofs.print.+print.Given as goal

abbrev pub invariant-push_items-items : goal.invariant-push_items-items
invariant-push_items-items l = l.out ++ items_text l.column (drop l.item-index l.items) ≡ l.fn.out ++ items_text l.fn.column l.fn.items

abbrev pub invariant-push_entries-entries : goal.invariant-push_entries-entries
invariant-push_entries-entries l = l.out ++ entries_text l.column (drop l.entry-index l.entries) ≡ l.fn.out ++ entries_text l.fn.column l.fn.entries
