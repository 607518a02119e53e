use Rattle.std.proofs.Common.{◌≡◌, drop}
use Rattle.udb_entry.specs.Alphabets.{is_local_name}
use Rattle.udb_entry.specs.Rules as rules
use Rattle.udb_entry.proofs.rules.variable_names_rule.Given as goal

abbrev pub invariant-loop-item : goal.invariant-loop-item
invariant-loop-item l = rules.first_unfit is_local_name (rules.names_of (drop l.item-index l.items)) ≡ rules.first_unfit is_local_name (rules.names_of l.items)
