use Rattle.std.proofs.Common.{◌≡◌, drop}
use Rattle.udb_entry.specs.Rules as rules
use Rattle.udb_entry.proofs.rules.declared_names_rule.Given as goal

abbrev pub invariant-loop-function : goal.invariant-loop-function
invariant-loop-function l = rules.declared_names (drop l.function-index l.functions) ≡ rules.declared_names l.functions
