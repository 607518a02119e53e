use Rattle.std.proofs.Common.{◌≡◌, drop, map}
use Rattle.udb_entry.specs.Entries as spec
use Rattle.udb_entry.specs.Rules as rules
use Rattle.udb_entry.proofs.encodings.names_by_base.Given as goal

abbrev pub invariant-loop-pair : goal.invariant-loop-pair
invariant-loop-pair l = rules.first_form rules.form_names (map spec.form_of (drop l.pair-index l.pairs)) ≡ rules.first_form rules.form_names (map spec.form_of l.pairs)
