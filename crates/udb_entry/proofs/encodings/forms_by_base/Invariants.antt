use Rattle.std.proofs.Common.{◌≡◌, ◌++◌, drop, map}
use Rattle.udb_entry.specs.Entries as spec
use Rattle.udb_entry.specs.Rules as rules
use Rattle.udb_entry.proofs.encodings.forms_by_base.Given as goal

abbrev pub invariant-loop-pair : goal.invariant-loop-pair
invariant-loop-pair l =
    (l.encodings ++ (spec.forms (map spec.form_of (drop l.pair-index l.pairs))).encodings ≡ (spec.forms (map spec.form_of l.pairs)).encodings)
    × (l.variables ++ (spec.forms (map spec.form_of (drop l.pair-index l.pairs))).variables ≡ (spec.forms (map spec.form_of l.pairs)).variables)
    × (rules.first_form rules.form_rule (map spec.form_of (drop l.pair-index l.pairs)) ≡ rules.first_form rules.form_rule (map spec.form_of l.pairs))
