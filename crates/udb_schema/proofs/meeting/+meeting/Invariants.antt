use Rattle.std.proofs.Common.{◌≡◌, ◌+◌, ◌≤◌, ◌||◌, not, drop, map}
use Rattle.std.specs.List.{list_all, list_any, count_by}
use Rattle.std.specs.Str.{bytes_eq}
use Rattle.udb_schema.specs.Meets as spec
use Rattle.udb_schema.proofs.meeting.+meeting.Given as goal

abbrev pub invariant-items_meet-loop-item : goal.invariant-items_meet-loop-item
invariant-items_meet-loop-item l = list_all (spec.meets l.schema) (drop l.item-index l.items) ≡ list_all (spec.meets l.schema) l.items

abbrev pub invariant-value_meets-loop-property : goal.invariant-value_meets-loop-property
invariant-value_meets-loop-property l = list_all (λ p. not (bytes_eq p.0 l.entry.key) || p.1 l.entry.value) (map spec.property (drop l.property-index l.properties)) ≡ list_all (λ p. not (bytes_eq p.0 l.entry.key) || p.1 l.entry.value) (map spec.property l.properties)

abbrev pub invariant-properties_meet-loop-entry : goal.invariant-properties_meet-loop-entry
invariant-properties_meet-loop-entry l = list_all (λ e. list_all (λ p. not (bytes_eq p.0 e.key) || p.1 e.value) (map spec.property l.properties)) (drop l.entry-index l.entries) ≡ list_all (λ e. list_all (λ p. not (bytes_eq p.0 e.key) || p.1 e.value) (map spec.property l.properties)) l.entries

abbrev pub invariant-others_allowed-loop-entry : goal.invariant-others_allowed-loop-entry
invariant-others_allowed-loop-entry l = list_all (λ e. spec.named l.words e.key || spec.allowed (spec.additional l.additional) e.value) (drop l.entry-index l.entries) ≡ list_all (λ e. spec.named l.words e.key || spec.allowed (spec.additional l.additional) e.value) l.entries

abbrev pub invariant-all_meet-loop-schema : goal.invariant-all_meet-loop-schema
invariant-all_meet-loop-schema l = list_all (λ s. s l.tree) (map spec.meets (drop l.schema-index l.schemas)) ≡ list_all (λ s. s l.tree) (map spec.meets l.schemas)

abbrev pub invariant-any_meets-loop-schema : goal.invariant-any_meets-loop-schema
invariant-any_meets-loop-schema l = list_any (λ s. s l.tree) (map spec.meets (drop l.schema-index l.schemas)) ≡ list_any (λ s. s l.tree) (map spec.meets l.schemas)

abbrev pub invariant-how_many_meet-loop-schema : goal.invariant-how_many_meet-loop-schema
invariant-how_many_meet-loop-schema l = (l.count + count_by (λ s. s l.tree) (map spec.meets (drop l.schema-index l.schemas)) ≡ count_by (λ s. s l.tree) (map spec.meets l.schemas)) × (l.count ≤ l.schema-index)

abbrev pub invariant-words_are_met-loop-word : goal.invariant-words_are_met-loop-word
invariant-words_are_met-loop-word l = list_all (λ w. spec.met (spec.named l.words) w l.tree) (drop l.word-index l.words) ≡ list_all (λ w. spec.met (spec.named l.words) w l.tree) l.words
