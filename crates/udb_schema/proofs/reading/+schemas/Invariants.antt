use Rattle.std.proofs.Common.{◌≡◌, drop}
use Rattle.serde_json.specs.View.{items_view, members_view}
use Rattle.udb_schema.specs.Spelled as spec
use Rattle.udb_base.specs.Lists.{after_parts}
use Rattle.udb_schema.proofs.reading.+schemas.Given as goal

abbrev pub invariant-words-loop-key : goal.invariant-words-loop-key
invariant-words-loop-key l = after_parts l.words (spec.words_of (members_view l.key-iterator)) ≡ spec.words_of (members_view l.members.entries)

abbrev pub invariant-properties-loop-key : goal.invariant-properties-loop-key
invariant-properties-loop-key l = after_parts l.properties (spec.properties_of (members_view l.key-iterator)) ≡ spec.properties_of (members_view l.members.entries)

abbrev pub invariant-schemas-loop-value : goal.invariant-schemas-loop-value
invariant-schemas-loop-value l = after_parts l.schemas (spec.schemas_of (items_view (drop l.value-index l.values))) ≡ spec.schemas_of (items_view l.values)
