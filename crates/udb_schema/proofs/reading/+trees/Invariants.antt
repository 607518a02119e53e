use Rattle.std.proofs.Common.{◌≡◌, drop}
use Rattle.serde_json.specs.View.{items_view, members_view}
use Rattle.udb_schema.specs.Spelled as spec
use Rattle.udb_base.specs.Lists.{after_parts}
use Rattle.udb_schema.proofs.reading.+trees.Given as goal

abbrev pub invariant-trees-loop-value : goal.invariant-trees-loop-value
invariant-trees-loop-value l = after_parts l.trees (spec.trees_of (items_view (drop l.value-index l.values))) ≡ spec.trees_of (items_view l.values)

abbrev pub invariant-pairs-loop-key : goal.invariant-pairs-loop-key
invariant-pairs-loop-key l = after_parts l.pairs (spec.pairs_of (members_view l.key-iterator)) ≡ spec.pairs_of (members_view l.members.entries)
