use Rattle.std.proofs.Common.{◌≡◌, drop}
use Rattle.serde_json.specs.Find.{as_str}
use Rattle.serde_json.specs.View.{items_view}
use Rattle.udb_schema.specs.Spelled as spec
use Rattle.udb_base.specs.Lists.{after_parts}
use Rattle.udb_schema.proofs.reading.texts.Given as goal

abbrev pub invariant-loop-value : goal.invariant-loop-value
invariant-loop-value l = after_parts l.texts (spec.each_item as_str (items_view (drop l.value-index l.values))) ≡ spec.each_item as_str (items_view l.values)
