use Rattle.std.proofs.Common.{◌≡◌, ◌++◌, take}
use Rattle.std.specs.List.{flat_map}
use Rattle.udb_schema.specs.Faults as spec
use Rattle.udb_schema.specs.Validating as view
use Rattle.udb_schema.proofs.validating.push_each_for_items.Given as goal

abbrev pub invariant-loop-word : goal.invariant-loop-word
invariant-loop-word l = view.behind l.into.items ≡ view.behind l.initial.into.items ++ flat_map spec.word_for_items (take l.word-index l.words)
