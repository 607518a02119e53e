use Rattle.std.proofs.Common.{◌≡◌, drop}
use Rattle.std.specs.List.{list_all}
use Rattle.entry_place.specs.Places as spec
use Rattle.entry_place.proofs.matches.is_separate_from.Given as goal

abbrev pub invariant-loop-other : goal.invariant-loop-other
invariant-loop-other l = list_all (spec.are_separate l.variable) (drop l.other-index l.before) ≡ list_all (spec.are_separate l.variable) l.before
