use Rattle.std.proofs.Common.{◌≡◌, drop}
use Rattle.udb_base.specs.Lists.{each, after_parts}
use Rattle.entry_place.specs.Places as spec
use Rattle.entry_place.proofs.numbers.each_part.Given as goal

abbrev pub invariant-loop-text : goal.invariant-loop-text
invariant-loop-text l = after_parts l.parts (each (λ x. spec.part_of x.now) (drop l.text-index l.texts)) ≡ each (λ x. spec.part_of x.now) l.texts
