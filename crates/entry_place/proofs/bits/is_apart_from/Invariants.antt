use Rattle.std.proofs.Common.{◌≡◌, drop}
use Rattle.entry_place.specs.Places as spec
use Rattle.entry_place.proofs.bits.is_apart_from.Given as goal

abbrev pub invariant-loop-other : goal.invariant-loop-other
invariant-loop-other l = spec.is_apart_from (drop l.other-index l.others) l.part ≡ spec.is_apart_from l.others l.part
