use Rattle.std.proofs.Common.{◌≡◌, drop}
use Rattle.entry_place.specs.Places as spec
use Rattle.entry_place.proofs.bits.has_bits_within.Given as goal

abbrev pub invariant-loop-part : goal.invariant-loop-part
invariant-loop-part l = spec.has_bits_within l.left (drop l.part-index l.parts) ≡ spec.has_bits_within l.most l.parts
