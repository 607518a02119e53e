use Rattle.std.proofs.Common.{◌≡◌, drop}
use Rattle.entry_place.specs.Places as spec
use Rattle.entry_place.proofs.bits.has_each_bit_once.Given as goal

abbrev pub invariant-loop-place : goal.invariant-loop-place
invariant-loop-place l = spec.has_each_bit_once (drop l.place l.parts) ≡ spec.has_each_bit_once l.parts
