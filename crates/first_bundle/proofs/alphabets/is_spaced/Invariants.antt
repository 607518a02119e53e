use Rattle.std.proofs.Common.{◌≡◌, drop}
use Rattle.first_spec.specs.Alphabets.{is_spaced}
use Rattle.first_bundle.proofs.alphabets.is_spaced.Given as goal

abbrev pub invariant-loop-at : goal.invariant-loop-at
invariant-loop-at l = is_spaced (drop l.at l.bytes) ≡ is_spaced l.bytes
