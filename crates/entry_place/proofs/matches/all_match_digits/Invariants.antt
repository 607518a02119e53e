use Rattle.std.proofs.Common.{◌≡◌, drop}
use Rattle.std.specs.List.{list_all}
use Rattle.entry_place.specs.Places as spec
use Rattle.entry_place.proofs.matches.all_match_digits.Given as goal

abbrev pub invariant-loop-byte : goal.invariant-loop-byte
invariant-loop-byte l = list_all spec.is_match_digit (drop l.byte-index l.bytes) ≡ list_all spec.is_match_digit l.bytes
