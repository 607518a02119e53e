use Rattle.std.proofs.Common.{◌≡◌, drop}
use Rattle.std.specs.List.{list_all}
use Rattle.entry_place.specs.Places as spec
use Rattle.entry_place.proofs.matches.all_dashes.Given as goal

abbrev pub invariant-loop-byte : goal.invariant-loop-byte
invariant-loop-byte l = list_all spec.is_dash (drop l.byte-index l.bytes) ≡ list_all spec.is_dash l.bytes
