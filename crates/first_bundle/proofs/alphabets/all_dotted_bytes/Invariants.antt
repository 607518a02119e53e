use Rattle.std.proofs.Common.{◌≡◌, drop}
use Rattle.std.specs.List.{list_all}
use Rattle.first_spec.specs.Alphabets.{is_dotted_byte}
use Rattle.first_bundle.proofs.alphabets.all_dotted_bytes.Given as goal

abbrev pub invariant-loop-byte : goal.invariant-loop-byte
invariant-loop-byte l = list_all is_dotted_byte (drop l.byte-index l.bytes) ≡ list_all is_dotted_byte l.bytes
