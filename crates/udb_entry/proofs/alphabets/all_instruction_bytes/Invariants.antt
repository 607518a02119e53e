use Rattle.std.proofs.Common.{◌≡◌, drop}
use Rattle.std.specs.List.{list_all}
use Rattle.udb_entry.specs.Alphabets.{is_instruction_byte}
use Rattle.udb_entry.proofs.alphabets.all_instruction_bytes.Given as goal

abbrev pub invariant-loop-byte : goal.invariant-loop-byte
invariant-loop-byte l = list_all is_instruction_byte (drop l.byte-index l.bytes) ≡ list_all is_instruction_byte l.bytes
