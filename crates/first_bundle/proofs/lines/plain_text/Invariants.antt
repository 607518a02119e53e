use Rattle.std.proofs.Common.{◌≡◌, take, string_bytes}
use Rattle.first_bundle.specs.Lines.{plain}
use Rattle.first_bundle.proofs.lines.plain_text.Given as goal

abbrev pub invariant-loop-byte : goal.invariant-loop-byte
invariant-loop-byte l = string_bytes l.text ≡ plain (take l.byte-index l.bytes)
