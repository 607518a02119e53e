use Rattle.std.proofs.Common.{◌≡◌, [], drop}
use Rattle.first_bundle.specs.Lines.{split_onto}
use Rattle.first_bundle.proofs.lines.split.Given as goal

abbrev pub invariant-loop-byte : goal.invariant-loop-byte
invariant-loop-byte l = split_onto l.lines l.line (drop l.byte-index l.bytes) ≡ split_onto [] [] l.bytes
