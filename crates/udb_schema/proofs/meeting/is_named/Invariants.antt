use Rattle.std.proofs.Common.{◌≡◌, drop}
use Rattle.udb_schema.specs.Meets as spec
use Rattle.udb_schema.proofs.meeting.is_named.Given as goal

abbrev pub invariant-loop-word : goal.invariant-loop-word
invariant-loop-word l = spec.named (drop l.word-index l.words) l.key ≡ spec.named l.words l.key
