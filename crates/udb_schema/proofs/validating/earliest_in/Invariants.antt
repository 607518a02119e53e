use Rattle.std.proofs.Common.{◌≡◌, drop}
use Rattle.udb_schema.specs.Faults as spec
use Rattle.udb_schema.specs.Meets as meets
use Rattle.udb_schema.proofs.validating.earliest_in.Given as goal

abbrev pub invariant-loop-word : goal.invariant-loop-word
invariant-loop-word l = spec.earliest l.least (spec.failing_words (meets.named l.words) l.tree (drop l.word-index l.words)) ≡ spec.earliest l.initial.least (spec.failing_words (meets.named l.words) l.tree l.words)
