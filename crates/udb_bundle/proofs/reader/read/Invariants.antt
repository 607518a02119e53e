use Rattle.std.proofs.Common.{length}
use Rattle.udb_bundle.specs.Titles.{HasTitles}
use Rattle.udb_bundle.proofs.AnswerLemmas.{IsAt}
use Rattle.udb_bundle.proofs.reader.read.Given as goal

abbrev pub invariant-lines : goal.invariant-lines
invariant-lines l = IsAt l.fn.bytes l.rest l.number l.reading × HasTitles l.titles l.reading.bundle.rows

abbrev pub decreases-lines : goal.decreases-lines
decreases-lines l = length l.rest
