use Rattle.std.proofs.Common.{◌≡◌, length}
use Rattle.udb_decode.specs.Kept.{names_from, names_left}
use Rattle.udb_decode.proofs.picks.PicksIterator.next.Given as goal

abbrev pub invariant-loop-first : goal.invariant-loop-first
invariant-loop-first l = names_from l.self.word l.found l.self.rest.now ≡ names_left l.initial.self

abbrev pub decreases-loop-first : goal.decreases-loop-first
decreases-loop-first l = length l.self.rest.now
