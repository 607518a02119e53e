use Rattle.std.proofs.Common.{◌≡◌, length}
use Rattle.udb_refute.proofs.BoardLaws.{AllSame}
use Rattle.udb_refute.proofs.boards.repeat.Given as goal

abbrev pub invariant-loop : goal.invariant-loop
invariant-loop g l = (length l.items ≡ l.counter) × AllSame l.item l.items
