use Rattle.std.proofs.Common.{◌≡◌, ◌-◌, drop, length, reverse}
use Rattle.udb_check.specs.Heads.{grow}
use Rattle.udb_check.proofs.reading.grow.Given as goal

abbrev pub invariant-loop-done : goal.invariant-loop-done
invariant-loop-done l = reverse l.stack ≡ grow (drop (length l.heads - l.done) l.heads)
