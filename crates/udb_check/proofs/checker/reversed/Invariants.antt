use Rattle.std.proofs.Common.{◌≡◌, ◌++◌, length, reverse}
use Rattle.udb_check.proofs.checker.reversed.Given as goal

abbrev pub invariant-loop-number : goal.invariant-loop-number
invariant-loop-number l = l.path ++ reverse l.node ≡ reverse l.fn.node

abbrev pub decreases-loop-number : goal.decreases-loop-number
decreases-loop-number l = length l.node
