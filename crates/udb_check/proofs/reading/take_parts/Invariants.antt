use Rattle.std.proofs.Common.{◌≡◌, ◌≤◌, ◌-◌, ◌++◌, length, reverse}
use Rattle.udb_check.proofs.reading.take_parts.Given as goal

abbrev pub invariant-loop-stack : goal.invariant-loop-stack
invariant-loop-stack l = record {
  moved : reverse l.fn.stack ≡ l.parts ++ reverse l.stack;
  few : length l.parts ≤ l.count;
}

abbrev pub decreases-loop-stack : goal.decreases-loop-stack
decreases-loop-stack l = l.count - length l.parts
