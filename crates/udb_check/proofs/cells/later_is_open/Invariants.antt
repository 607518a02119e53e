use Rattle.std.proofs.Common.{◌≡◌, ◌-◌}
use Rattle.udb_cond.specs.Steps.{steps_of}
use Rattle.udb_check.specs.Nodes.{some_open}
use Rattle.udb_check.proofs.cells.later_is_open.Given as goal

abbrev pub invariant-loop-choice : goal.invariant-loop-choice
invariant-loop-choice l = some_open (steps_of l.cells) l.place l.choice (l.count - l.choice) ≡ some_open (steps_of l.cells) l.place 1 (l.count - 1)
