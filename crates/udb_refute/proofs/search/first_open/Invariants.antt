use Rattle.std.proofs.Common.{◌-◌}
use Rattle.udb_cond.specs.Steps.{steps_of}
use Rattle.udb_refute.specs.Search.{HoldBefore}
use Rattle.udb_refute.proofs.search.first_open.Given as goal

abbrev pub invariant-loop-position : goal.invariant-loop-position
invariant-loop-position l = HoldBefore l.space l.part l.cond (steps_of l.cells) (l.position - 1)
