use Rattle.std.proofs.Common.{◌≡◌, ◌-◌, take}
use Rattle.udb_spec.specs.Constraints.{constraints}
use Rattle.udb_refute.proofs.variables.constraints_of.Given as goal

abbrev pub invariant-loop-number : goal.invariant-loop-number
invariant-loop-number l = l.all ≡ take (l.number - 1) (constraints l.space l.part l.cond)
