use Rattle.std.proofs.Common.{◌≡◌, ◌++◌, take}
use Rattle.udb_entry.specs.Config.{value_constraints}
use Rattle.udb_entry.proofs.constraints.push_values.Given as goal

abbrev pub invariant-loop-param : goal.invariant-loop-param
invariant-loop-param l = l.into ≡ l.initial.into ++ value_constraints (take l.param-index l.params) l.givens
