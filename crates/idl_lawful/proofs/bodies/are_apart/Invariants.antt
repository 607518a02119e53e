use Rattle.std.proofs.Common.{◌≡◌, drop}
use Rattle.idl_lawful.specs.Readings.{are_apart}
use Rattle.idl_lawful.proofs.bodies.are_apart.Given as goal

abbrev pub invariant-loop-variable : goal.invariant-loop-variable
invariant-loop-variable l = are_apart l.params (drop l.variable-index l.variables) ≡ are_apart l.params l.variables
