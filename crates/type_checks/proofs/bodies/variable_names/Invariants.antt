use Rattle.std.proofs.Common.{◌≡◌, take, map}
use Rattle.type_kinds.specs.Views.{visible_of}
use Rattle.idl_spec.specs.Checks.{variable_names}
use Rattle.type_checks.proofs.bodies.variable_names.Given as goal

abbrev pub invariant-loop-variable : goal.invariant-loop-variable
invariant-loop-variable l = map visible_of l.names ≡ variable_names (take l.variable-index l.variables)
