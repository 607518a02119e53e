use Rattle.std.proofs.Common.{◌≡◌, drop}
use Rattle.std.specs.List.{list_all}
use Rattle.idl_lawful.specs.Tests.{is_lawful_variable}
use Rattle.idl_lawful.proofs.variables.is_each_lawful.Given as goal

abbrev pub invariant-loop-variable : goal.invariant-loop-variable
invariant-loop-variable l = list_all is_lawful_variable (drop l.variable-index l.variables) ≡ list_all is_lawful_variable l.variables
