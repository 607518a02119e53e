use Rattle.std.proofs.Common.{◌≡◌, drop}
use Rattle.udb_base.specs.Lists.{are_distinct}
use Rattle.idl_lawful.specs.Tests.{is_same_variable}
use Rattle.idl_lawful.proofs.variables.are_distinct_variables.Given as goal

abbrev pub invariant-loop-place : goal.invariant-loop-place
invariant-loop-place l = are_distinct is_same_variable (drop l.place l.variables) ≡ are_distinct is_same_variable l.variables
