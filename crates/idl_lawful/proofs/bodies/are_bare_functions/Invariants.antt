use Rattle.std.proofs.Common.{◌≡◌, drop}
use Rattle.std.specs.List.{list_all}
use Rattle.idl_lawful.specs.Readings.{is_bare_function}
use Rattle.idl_lawful.proofs.bodies.are_bare_functions.Given as goal

abbrev pub invariant-loop-function : goal.invariant-loop-function
invariant-loop-function l = list_all is_bare_function (drop l.function-index l.functions) ≡ list_all is_bare_function l.functions
