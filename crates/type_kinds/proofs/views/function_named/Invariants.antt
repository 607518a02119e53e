use Rattle.std.proofs.Common.{◌≡◌, drop}
use Rattle.idl_spec.specs.Shapes.{function_named}
use Rattle.type_kinds.proofs.views.function_named.Given as goal

abbrev pub invariant-loop-function : goal.invariant-loop-function
invariant-loop-function l = function_named (drop l.function-index l.functions) l.name ≡ function_named l.functions l.name
