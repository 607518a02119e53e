use Rattle.std.proofs.Common.{◌≡◌, drop}
use Rattle.idl_spec.specs.Shapes.{parameter_named}
use Rattle.type_kinds.proofs.views.parameter_named.Given as goal

abbrev pub invariant-loop-param : goal.invariant-loop-param
invariant-loop-param l = parameter_named (drop l.param-index l.params) l.name ≡ parameter_named l.params l.name
