use Rattle.std.proofs.Common.{◌≡◌, take, map}
use Rattle.type_kinds.specs.Views.{visible_of}
use Rattle.idl_spec.specs.Checks.{argument_names}
use Rattle.type_checks.proofs.bodies.argument_names.Given as goal

abbrev pub invariant-loop-argument : goal.invariant-loop-argument
invariant-loop-argument l = map visible_of l.names ≡ argument_names (take l.argument-index l.arguments)
