use Rattle.std.proofs.Common.{◌≡◌, take}
use Rattle.std.specs.Prelude.{option_map}
use Rattle.idl_spec.specs.Shapes.{innermost}
use Rattle.idl_forms.specs.States.{as_scalar, scope_of}
use Rattle.idl_forms.proofs.names.local.Given as goal

abbrev pub invariant-loop-local : goal.invariant-loop-local
invariant-loop-local l = option_map as_scalar l.found ≡ innermost (scope_of (take l.local-index l.scope)) l.name
