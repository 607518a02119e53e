use Rattle.std.proofs.Common.{◌≡◌, take}
use Rattle.std.specs.Prelude.{map}
use Rattle.idl_spec.specs.Fields.{bits_scope}
use Rattle.idl_forms.proofs.bits.bits_scopes.Given as goal

abbrev pub invariant-loop-body : goal.invariant-loop-body
invariant-loop-body l = l.scopes ≡ map (λ b. bits_scope l.program b.variables) (take l.body-index l.bodies)
