use Rattle.std.proofs.Common.{◌≡◌, drop}
use Rattle.idl_spec.specs.Checks.{are_fresh}
use Rattle.type_checks.proofs.bodies.are_fresh.Given as goal

abbrev pub invariant-loop-place : goal.invariant-loop-place
invariant-loop-place l = are_fresh l.params (drop l.place l.arguments) ≡ are_fresh l.params l.arguments
