use Rattle.std.proofs.Common.{◌≡◌, drop}
use Rattle.std.specs.List.{list_any}
use Rattle.udb_spec.specs.Conditions.{same_bytes}
use Rattle.type_checks.proofs.bodies.has_argument.Given as goal

abbrev pub invariant-loop-argument : goal.invariant-loop-argument
invariant-loop-argument l = list_any (λ z. same_bytes z.name l.name) (drop l.argument-index l.arguments) ≡ list_any (λ z. same_bytes z.name l.name) l.arguments
