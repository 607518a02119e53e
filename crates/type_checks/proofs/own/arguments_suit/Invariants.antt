use Rattle.std.proofs.Common.{◌≡◌, drop, map}
use Rattle.idl_spec.specs.Demands.{arguments_suit}
use Rattle.type_kinds.specs.Kinds.{kind_if_any}
use Rattle.type_checks.proofs.own.arguments_suit.Given as goal

abbrev pub invariant-loop-place : goal.invariant-loop-place
invariant-loop-place l = arguments_suit (drop l.place l.arguments) (map kind_if_any (drop l.place l.kinds)) ≡ arguments_suit l.arguments (map kind_if_any l.kinds)
