use Rattle.std.proofs.Common.{◌≡◌, drop}
use Rattle.std.specs.Prelude.{map}
use Rattle.std.specs.List.{list_all}
use Rattle.idl_spec.specs.Demands.{suits, bits_kind}
use Rattle.type_kinds.specs.Kinds.{kind_if_any}
use Rattle.type_issues.proofs.fits.suits_all.Given as goal

abbrev pub invariant-loop-kind : goal.invariant-loop-kind
invariant-loop-kind l = list_all (suits bits_kind) (map kind_if_any (drop l.kind-index l.kinds)) ≡ list_all (suits bits_kind) (map kind_if_any l.kinds)
