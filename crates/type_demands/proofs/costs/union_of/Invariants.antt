use Rattle.std.proofs.Common.{◌≡◌, ◌++◌, take}
use Rattle.std.specs.Prelude.{not, filter}
use Rattle.udb_base.specs.Lists.{is_among}
use Rattle.udb_spec.specs.Conditions.{same_bytes}
use Rattle.type_demands.proofs.costs.union_of.Given as goal

abbrev pub invariant-loop-name : goal.invariant-loop-name
invariant-loop-name l = l.names ≡ l.first ++ filter (λ name. not (is_among same_bytes name l.first)) (take l.name-index l.second)
