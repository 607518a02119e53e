use Rattle.std.proofs.Common.{◌≡◌, ◌&&◌, drop}
use Rattle.std.specs.Prelude.{not}
use Rattle.std.specs.List.{list_any}
use Rattle.udb_spec.specs.Conditions.{same_bytes}
use Rattle.idl_spec.specs.Costs.{is_everywhere}
use Rattle.type_demands.proofs.costs.some_by_base.Given as goal

abbrev pub invariant-loop-one : goal.invariant-loop-one
invariant-loop-one l =
    list_any (λ f. same_bytes f.name l.field && not (is_everywhere f.places)) (drop l.one-index l.fields)
    ≡ list_any (λ f. same_bytes f.name l.field && not (is_everywhere f.places)) l.fields
