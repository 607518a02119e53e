use Rattle.std.proofs.Common.{◌≡◌, ◌&&◌, drop}
use Rattle.std.specs.Prelude.{not}
use Rattle.std.specs.List.{list_any}
use Rattle.udb_spec.specs.Conditions.{same_bytes}
use Rattle.idl_spec.specs.Costs.{is_for_all}
use Rattle.type_demands.proofs.costs.variable_by_base.Given as goal

abbrev pub invariant-loop-variable : goal.invariant-loop-variable
invariant-loop-variable l =
    list_any (λ v. same_bytes v.name l.name && not (is_for_all v.base)) (drop l.variable-index l.variables)
    ≡ list_any (λ v. same_bytes v.name l.name && not (is_for_all v.base)) l.variables
