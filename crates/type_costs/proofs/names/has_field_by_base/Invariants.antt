use Rattle.std.proofs.Common.{◌≡◌, ◌&&◌, not, drop}
use Rattle.std.specs.List.{list_any}
use Rattle.udb_spec.specs.Conditions.{same_bytes}
use Rattle.idl_spec.specs.Costs.{is_everywhere}
use Rattle.type_costs.proofs.names.has_field_by_base.Given as goal

abbrev pub invariant-loop-field : goal.invariant-loop-field
invariant-loop-field l =
    list_any (λ f. same_bytes f.name l.name && not (is_everywhere f.places)) (drop l.field-index l.fields) ≡ list_any (λ f. same_bytes f.name l.name && not (is_everywhere f.places)) l.fields
