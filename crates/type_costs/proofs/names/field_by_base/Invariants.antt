use Rattle.std.proofs.Common.{◌≡◌, ◌&&◌, not, drop}
use Rattle.std.specs.List.{list_any}
use Rattle.udb_spec.specs.Conditions.{same_bytes}
use Rattle.idl_spec.specs.Costs.{is_everywhere}
use Rattle.idl_tree.specs.declared.programs.CsrBody.{CsrBody}
use Rattle.type_costs.proofs.names.field_by_base.Given as goal

abbrev pub invariant-loop-one : goal.invariant-loop-one
invariant-loop-one l =
    let found : CsrBody → _ = λ one. same_bytes one.name l.csr && list_any (λ f. same_bytes f.name l.field && not (is_everywhere f.places)) one.fields in
    list_any found (drop l.one-index l.program.csrs) ≡ list_any found l.program.csrs
