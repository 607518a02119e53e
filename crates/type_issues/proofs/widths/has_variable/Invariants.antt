use Rattle.std.proofs.Common.{◌≡◌, drop}
use Rattle.std.specs.List.{list_any}
use Rattle.udb_spec.specs.Conditions.{same_bytes}
use Rattle.type_issues.proofs.widths.has_variable.Given as goal

abbrev pub invariant-loop-variable : goal.invariant-loop-variable
invariant-loop-variable l = list_any (λ v. same_bytes v.name l.name) (drop l.variable-index l.variables) ≡ list_any (λ v. same_bytes v.name l.name) l.variables
