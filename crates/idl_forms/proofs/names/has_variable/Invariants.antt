use Rattle.std.proofs.Common.{◌≡◌, drop}
use Rattle.std.specs.Prelude.{find}
use Rattle.udb_spec.specs.Conditions.{same_bytes}
use Rattle.idl_forms.proofs.names.has_variable.Given as goal

abbrev pub invariant-loop-variable : goal.invariant-loop-variable
invariant-loop-variable l = find (λ v. same_bytes v.name l.name) (drop l.variable-index l.scene.variables.now) ≡ find (λ v. same_bytes v.name l.name) l.scene.variables.now
