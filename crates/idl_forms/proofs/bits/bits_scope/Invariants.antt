use Rattle.std.proofs.Common.{◌≡◌, ◌++◌, take}
use Rattle.std.specs.Prelude.{map, flat_map}
use Rattle.idl_spec.specs.Fields.{variable_bits, field_bits}
use Rattle.idl_forms.proofs.bits.bits_scope.Given as goal

abbrev pub invariant-loop-variable : goal.invariant-loop-variable
invariant-loop-variable l = l.scope ≡ map (variable_bits l.variables) (take l.variable-index l.variables)

abbrev pub invariant-loop-csr : goal.invariant-loop-csr
invariant-loop-csr l = l.scope ≡ map (variable_bits l.variables) l.variables ++ flat_map (λ c. map (field_bits c.name) c.fields) (take l.csr-index l.program.csrs)
