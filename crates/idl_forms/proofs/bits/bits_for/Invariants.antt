use Rattle.std.proofs.Common.{◌≡◌, drop}
use Rattle.idl_spec.specs.Fields.{variables_for}
use Rattle.idl_forms.proofs.bits.bits_for.Given as goal

abbrev pub invariant-loop-variable : goal.invariant-loop-variable
invariant-loop-variable l = variables_for l.registers (drop l.variable-index l.variables) l.name ≡ variables_for l.registers l.variables l.name
