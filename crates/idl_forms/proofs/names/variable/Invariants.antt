use Rattle.std.proofs.Common.{◌≡◌, drop}
use Rattle.idl_spec.specs.Fields.{variables_for}
use Rattle.idl_forms.proofs.names.variable.Given as goal

abbrev pub invariant-loop-variable : goal.invariant-loop-variable
invariant-loop-variable l = variables_for l.scene.registers (drop l.variable-index l.scene.variables.now) l.name ≡ variables_for l.scene.registers l.scene.variables.now l.name
