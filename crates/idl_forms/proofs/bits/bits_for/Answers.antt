use Rattle.std.proofs.Common.{sym, ◌∙◌}
use Rattle.idl_forms.proofs.PresentFields.{only-width}
use Rattle.idl_forms.proofs.bits.bits_for.Goals as goal

pub returns-then-is_variable : goal.returns-then-is_variable
returns-then-is_variable c =
    c.variable_width.ensures.value
    ∙ only-width c.args.registers c.args.name.now c.args.variables.now c.loop-variable.variable-index c.variable-item.result c.requires.lawful c.loop-variable-test.true c.variable-item.is
    (sym c.is_variable.ensures ∙ c.if-is_variable.true) c.loop-variable.invariant
