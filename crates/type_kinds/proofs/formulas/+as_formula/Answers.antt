use Rattle.std.proofs.Common.{sym}
use Rattle.type_kinds.proofs.FormulaForms.{formula-none}
use Rattle.type_kinds.proofs.formulas.+as_formula.Goals as goal

pub returns-in_default : goal.returns-in_default
returns-in_default t c =
    sym (formula-none c.args.space.now c.args.e.now c.in_default.not-Flag c.in_default.not-Word c.in_default.not-Unary c.in_default.not-Binary c.in_default.not-Implemented c.in_default.not-ImplementedVersion)
