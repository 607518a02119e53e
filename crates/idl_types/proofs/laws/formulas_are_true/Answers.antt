use Rattle.idl_types.proofs.TypedLaws.{formulas-true}
use Rattle.idl_types.proofs.laws.formulas_are_true.Goals as goal

pub returns : goal.returns
returns c = formulas-true
