use Rattle.std.proofs.Common.{sym, subst}
use Rattle.std.specs.Bool.{Decides}
use Rattle.idl_forms.specs.Ready.{AreLawfulVariables}
use Rattle.idl_lawful.proofs.VariableTests.{variables-decide}
use Rattle.idl_lawful.proofs.variables.are_lawful_variables.Goals as goal

pub returns : goal.returns
returns c = subst (λ b. Decides b (AreLawfulVariables c.args.variables.now)) (sym c.pass.ensures) (variables-decide c.args.variables.now)
