use Rattle.std.proofs.Common.{All, take}
use Rattle.idl_forms.specs.Ready.{AreLawfulVariables}
use Rattle.mean_cases.proofs.answers.have_lawful_variables.Given as goal

abbrev pub invariant-loop-body : goal.invariant-loop-body
invariant-loop-body l = All (λ b. AreLawfulVariables b.variables) (take l.body-index l.bodies)
