use Rattle.std.proofs.Common.{sym, subst}
use Rattle.std.specs.Bool.{Decides}
use Rattle.type_laws.specs.Given.{IsBareProgram}
use Rattle.idl_lawful.proofs.ReadingTests.{program-decides}
use Rattle.idl_lawful.proofs.bodies.is_bare_program.Goals as goal

pub returns : goal.returns
returns c = subst (λ b. Decides b (IsBareProgram c.args.program.now)) (sym c.is_bare.ensures) (program-decides c.args.program.now)
