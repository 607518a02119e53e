use Rattle.std.proofs.Common.{sym, subst}
use Rattle.std.specs.Bool.{Decides}
use Rattle.idl_forms.specs.Ready.{IsLawfulProgram}
use Rattle.idl_lawful.proofs.ProgramTests.{program-decides}
use Rattle.idl_lawful.proofs.programs.is_lawful_program.Goals as goal

pub returns : goal.returns
returns c = subst (λ b. Decides b (IsLawfulProgram c.args.program.now)) (sym c.passes.ensures) (program-decides c.args.program.now)
