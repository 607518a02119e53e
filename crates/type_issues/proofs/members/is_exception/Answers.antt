use Rattle.std.proofs.Common.{ap}
use Rattle.std.specs.Prelude.{is_some}
use Rattle.idl_forms.proofs.Members.{no-exception}
use Rattle.type_issues.proofs.members.is_exception.Goals as goal

pub returns-in_default : goal.returns-in_default
returns-in_default c =
    ap is_some (no-exception c.args.name.now c.in_default.not-InstructionAddressMisaligned c.in_default.not-InstructionAccessFault c.in_default.not-IllegalInstruction
    c.in_default.not-Breakpoint c.in_default.not-LoadAddressMisaligned c.in_default.not-LoadAccessFault c.in_default.not-StoreAmoAddressMisaligned
    c.in_default.not-StoreAmoAccessFault c.in_default.not-Mcall)
