use Rattle.idl_forms.proofs.Members.{no-exception}
use Rattle.idl_forms.proofs.names.exception.Goals as goal

pub returns-in_default : goal.returns-in_default
returns-in_default c =
    no-exception c.args.name.now c.in_default.not-InstructionAddressMisaligned c.in_default.not-InstructionAccessFault c.in_default.not-IllegalInstruction
    c.in_default.not-Breakpoint c.in_default.not-LoadAddressMisaligned c.in_default.not-LoadAccessFault c.in_default.not-StoreAmoAddressMisaligned
    c.in_default.not-StoreAmoAccessFault c.in_default.not-Mcall
