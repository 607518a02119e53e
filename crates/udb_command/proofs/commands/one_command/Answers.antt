use Rattle.udb_command.proofs.Asked.{one_command}
use Rattle.udb_command.proofs.commands.one_command.Goals as goal

pub returns : goal.returns
returns c = one_command
