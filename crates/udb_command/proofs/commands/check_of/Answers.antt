use Rattle.udb_command.specs.Words.{words_of}
use Rattle.udb_command.proofs.Asked.{is_check}
use Rattle.udb_command.proofs.commands.check_of.Goals as goal

pub returns-in-Err-clause-memory : goal.returns-in-Err-clause-memory
returns-in-Err-clause-memory c = is_check (words_of c.args.words.now) c.in-Err.ensures.memory
