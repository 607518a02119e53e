use Rattle.udb_command.specs.Words.{words_of}
use Rattle.udb_command.proofs.Asked.{is_refute}
use Rattle.udb_command.proofs.commands.refute_of.Goals as goal

pub returns-in-Err-clause-memory : goal.returns-in-Err-clause-memory
returns-in-Err-clause-memory c = is_refute (words_of c.args.words.now) c.in-Err.ensures.memory
