use Rattle.std.proofs.Common.{refl}
use Rattle.udb_command.specs.declared.commands.Command.TheVariants.{Manual}
use Rattle.udb_command.specs.Words.{words_of}
use Rattle.udb_command.proofs.Asked.{asks_manual}
use Rattle.udb_command.proofs.commands.manual_of.Goals as goal

pub returns-in-Err-clause-memory : goal.returns-in-Err-clause-memory
returns-in-Err-clause-memory c =
    (Manual c.in-Some.word.now, asks_manual (words_of c.args.words.now) c.in-Some.word.now c.in-Some.word.now c.in-Some.ensures refl c.in-Err.ensures.memory)
