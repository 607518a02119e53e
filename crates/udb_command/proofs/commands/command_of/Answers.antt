use Rattle.udb_command.specs.Words.{words_of}
use Rattle.udb_command.proofs.Asked.{is_none}
use Rattle.udb_command.proofs.commands.command_of.Goals as goal

pub returns-in-Ok-None-check_of-clause-answer : goal.returns-in-Ok-None-check_of-clause-answer
returns-in-Ok-None-check_of-clause-answer c =
    is_none (words_of c.args.words.now)
    (rw c.in-Ok-None.field-0-is at c.in-Ok-None.ensures.answer)
    (rw c.in-Ok-None-refute_of.field-0-is at c.in-Ok-None-refute_of.ensures.answer)
    (rw c.in-Ok-None-check_of.field-0-is at c.in-Ok-None-check_of.ensures.answer)
