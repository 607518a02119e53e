use Rattle.std.proofs.Common.{sym}
use Rattle.udb_command.specs.Words.{words_of}
use Rattle.udb_command.proofs.Asked.{result_memory}
use Rattle.udb_command.proofs.questions.question_of.Goals as goal

pub returns-in-Some-kind_of-clause-memory : goal.returns-in-Some-kind_of-clause-memory
returns-in-Some-kind_of-clause-memory c =
    result_memory (words_of c.args.words.now) c.args.first.now c.in-Some.config.now c.in-Some.word.now c.in-Some.name.now c.in-Some.ensures
    c.in-Some-kind_of.kind (sym c.in-Some-kind_of.ensures) c.question_with.result c.question_with.ensures.memory
