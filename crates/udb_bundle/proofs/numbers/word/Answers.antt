use Rattle.udb_bundle.proofs.Numerals.{word_value, word_read}
use Rattle.udb_bundle.proofs.numbers.word.Goals as goal

pub returns-in-Ok : goal.returns-in-Ok
returns-in-Ok c = word_value c.args.line.now c.in-Ok.word c.in-Ok.ensures.value (cc)

pub returns-in-Err : goal.returns-in-Err
returns-in-Err c = absurd (word_read c.args.line.now c.in-Err.field-0 c.in-Err.ensures.value (cc))
