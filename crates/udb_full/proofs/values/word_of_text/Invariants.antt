use Rattle.udb_full.proofs.TextLaws.{NoWord}
use Rattle.udb_full.proofs.values.word_of_text.Given as goal

abbrev pub invariant-loop-word : goal.invariant-loop-word
invariant-loop-word l = NoWord l.words l.text l.word-index
