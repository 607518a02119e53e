use Rattle.std.proofs.Common.{Some, sym, ap, subst, ◌∙◌, arith}
use Rattle.std.specs.Prelude.{Contains}
use Rattle.std.specs.Cmp.Lexicographic.{bytes_decides}
use Rattle.std.proofs.lemmas.Bool.{false≢true}
use Rattle.udb_spec.specs.ProofText.{json_text}
use Rattle.udb_full.specs.Found.{IsFound}
use Rattle.udb_full.proofs.TextLaws.{no-word, one-word, words-end}
use Rattle.udb_full.proofs.values.word_of_text.Goals as goal

pub returns-then-eq : goal.returns-then-eq
returns-then-eq c =
    let is = (bytes_decides c.as_bytes.result.now c.args.text.now).0 (sym c.if-eq.ensures) in
    subst (λ w. IsFound (Contains c.args.words.now) json_text c.args.text.now (Some w)) (sym c.in_ok-copy.ensures)
    (one-word c.args.words.now c.args.text.now c.loop-word.word-index c.word-item.result (omega arith) c.word-item.is (sym (c.as_bytes.ensures ∙ c.in_ok-printed.ensures ∙ ap json_text c.as_str.ensures) ∙ is))

pub loop-word-preserved : goal.loop-word-preserved
loop-word-preserved c =
    no-word c.args.words.now c.args.text.now c.loop-word.word-index c.word-item.result (omega arith) c.word-item.is
    (λ e. false≢true (c.if-eq.ensures ∙ (bytes_decides c.as_bytes.result.now c.args.text.now).1 (c.as_bytes.ensures ∙ c.in_ok-printed.ensures ∙ ap json_text c.as_str.ensures ∙ e))) c.loop-word.invariant

pub returns : goal.returns
returns c = words-end c.args.words.now c.args.text.now c.loop-word.word-index c.loop-word-test.false c.loop-word.invariant
