use Rattle.std.proofs.Common.{◌≡◌, ◌∙◌, sym, subst, List, ℕ}
use Rattle.yaml_spec.specs.Spells.{at}
use Rattle.yaml_spec.specs.Marks.{own_mark}
use Rattle.udb_yaml.proofs.TextLemmas.{marked_first, marked_own}
use Rattle.udb_yaml.proofs.marks.line_mark.Goals as goal

pub returns-in-Some : goal.returns-in-Some
returns-in-Some c = marked_first c.args.column c.args.content.now c.in-Some.word (sym c.in-Some.is ∙ c.in_ok-word.ensures)

pub returns-in-None : goal.returns-in-None
returns-in-None c = marked_own c.args.column c.args.content.now c.own_mark.result (sym c.in-None.is ∙ c.in_ok-word.ensures) (subst (λ (z : List ℕ). c.own_mark.result ≡ own_mark (at c.args.column z)) c.as_bytes.ensures.value c.own_mark.ensures)
