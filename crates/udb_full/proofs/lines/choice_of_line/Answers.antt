use Rattle.std.proofs.Common.{None, Some, sym, subst, ◌∙◌}
use Rattle.std.specs.Cmp.Lexicographic.{bytes_decides}
use Rattle.udb_spec.specs.ProofText.{choice_text}
use Rattle.udb_full.specs.Found.{IsChoiceOf, IsNamed}
use Rattle.udb_full.proofs.FoundLaws.{line-found}
use Rattle.udb_full.proofs.TextLaws.{absent-found}
use Rattle.udb_full.proofs.lines.choice_of_line.Goals as goal

pub returns-then-eq : goal.returns-then-eq
returns-then-eq c =
    let ext = c.args.ext.now in
    let text = c.in-Some.text.now in
    let named = subst (λ name. IsNamed name c.args.line.now (Some text)) (c.as_bytes.ensures.value ∙ c.as_str.ensures) c.in-Some.ensures in
    let is = (bytes_decides text c.as_slice.result.now).0 (sym c.if-eq.ensures) ∙ c.as_slice.ensures in
    line-found (IsChoiceOf ext) choice_text ext.name c.args.line.now text (Some None) named (absent-found ext text is)
