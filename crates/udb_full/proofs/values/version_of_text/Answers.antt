use Rattle.std.proofs.Common.{◌≡◌, ◌+◌, false, get_or, sym, subst, ◌∙◌, arith}
use Rattle.std.specs.Cmp.Lexicographic.{bytes_decides}
use Rattle.std.proofs.lemmas.Bool.{false≢true}
use Rattle.udb_base.specs.declared.versions.Listed.{Listed}
use Rattle.udb_full.proofs.FoundLaws.{get-any}
use Rattle.udb_full.proofs.TextLaws.{IsScan, scan-hit, scan-miss, scan-end}
use Rattle.udb_full.proofs.values.version_of_text.Goals as goal
use Rattle.udb_full.proofs.values.version_of_text.Goals.{then-eq, else-eq}

pub loop-listed-preserved : goal.loop-listed-preserved
loop-listed-preserved c =
    let vs = c.args.versions.now in
    let text = c.args.text.now in
    let i = c.loop-listed.listed-index in
    let none : Listed = record { version = record { major = 0; minor = 0; patch = 0 }; breaking = false } in
    let l : Listed = get_or vs i none in
    let at : l ≡ get_or vs i l = get-any vs i l none (omega arith) in
    elim c.if-eq.branch [
      | then-eq w ↦ subst (IsScan vs text (i + 1)) (sym w.found-is)
          (scan-hit vs text i c.loop-listed.found l (omega arith) at c.text_of_version.ensures.short (sym (c.as_bytes.ensures ∙ c.in_ok-printed.ensures.text) ∙ (bytes_decides c.as_bytes.result.now text).0 (sym w.if-eq.ensures)) c.loop-listed.invariant)
      | else-eq w ↦ subst (IsScan vs text (i + 1)) (sym w.found-is)
          (scan-miss vs text i c.loop-listed.found l (omega arith) at (λ e. false≢true (w.if-eq.ensures ∙ (bytes_decides c.as_bytes.result.now text).1 (c.as_bytes.ensures ∙ c.in_ok-printed.ensures.text ∙ e))) c.loop-listed.invariant)
    ]

pub returns : goal.returns
returns c = scan-end c.args.versions.now c.args.text.now c.loop-listed.listed-index c.loop-listed.found c.loop-listed-test.false c.loop-listed.invariant
