use Rattle.std.proofs.Common.{◌≡◌, ℕ, List, subst}
use Rattle.yaml_spec.specs.Spells.{at}
use Rattle.yaml_spec.specs.Machine.{is_document, begin}
use Rattle.udb_yaml.specs.Steps.{Begun}
use Rattle.udb_yaml.proofs.StepLemmas.{first_skipped, first_ended, first_apart, first_begins, begun_none, begun_some}
use Rattle.udb_yaml.proofs.steps.first.Goals.{then-is_document-2-via-then-is_document-2, then-is_document-2-via-else-is_document-2+then-column-ne0}
use Rattle.udb_yaml.proofs.steps.first.Goals as goal

pub returns-then-is_skipped : goal.returns-then-is_skipped
returns-then-is_skipped c = first_skipped c.args.started c.args.column c.args.content.now c.is_skipped.result c.empty.result c.is_skipped.ensures c.if-is_skipped.true c.empty.ensures

pub returns-then-is_document-2 : goal.returns-then-is_document-2
returns-then-is_document-2 c = elim c.then-is_document-2.branch [
  | then-is_document-2-via-then-is_document-2 w ↦ first_ended c.args.started c.args.column c.args.content.now c.is_skipped.result c.is_document.result c.is_document-2.result c.is_skipped.ensures c.if-is_skipped.false (subst (λ (z : List ℕ). c.is_document.result ≡ is_document 45 (at c.args.column z)) c.as_bytes.ensures.value c.is_document.ensures) c.if-is_document.false (subst (λ (z : List ℕ). c.is_document-2.result ≡ is_document 46 (at c.args.column z)) c.as_bytes-2.ensures.value c.is_document-2.ensures) w.if-is_document-2.true
  | then-is_document-2-via-else-is_document-2+then-column-ne0 w ↦ first_apart c.args.started c.args.column c.args.content.now c.is_skipped.result c.is_document.result c.is_document-2.result c.is_skipped.ensures c.if-is_skipped.false (subst (λ (z : List ℕ). c.is_document.result ≡ is_document 45 (at c.args.column z)) c.as_bytes.ensures.value c.is_document.ensures) c.if-is_document.false (subst (λ (z : List ℕ). c.is_document-2.result ≡ is_document 46 (at c.args.column z)) c.as_bytes-2.ensures.value c.is_document-2.ensures) w.if-is_document-2.false w.if-column-ne0.true
]

pub returns-in-None : goal.returns-in-None
returns-in-None c =
    let begins = first_begins c.args.started c.args.column c.args.content.now c.is_skipped.result c.is_document.result c.is_document-2.result c.is_skipped.ensures c.if-is_skipped.false (subst (λ (z : List ℕ). c.is_document.result ≡ is_document 45 (at c.args.column z)) c.as_bytes.ensures.value c.is_document.ensures) c.if-is_document.false (subst (λ (z : List ℕ). c.is_document-2.result ≡ is_document 46 (at c.args.column z)) c.as_bytes-2.ensures.value c.is_document-2.ensures) c.if-is_document-2.false c.if-column-ne0.false in
    begun_none c.args.started (begin 32 0 c.args.column c.args.content.now) _ c.new-frames.result c.begin.new.frames begins (subst (Begun (begin 32 0 c.args.column c.args.content.now) c.new-frames.result c.begin.new.frames) c.in-None.is c.in_ok-begin.ensures)

pub returns-in-Some : goal.returns-in-Some
returns-in-Some c =
    let begins = first_begins c.args.started c.args.column c.args.content.now c.is_skipped.result c.is_document.result c.is_document-2.result c.is_skipped.ensures c.if-is_skipped.false (subst (λ (z : List ℕ). c.is_document.result ≡ is_document 45 (at c.args.column z)) c.as_bytes.ensures.value c.is_document.ensures) c.if-is_document.false (subst (λ (z : List ℕ). c.is_document-2.result ≡ is_document 46 (at c.args.column z)) c.as_bytes-2.ensures.value c.is_document-2.ensures) c.if-is_document-2.false c.if-column-ne0.false in
    begun_some c.args.started (begin 32 0 c.args.column c.args.content.now) _ c.new-frames.result c.begin.new.frames c.in-Some.leaf begins c.new-frames.ensures (subst (Begun (begin 32 0 c.args.column c.args.content.now) c.new-frames.result c.begin.new.frames) c.in-Some.is c.in_ok-begin.ensures)
