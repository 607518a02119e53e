use Rattle.std.proofs.Common.{◌∙◌, List, ℕ, drop, sym, ap}
use Rattle.yaml_spec.specs.Line.{is_plain, has_flow, meaning}
use Rattle.udb_yaml.proofs.FlowLemmas.{plain_reads}
use Rattle.udb_yaml.proofs.flow.plain.Goals as goal

pub returns-in_ok-meaning : goal.returns-in_ok-meaning
returns-in_ok-meaning c =
    let scalar = c.text_before-scalar.ensures in
    let bytes = c.as_bytes.ensures.value ∙ scalar in
    let bytes' = c.as_bytes-then-is_plain.ensures.value ∙ scalar in
    plain_reads c.args.text.now c.as_bytes-bytes.result.now c.in_ok-meaning.field-0 c.plain-count.result c.as_bytes-bytes.ensures.value c.plain-count.ensures.content c.plain-count.ensures.within c.plain-count.ensures.next
    (ap (λ (z : List ℕ). is_plain z (drop c.plain-count.result c.as_bytes-bytes.result.now)) (sym bytes) ∙ (ap (is_plain c.as_bytes.result.now) (sym c.after.ensures) ∙ (sym c.is_plain.ensures ∙ c.if-is_plain.true)))
    (ap has_flow (sym bytes') ∙ (sym c.has_flow.ensures ∙ c.if-not-has_flow.true)) (c.in_ok-meaning.ensures ∙ ap meaning scalar)
