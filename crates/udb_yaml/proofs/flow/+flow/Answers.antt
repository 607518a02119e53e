use Rattle.std.proofs.Common.{◌≡◌, ◌∙◌, ◌+◌, ◌<◌, ℕ, suc, length, drop, sym, ap, subst, arith}
use Rattle.std.proofs.lemmas.Str.{IsCharBoundary-start}
use Rattle.yaml_spec.specs.Line.{begins, whole}
use Rattle.yaml_spec.specs.Reading as spec
use Rattle.udb_yaml.specs.Places.{Takes, Reads, ReadsPart}
use Rattle.udb_yaml.proofs.FlowLemmas.{flow_plain, flow_quoted, group_none, group_rest, parts_fault, parts_last, parts_more, part_read, rest_empty}
use Rattle.udb_yaml.proofs.flow.+flow.Goals as goal

pub flow-returns-in-Some : goal.flow-returns-in-Some
flow-returns-in-Some t c =
    let quote = ap spec.quote_of (sym c.as_bytes.ensures.value) ∙ sym c.in-Some.ensures in
    rw (flow_quoted c.args.room c.args.text.now c.in-Some.place quote) c.quoted_text.ensures

pub flow-returns-else-begins-2 : goal.flow-returns-else-begins-2
flow-returns-else-begins-2 t c =
    let quote = ap spec.quote_of (sym c.as_bytes.ensures.value) ∙ sym c.in-None.ensures in
    let list = ap (begins 91) (sym c.as_bytes-in-None.ensures.value) ∙ (sym c.begins.ensures ∙ c.if-begins.false) in
    let map = ap (begins 123) (sym c.as_bytes-else-begins.ensures.value) ∙ (sym c.begins-else-begins.ensures ∙ c.if-begins-2.false) in
    rw (flow_plain c.args.room c.args.text.now quote list map) c.plain.ensures

pub group-returns-then-room-eq0 : goal.group-returns-then-room-eq0
group-returns-then-room-eq0 t c = group_none c.args.room c.args.group c.args.text.now c.if-room-eq0.true c.requires.1.1.1.0 c.requires.1.1.1.1

pub group-returns : goal.group-returns
group-returns t c = let more : 0 < c.args.room = omega arith in rw (← group_rest c.args.room c.args.group c.args.text.now c.first-place.result more c.requires.1.1.1.0 c.requires.1.1.1.1 c.first-place.ensures.place) c.rest.ensures

pub part-returns-in-Some-2 : goal.part-returns-in-Some-2
part-returns-in-Some-2 t c =
    part_read c.args.group (spec.flow c.args.room) c.args.before.now c.args.text.now c.in-Some.key c.text_after.result.now c.after.result.now c.in-Some-2.value c.in-Some.count c.in-Some-2.more c.front-spaces.result c.requires.0.1.1.1.1.0
    (subst (Takes c.args.text.now (spec.flow_head c.args.group c.args.text.now)) c.in-Some.is c.in_ok-head.ensures)
    (sym c.is_new.ensures ∙ c.if-not-is_new.false) c.text_after.ensures (subst (Reads c.text_after.result.now (spec.flow c.args.room c.text_after.result.now)) c.in-Some-2.is c.in_ok-flow-in-Some.ensures)
    (c.after.ensures ∙ ap (drop (c.in-Some.count + c.in-Some-2.more)) c.as_bytes.ensures.value) c.front-spaces.ensures.count

pub parts-parts-init : goal.parts-parts-init
parts-parts-init t c = let same : length c.args.text.now + 1 ≡ suc (length c.args.text.now) = omega arith in (
  ap (λ (n : ℕ). spec.flow_parts c.args.group (spec.flow c.args.room) n c.new-before.result c.args.text.now) same ∙ ap (λ z. spec.flow_parts c.args.group (spec.flow c.args.room) (suc (length c.args.text.now)) z c.args.text.now) c.new-before.ensures,
  omega arith,
  IsCharBoundary-start c.args.text.now c.requires.0.1.1.1.0,
)

pub parts-returns-in-Fault : goal.parts-returns-in-Fault
parts-returns-in-Fault t c =
    sym c.parts.invariant.0 ∙ parts_fault c.args.group (spec.flow c.args.room) c.parts.left c.parts.before c.args.text.now c.text_after.result.now c.as_bytes.result.now c.parts.at c.in-Some.count c.in-Some.part c.parts-test.true c.text_after.ensures
    (subst (ReadsPart c.args.group (spec.flow c.args.room) c.parts.before c.text_after.result.now) c.in-Some.is c.in_ok-part.ensures) c.as_bytes.ensures.value c.in-Fault.ensures

pub parts-returns-in-Last : goal.parts-returns-in-Last
parts-returns-in-Last t c =
    let all = parts_last c.args.group (spec.flow c.args.room) c.parts.left c.parts.before c.into_pairs.result c.args.text.now c.text_after.result.now c.as_bytes.result.now c.parts.at c.in-Some.count c.in-Last.end c.in-Some.part c.requires.0.1.1.1.0 c.parts-test.true c.text_after.ensures
    (subst (ReadsPart c.args.group (spec.flow c.args.room) c.parts.before c.text_after.result.now) c.in-Some.is c.in_ok-part.ensures) c.as_bytes.ensures.value c.in-Last.ensures (c.into_pairs.ensures ∙ c.in_ok-before-in-Some.ensures) in
    (sym c.parts.invariant.0 ∙ all.0, all.1, all.2)

pub parts-parts-preserved : goal.parts-parts-preserved
parts-parts-preserved t c =
    let all = parts_more c.args.group (spec.flow c.args.room) c.parts.left c.parts.before c.in_ok-before-in-Some.before c.args.text.now c.text_after.result.now c.as_bytes.result.now c.parts.at c.in-Some.count c.in-More.next c.in-Some.part c.requires.0.1.1.1.0 c.parts-test.true c.text_after.ensures
    (subst (ReadsPart c.args.group (spec.flow c.args.room) c.parts.before c.text_after.result.now) c.in-Some.is c.in_ok-part.ensures) c.as_bytes.ensures.value c.in-More.ensures c.in_ok-before-in-Some.ensures in
    (all.reads ∙ c.parts.invariant.0, all.within, all.cut)

pub rest-returns-then-as_bytes-place : goal.rest-returns-then-as_bytes-place
rest-returns-then-as_bytes-place t c =
    rest_empty (spec.flow c.args.room) c.args.group c.args.text.now c.as_bytes.result.now c.in_ok-whole.field-0 c.args.place c.closing.result c.requires.0.1.1.1.1.0 c.as_bytes.ensures.value (omega arith) c.if-as_bytes-place.true c.closing.ensures
    (c.in_ok-whole.ensures ∙ ap (whole c.args.group) c.new.ensures)
