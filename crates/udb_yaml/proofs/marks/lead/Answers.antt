use Rattle.std.proofs.Common.{◌≡◌, ◌∙◌, ap, subst, false, drop, Option, Result, IfOk, sym}
use Rattle.std.specs.declared.alloc.AllocError.{AllocError as NoMemory}
use Rattle.yaml_spec.specs.declared.tree.Mark.{Mark}
use Rattle.yaml_spec.specs.Marks.{first_mark, lead}
use Rattle.udb_yaml.specs.Places.{Takes, key_in}
use Rattle.udb_yaml.proofs.TextLemmas.{lead_none, lead_some}
use Rattle.udb_yaml.proofs.marks.lead.Goals.{in-None, in-Some}
use Rattle.udb_yaml.proofs.marks.lead.Goals as goal

pub returns : goal.returns
returns c = elim c.match-branch-2.branch [
  | in-None w ↦ subst (λ (z : Result (Option Mark) NoMemory). IfOk z (λ o. o ≡ lead c.args.content.now)) (sym w.result-is) (w.first_mark.ensures ∙ (ap first_mark w.as_bytes.ensures.value ∙ lead_none c.args.content.now c.text_after-rest.result.now c.dashes.result c.text_after-rest.ensures c.dashes.ensures.rest (subst (Takes c.text_after-rest.result.now (key_in false c.text_after-rest.result.now)) w.in-None.is c.in_ok-count.ensures)))
  | in-Some w ↦ let t = subst (Takes c.text_after-rest.result.now (key_in false c.text_after-rest.result.now)) w.in-Some.is c.in_ok-count.ensures in
      subst (λ (z : Result (Option Mark) NoMemory). IfOk z (λ o. o ≡ lead c.args.content.now)) (sym w.result-is) (w.first_mark-in-Some.ensures ∙ (ap first_mark w.after.ensures ∙ lead_some c.args.content.now c.text_after-rest.result.now w.after-behind.result.now c.dashes.result w.in-Some.count w.front.result w.in-Some.field-0-0 c.text_after-rest.ensures c.dashes.ensures.rest t.0 (w.after-behind.ensures ∙ ap (drop w.in-Some.count) w.as_bytes-in-Some.ensures.value) w.front.ensures.count))
]
