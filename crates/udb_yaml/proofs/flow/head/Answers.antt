use Rattle.std.proofs.Common.{◌∙◌, true, drop, sym, ap, subst}
use Rattle.udb_yaml.specs.Places.{Takes, key_in}
use Rattle.udb_yaml.proofs.FlowLemmas.{head_item, head_entry}
use Rattle.udb_yaml.proofs.flow.head.Goals as goal

pub returns-in-Listed : goal.returns-in-Listed
returns-in-Listed c = head_item c.args.group c.args.text.now c.new.result c.utf8.text c.in-Listed.is c.new.ensures

pub returns-then-begins : goal.returns-then-begins
returns-then-begins c =
    head_entry c.args.group c.args.text.now c.after-rest.result.now c.in-Some.key c.in-Some.count c.front.result c.utf8.text c.in-Mapped.is
    (subst (Takes c.args.text.now (key_in true c.args.text.now)) c.in-Some.is c.in_ok-key_of-in-Mapped.ensures)
    (c.after-rest.ensures ∙ ap (drop c.in-Some.count) c.as_bytes.ensures.value) (sym c.begins.ensures ∙ c.if-begins.true) c.front.ensures.count
