use Rattle.std.proofs.Common.{◌-◌, []}
use Rattle.std.proofs.lemmas.Result.{IfOk-weaker}
use Rattle.yaml_spec.specs.Machine as spec
use Rattle.yaml_spec.specs.Machine.{frame}
use Rattle.yaml_spec.specs.Reading as reading
use Rattle.udb_yaml.specs.Steps.{at_place}
use Rattle.udb_yaml.proofs.NodeLemmas.{begin_value, begin_full, begin_mark, begun_value, begun_below, pushed_first}
use Rattle.udb_yaml.proofs.nodes.+nodes.Goals as goal

pub begin-returns-then-room-eq0 : goal.begin-returns-then-room-eq0
begin-returns-then-room-eq0 t c = begin_full c.args.room c.args.least c.args.column c.args.text.now c.in_ok-sees.field-0 c.in-Some.group c.in-Some.key c.in-Some.place c.in_ok-sees.ensures.0 c.in-Some.ensures c.if-room-eq0.true

pub begin-returns-in-None : goal.begin-returns-in-None
begin-returns-in-None t c =
    IfOk-weaker c.value.result _ _ (λ o e. begun_value c.args.least _ (reading.inline c.args.room c.args.text.now) c.args.frames.now o (begin_value c.args.room c.args.least c.args.column c.args.text.now c.in_ok-sees.field-0 c.in_ok-sees.ensures.0 c.in-None.ensures) e) c.value.ensures

pub begin-returns-in_ok-push-in-Some : goal.begin-returns-in_ok-push-in-Some
begin-returns-in_ok-push-in-Some t c =
    IfOk-weaker c.behind.result _ _ (λ o e. begun_below (frame c.in-Some.group c.args.column [] c.in-Some.key) (at_place (c.args.room - 1) (spec.begin (c.args.room - 1)) c.args.column c.args.text.now c.in-Some.place) _ c.args.frames.now c.push.new.self c.behind.new.frames o (begin_mark c.args.room c.args.least c.args.column c.args.text.now c.in_ok-sees.field-0 c.in-Some.group c.in-Some.key c.in-Some.place c.in_ok-sees.ensures.0 c.in-Some.ensures c.if-room-eq0.false) (pushed_first c.args.frames.now c.push.new.self c.in-Some.group c.args.column c.new-parts.result c.in-Some.key c.in_ok-push-in-Some.ensures.ok c.new-parts.ensures) e) c.behind.ensures
