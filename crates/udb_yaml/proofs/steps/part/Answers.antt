use Rattle.std.proofs.Common.{◌∙◌, [], ◌∷◌, ◌++◌, ap}
use Rattle.std.proofs.lemmas.Result.{IfOk-weaker}
use Rattle.yaml_spec.specs.declared.state.Frame.{Frame}
use Rattle.yaml_spec.specs.Line.{pair}
use Rattle.udb_yaml.proofs.StepLemmas.{next_pushed}
use Rattle.udb_yaml.proofs.steps.part.Goals as goal

pub returns-in_ok-push-in-Some : goal.returns-in_ok-push-in-Some
returns-in_ok-push-in-Some c =
    let all = c.in_ok-all-in-Some.ensures ∙ ap (λ (f : Frame). f.parts ++ pair f.key c.args.value ∷ []) c.frame.view_is in
    IfOk-weaker c.behind.result _ _ (λ o e. next_pushed c.args.room c.frame.inside.column c.args.text.now c.args.frame c.args.value c.args.sight c.in-Some.group c.in-Some.key c.in-Some.place c.in_ok-all-in-Some.all c.is_new.result c.args.frames.now c.push.new.self c.behind.new.frames o
    c.in-Some.ensures (ap (λ (f : Frame). f.column) c.frame.view_is) all c.is_new.ensures c.if-not-is_new.false c.in_ok-push-in-Some.ensures.ok e) c.behind.ensures
