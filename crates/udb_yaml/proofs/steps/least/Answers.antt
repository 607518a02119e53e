use Rattle.std.proofs.Common.{◌-◌, suc, length, sym, ap, ◌∙◌}
use Rattle.std.proofs.lemmas.Result.{IfOk-weaker}
use Rattle.yaml_spec.specs.declared.state.Frame.{Frame}
use Rattle.udb_yaml.proofs.StepLemmas.{bound_last, one_less}
use Rattle.udb_yaml.proofs.steps.least.Goals as goal

pub returns : goal.returns
returns c =
    let last = bound_last 0 (length c.args.frames.now - 1) c.args.frames.now c.index-frames-count.result (one_less (length c.args.frames.now) c.if-count-eq0.false) in
    IfOk-weaker c.right_of.result _ _ (λ n e. e ∙ (ap (λ (f : Frame). suc f.column) (c.last.view_is ∙ c.index-frames-count.is) ∙ sym last)) c.right_of.ensures
