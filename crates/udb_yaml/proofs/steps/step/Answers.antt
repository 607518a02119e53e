use Rattle.std.proofs.Common.{◌∙◌, sym}
use Rattle.std.proofs.lemmas.Result.{IfOk-weaker}
use Rattle.udb_yaml.proofs.StepLemmas.{steps_first, steps_next, reaches_same}
use Rattle.udb_yaml.proofs.steps.step.Goals as goal

pub returns-then-is_start : goal.returns-then-is_start
returns-then-is_start c = IfOk-weaker c.first.result _ _ (λ o e. reaches_same _ _ o (steps_first c.args.state.started c.args.state.frames c.args.state.leaf c.args.column c.args.content.now (sym c.is_start.ensures ∙ c.if-is_start.true)) e) c.first.ensures

pub returns-else-is_start : goal.returns-else-is_start
returns-else-is_start c = IfOk-weaker c.advance.result _ _ (λ o e. reaches_same _ _ o (steps_next c.args.state.started c.args.state.frames c.args.state.leaf c.args.column c.args.content.now (sym c.is_start.ensures ∙ c.if-is_start.false)) e) c.advance.ensures
