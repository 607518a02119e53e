use Rattle.std.proofs.Common.{◌≡◌, ◌<◌, ◌≤◌, ℕ, List, length, subst}
use Rattle.std.proofs.lemmas.Result.{IfOk-weaker}
use Rattle.yaml_spec.specs.declared.state.Frame.{Frame}
use Rattle.udb_yaml.specs.Steps.{kept_count}
use Rattle.udb_yaml.proofs.StepLemmas.{adds_next, adds_under, stepped_same, begun_stepped}
use Rattle.udb_yaml.proofs.steps.add.Goals as goal

pub returns-then-count-len : goal.returns-then-count-len
returns-then-count-len c =
    IfOk-weaker c.next.result _ _ (λ o e. stepped_same _ _ _ o (adds_next c.count_less_deep-count.result c.level-here.result c.group_of.result c.in_ok-sight.sight c.args.frames.now c.args.leaf c.args.column c.args.text.now c.in_ok-sight.ensures.0 c.group_of.ensures c.level-here.ensures (subst (λ (z : List Frame). c.count_less_deep-count.result ≡ kept_count c.level-here.result z) c.as_slice.ensures c.count_less_deep-count.ensures.count) (subst (λ (z : ℕ). c.count_less_deep-count.result < z) c.len.ensures c.if-count-len.true)) e) c.next.ensures

pub returns-else-count-len : goal.returns-else-count-len
returns-else-count-len c =
    IfOk-weaker c.under.result _ _ (λ o e. begun_stepped _ _ c.args.frames.now _ o (adds_under c.count_less_deep-count.result c.level-here.result c.group_of.result c.in_ok-sight.sight c.args.frames.now c.args.leaf c.args.column c.args.text.now c.in_ok-sight.ensures.0 c.group_of.ensures c.level-here.ensures (subst (λ (z : List Frame). c.count_less_deep-count.result ≡ kept_count c.level-here.result z) c.as_slice.ensures c.count_less_deep-count.ensures.count) (subst (λ (z : List Frame). c.count_less_deep-count.result ≤ length z) c.as_slice.ensures c.count_less_deep-count.ensures.within) (subst (λ (z : ℕ). z ≤ c.count_less_deep-count.result) c.len.ensures c.if-count-len.false)) e) c.under.ensures
