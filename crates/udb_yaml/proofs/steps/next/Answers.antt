use Rattle.std.proofs.Common.{◌≡◌, ◌∙◌, ℕ, take, drop, subst, ap}
use Rattle.std.proofs.lemmas.Result.{IfOk-weaker}
use Rattle.yaml_spec.specs.declared.state.Frame.{Frame}
use Rattle.yaml_spec.specs.Machine.{close, level}
use Rattle.udb_yaml.proofs.StepLemmas.{next_full, next_other, next_shown, begun_stepped}
use Rattle.udb_yaml.proofs.steps.next.Goals.{then-count-ge32-via-then-count-ge32, then-count-ge32-via-else-count-ge32+then-level-here}
use Rattle.udb_yaml.proofs.steps.next.Goals as goal

pub returns-then-count-ge32 : goal.returns-then-count-ge32
returns-then-count-ge32 c = elim c.then-count-ge32.branch [
  | then-count-ge32-via-then-count-ge32 w ↦ next_full c.args.count c.args.here c.args.frames.now c.pop.new.self c.close.new.frames c.in-Some.frame c.args.leaf c.in_ok-value.value c.args.text.now c.requires.within (subst (λ (z : ℕ). c.in_ok-value.value ≡ close (drop z c.args.frames.now) c.args.leaf) c.in_ok-right_of.ensures c.in_ok-value.ensures.0) (subst (λ (z : ℕ). c.close.new.frames ≡ take z c.args.frames.now) c.in_ok-right_of.ensures c.in_ok-value.ensures.1) c.in-Some.ensures w.if-count-ge32.true
  | then-count-ge32-via-else-count-ge32+then-level-here w ↦ next_other c.args.count c.args.here w.level.result c.args.frames.now c.pop.new.self c.close.new.frames c.in-Some.frame c.args.leaf c.in_ok-value.value c.args.text.now c.requires.within (subst (λ (z : ℕ). c.in_ok-value.value ≡ close (drop z c.args.frames.now) c.args.leaf) c.in_ok-right_of.ensures c.in_ok-value.ensures.0) (subst (λ (z : ℕ). c.close.new.frames ≡ take z c.args.frames.now) c.in_ok-right_of.ensures c.in_ok-value.ensures.1) c.in-Some.ensures (w.level.ensures ∙ ap (λ (f : Frame). level f.group f.column) c.frame.view_is) w.if-level-here.true
]

pub returns-else-level-here : goal.returns-else-level-here
returns-else-level-here c =
    let shown = next_shown c.args.count c.args.here c.level.result c.args.frames.now c.pop.new.self c.close.new.frames c.in-Some.frame c.args.leaf c.in_ok-value.value c.args.text.now c.requires.within (subst (λ (z : ℕ). c.in_ok-value.value ≡ close (drop z c.args.frames.now) c.args.leaf) c.in_ok-right_of.ensures c.in_ok-value.ensures.0) (subst (λ (z : ℕ). c.close.new.frames ≡ take z c.args.frames.now) c.in_ok-right_of.ensures c.in_ok-value.ensures.1) c.in-Some.ensures (c.level.ensures ∙ ap (λ (f : Frame). level f.group f.column) c.frame.view_is) c.if-level-here.false c.if-count-ge32.false c.args.sight c.requires.shows.0 in
    IfOk-weaker c.part.result _ _ (λ o e. begun_stepped _ _ c.pop.new.self _ o shown e) c.part.ensures
