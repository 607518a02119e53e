use Rattle.std.proofs.Common.{ℕ, ◌<◌, subst, drop, refl, ◌∙◌}
use Rattle.udb_yaml.proofs.StepLemmas.{close_leaf, close_pop}
use Rattle.udb_yaml.proofs.steps.close.Goals as goal

pub closing-init : goal.closing-init
closing-init c = (close_leaf (drop c.args.keep c.args.frames.now) c.args.leaf c.in_ok-value.value c.in_ok-value.ensures, refl, c.requires)

pub closing-preserved-in-Some : goal.closing-preserved-in-Some
closing-preserved-in-Some c =
    let p = close_pop c.args.keep c.closing.frames c.pop.new.self c.in-Some.frame c.closing.value c.in_ok-value-2.value c.in-Some.ensures (subst (λ (z : ℕ). c.args.keep < z) c.len.ensures c.closing-test.true) c.in_ok-value-2.ensures in
    (p.0 ∙ c.closing.invariant.0, p.1 ∙ c.closing.invariant.1, p.2)
