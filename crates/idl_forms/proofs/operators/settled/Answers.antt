use Rattle.std.proofs.Common.{Bool, Option, Err, ap, ◌∙◌}
use Rattle.std.proofs.lemmas.Result.{err_from_is_err_and}
use Rattle.idl_tree.specs.declared.expressions.Binary.TheVariants as b
use Rattle.idl_spec.specs.Harts.{done}
use Rattle.idl_forms.specs.States.{as_value}
use Rattle.idl_forms.specs.Steps.{left_step}
use Rattle.idl_forms.proofs.Endings.{ends-same, flag-early}
use Rattle.idl_forms.proofs.operators.settled.Goals as goal

pub returns-in_err-truth-in-And : goal.returns-in_err-truth-in-And
returns-in_err-truth-in-And c = λ s.
    let x = as_value c.args.left.now in
    let p = err_from_is_err_and c.from_residual.result c.from_residual.ensures.1 in
    ends-same (λ (k : Option Bool). k) _ (left_step b.And x s) _ _ s (ap (λ sign. left_step sign x s) c.in-And.is) (p.1 ∙ ap Err p.2)
    (flag-early (λ (k : Option Bool). k) (done x s) _ _ s (c.in_err-truth-in-And.ensures s))

pub returns-in_err-truth-in-Or : goal.returns-in_err-truth-in-Or
returns-in_err-truth-in-Or c = λ s.
    let x = as_value c.args.left.now in
    let p = err_from_is_err_and c.from_residual-in_err-truth-in-Or.result c.from_residual-in_err-truth-in-Or.ensures.1 in
    ends-same (λ (k : Option Bool). k) _ (left_step b.Or x s) _ _ s (ap (λ sign. left_step sign x s) c.in-Or.is) (p.1 ∙ ap Err p.2)
    (flag-early (λ (k : Option Bool). k) (done x s) _ _ s (c.in_err-truth-in-Or.ensures s))
