use Rattle.std.proofs.Common.{Option, Err, ap, ◌∙◌}
use Rattle.std.proofs.lemmas.Result.{err_from_is_err_and}
use Rattle.idl_tree.specs.declared.widths.Shape.{Shape}
use Rattle.idl_spec.specs.Programs as bodies
use Rattle.idl_forms.specs.States.{value_if_any}
use Rattle.idl_forms.specs.Scenes.{setting_of}
use Rattle.idl_forms.proofs.Endings.{ends-same}
use Rattle.idl_forms.proofs.ShapeParts.{result-early, result-given}
use Rattle.idl_forms.proofs.results.result.Goals as goal

pub returns-in_err-value-in-Some : goal.returns-in_err-value-in-Some
returns-in_err-value-in-Some c = λ s.
    let e = setting_of c.args.scene.now in
    let p = err_from_is_err_and c.from_residual.result c.from_residual.ensures.1 in
    ends-same value_if_any _ _ _ _ s (ap (λ (shape : Option Shape). bodies.result e shape (value_if_any c.args.returned) s) c.in-Some.is) (p.1 ∙ ap Err p.2)
    (result-early value_if_any e c.in-Some.shape c.args.returned c.required.result _ c.required.ensures c.in_err-value-in-Some.ensures s)

pub returns-in_ok-value-in-Some : goal.returns-in_ok-value-in-Some
returns-in_ok-value-in-Some c = λ s.
    let e = setting_of c.args.scene.now in
    ap (λ (shape : Option Shape). bodies.result e shape (value_if_any c.args.returned) s) c.in-Some.is
    ∙ result-given e c.in-Some.shape c.args.returned c.required.result c.in_ok-value-in-Some.value c.required.ensures c.in_ok-value-in-Some.ensures s
