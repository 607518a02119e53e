use Rattle.std.proofs.Common.{Some, Err, ap, ◌∙◌, refl}
use Rattle.std.specs.Prelude.{option_map}
use Rattle.std.proofs.lemmas.Result.{err_from_is_err_and}
use Rattle.idl_spec.specs.Harts.{done, and_then, required}
use Rattle.idl_spec.specs.Forms.{csr_of_name}
use Rattle.idl_forms.specs.Scenes.{setting_of, addressed_of}
use Rattle.idl_forms.specs.Steps.{word_step}
use Rattle.idl_forms.proofs.Endings.{early, ends-same}
use Rattle.idl_forms.proofs.fields.csr_of_some.Goals as goal

pub returns-in_err-csr_of_name-clause-value : goal.returns-in_err-csr_of_name-clause-value
returns-in_err-csr_of_name-clause-value c = λ s.
    let e = setting_of c.args.scene.now in
    let p = err_from_is_err_and c.from_residual.result c.from_residual.ensures.1 in
    ends-same (option_map addressed_of) _ (word_step e (Some c.args.name.now) s) _ _ s refl (p.1 ∙ ap Err p.2)
    (early addressed_of (option_map addressed_of) (required (csr_of_name e c.args.name.now) s) (λ a t. done (Some a) t) _ s (c.in_err-csr_of_name.ensures.value s))

pub returns-clause-value : goal.returns-clause-value
returns-clause-value c = λ s. ap (λ o. and_then o (λ a t. done (Some a) t)) (c.in_ok-csr_of_name.ensures.value s)
