use Rattle.std.proofs.Common.{sym, ap, subst, ◌∙◌}
use Rattle.std.specs.Prelude.{option_map}
use Rattle.idl_forms.specs.States.{Finds}
use Rattle.idl_forms.specs.Steps.{word_step}
use Rattle.idl_forms.specs.Scenes.{setting_of, addressed_of}
use Rattle.idl_forms.proofs.fields.csr_of_word.Goals as goal

pub returns-in-Some-clause-value : goal.returns-in-Some-clause-value
returns-in-Some-clause-value c =
    subst (λ o. Finds (option_map addressed_of) (word_step (setting_of c.args.scene.now) o) c.csr_of_some.result)
    (sym (ap (option_map (λ n. n.now)) c.in-Some.is) ∙ c.csr_word.ensures) c.csr_of_some.ensures.value
