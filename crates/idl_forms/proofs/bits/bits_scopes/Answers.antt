use Rattle.std.proofs.Common.{sym, ap, subst, ◌∙◌}
use Rattle.std.proofs.lemmas.List.Elements.{All-get_or}
use Rattle.idl_forms.specs.Ready.{AreLawfulVariables}
use Rattle.idl_forms.proofs.bits.bits_scopes.Goals as goal

pub bits_scope-requires-clause-variables : goal.bits_scope-requires-clause-variables
bits_scope-requires-clause-variables c =
    subst AreLawfulVariables (ap (λ b. b.variables) (sym c.body-item.is) ∙ sym c.as_slice.ensures)
    (All-get_or (λ b. AreLawfulVariables b.variables) c.args.bodies.now c.loop-body.body-index c.body-item.result c.loop-body-test.true c.requires.variables)
