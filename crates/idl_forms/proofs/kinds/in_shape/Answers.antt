use Rattle.std.proofs.Common.{sym, ap, subst, ◌∙◌}
use Rattle.idl_spec.specs.Harts.{and_then}
use Rattle.idl_spec.specs.Mean.{in_shape}
use Rattle.idl_forms.specs.States.{as_scalar, Ends}
use Rattle.idl_forms.specs.Scenes.{setting_of}
use Rattle.idl_forms.proofs.SceneKinds.{shape-of-scalar}
use Rattle.idl_forms.proofs.kinds.in_shape.Goals as goal

pub returns : goal.returns
returns c = λ s o h.
    subst (λ p. Ends as_scalar p c.scalar_in_shape.result s)
    (sym (shape-of-scalar (setting_of c.args.scene.now) c.args.shape.now o ∙ ap (λ p. and_then p (in_shape (setting_of c.args.scene.now) c.args.shape.now)) (c.in_ok-value.ensures s o h)))
    (c.scalar_in_shape.ensures s)
