use Rattle.idl_spec.specs.Shapes.{shape}
use Rattle.idl_spec.specs.Settings.{names_of}
use Rattle.idl_forms.specs.States.{scope_of}
use Rattle.idl_forms.specs.Scenes.{setting_of}
use Rattle.idl_forms.proofs.kinds.chosen.Goals as goal

pub returns : goal.returns
returns c =
    let e = setting_of c.args.scene.now in
    c.in_kind.ensures e (shape (names_of e (scope_of c.args.scope.now)) c.args.choice.now) c.expression_kind.ensures.value
