use Rattle.std.proofs.Common.{None, Some, sym, ap, ◌∙◌}
use Rattle.std.specs.Prelude.{if◌then◌else◌}
use Rattle.udb_spec.specs.Conditions.{same_bytes}
use Rattle.idl_spec.specs.Shapes.{or_else}
use Rattle.type_kinds.specs.Views.{visible_of}
use Rattle.type_kinds.proofs.VisibleNames.{one-more}
use Rattle.type_kinds.proofs.views.visible_named.Goals as goal

pub loop-one-preserved : goal.loop-one-preserved
loop-one-preserved c =
    c.later-found.ensures ∙ ap (or_else (if same_bytes c.one-item.result.name c.args.name.now then Some (visible_of c.one-item.result) else None)) c.loop-one.invariant
    ∙ sym (one-more c.args.view.now.visible.now c.loop-one.one-index c.one-item.result c.args.name.now c.loop-one-test.true c.one-item.is)
