use Rattle.std.proofs.Common.{None, Some, sym, ap, ◌∙◌}
use Rattle.std.specs.Prelude.{if◌then◌else◌}
use Rattle.udb_spec.specs.Conditions.{same_bytes}
use Rattle.idl_spec.specs.Shapes.{or_else}
use Rattle.idl_forms.specs.States.{as_scalar}
use Rattle.idl_forms.proofs.VariableBits.{locals-more}
use Rattle.idl_forms.proofs.names.local.Goals as goal

pub loop-local-preserved : goal.loop-local-preserved
loop-local-preserved c =
    c.later-found.ensures ∙ ap (or_else (if same_bytes c.local-item.result.name c.args.name.now then Some (as_scalar c.local-item.result.value) else None)) c.loop-local.invariant
    ∙ sym (locals-more c.args.scope.now c.loop-local.local-index c.local-item.result c.args.name.now c.loop-local-test.true c.local-item.is)
