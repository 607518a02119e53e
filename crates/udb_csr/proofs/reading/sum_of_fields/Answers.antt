use Rattle.std.proofs.Common.{◌<◌, ◌^◌, length, get_or, ap, subst, ◌∙◌}
use Rattle.idl_spec.specs.Fields.{placed}
use Rattle.idl_forms.specs.States.{state_of}
use Rattle.idl_forms.specs.FieldSums.{number_at}
use Rattle.idl_forms.proofs.FieldPlaces.{sum-turn}
use Rattle.udb_csr.proofs.reading.sum_of_fields.Goals as goal

pub loop-field-preserved : goal.loop-field-preserved
loop-field-preserved c =
    sum-turn (number_at c.args.csr.now.name (state_of c.args.state.now)) (placed c.args.space.now c.args.full.now)
    c.args.csr.now.fields c.loop-field.field-index c.field-item.result c.loop-field.sum c.part_of-sum.result (2 ^ 64)
    (subst (λ fs. c.loop-field.field-index < length fs) c.as_slice-field-items.ensures c.loop-field-test.true)
    (c.field-item.is ∙ ap (λ fs. get_or fs c.loop-field.field-index c.field-item.result) c.as_slice-field-items.ensures) c.loop-field.invariant c.part_of-sum.ensures
