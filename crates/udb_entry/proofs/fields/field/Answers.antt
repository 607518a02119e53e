use Rattle.std.proofs.Common.{ap, ◌∙◌}
use Rattle.udb_entry.specs.Entries as spec
use Rattle.udb_entry.proofs.ReadLemmas.{gained, failed}
use Rattle.udb_entry.proofs.fields.field.Goals as goal

pub returns-in-Ok : goal.returns-in-Ok
returns-in-Ok c =
    let made = gained (λ v. spec.field_with v.1) _ _ c.in-Ok.parts _ (c.both_read.ensures _ _ _ _ (c.examined-name.ensures _ c.field_name_rule.ensures) (c.both_read-rest.ensures _ _ _ _ c.places.ensures (c.both_read-inner.ensures _ _ _ _ c.condition-present.ensures (c.both_read-tail.ensures _ _ _ _ c.bodies.ensures c.texts.ensures)))) c.in-Ok.is in
    (made.0, c.field_with.ensures ∙ made.1)

pub returns-in-Err : goal.returns-in-Err
returns-in-Err c = failed _ _ (spec.field_of c.args.pair.now) _ c.in-Err.fault (c.both_read.ensures _ _ _ _ (c.examined-name.ensures _ c.field_name_rule.ensures) (c.both_read-rest.ensures _ _ _ _ c.places.ensures (c.both_read-inner.ensures _ _ _ _ c.condition-present.ensures (c.both_read-tail.ensures _ _ _ _ c.bodies.ensures c.texts.ensures)))) c.in-Err.is
