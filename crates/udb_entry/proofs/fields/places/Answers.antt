use Rattle.std.proofs.Common.{ap, ◌∙◌}
use Rattle.udb_entry.specs.Entries as spec
use Rattle.udb_entry.proofs.ReadLemmas.{gained, failed}
use Rattle.udb_entry.proofs.fields.places.Goals as goal

pub returns-in-Ok : goal.returns-in-Ok
returns-in-Ok c =
    let made = gained (λ v. spec.places_with v) _ _ c.in-Ok.parts _ (c.both_read.ensures _ _ _ _ c.place.ensures (c.both_read-by_base.ensures _ _ _ _ c.place-rv32.ensures c.place-rv64.ensures)) c.in-Ok.is in
    (made.0, c.places_with.ensures ∙ made.1)

pub returns-in-Err : goal.returns-in-Err
returns-in-Err c = failed _ _ (spec.places_of c.args.pair.now.value) _ c.in-Err.fault (c.both_read.ensures _ _ _ _ c.place.ensures (c.both_read-by_base.ensures _ _ _ _ c.place-rv32.ensures c.place-rv64.ensures)) c.in-Err.is
