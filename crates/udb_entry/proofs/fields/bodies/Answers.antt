use Rattle.udb_entry.proofs.fields.bodies.Goals as goal

pub returns : goal.returns
returns c = c.both_read.ensures _ _ _ _ c.kind.ensures (c.both_read-tail.ensures _ _ _ _ c.reset.ensures c.field_body-write.ensures)
