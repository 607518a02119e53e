use Rattle.udb_entry.proofs.fields.gather_field.Goals as goal

pub returns : goal.returns
returns c = c.gather.ensures _ _ c.field.ensures
