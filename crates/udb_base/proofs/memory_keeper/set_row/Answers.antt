use Rattle.std.proofs.Common.{◌∙◌, sym, subst}
use Rattle.udb_base.specs.Tables.{BelongsAt, IsTables, StandsAt}
use Rattle.udb_base.proofs.KeyLemmas.{set_at, inserted_at, with_tables}
use Rattle.udb_base.proofs.memory_keeper.set_row.Goals as goal

pub returns-in-Ok-clause-tables : goal.returns-in-Ok-clause-tables
returns-in-Ok-clause-tables c =
    subst IsTables (sym (set_at c.args.rows.now.items c.args.row c.in-Ok.place (subst (λ l. StandsAt l c.args.row.kind c.args.row.name c.in-Ok.place) c.deref.ensures.value c.in-Ok.ensures)))
    (with_tables c.args.row c.args.rows.now.items c.requires.row c.requires.tables)

pub returns-in-Ok-insert-clause-tables : goal.returns-in-Ok-insert-clause-tables
returns-in-Ok-insert-clause-tables c =
    subst IsTables (sym (c.in-Ok-insert.ensures.items ∙ inserted_at c.args.rows.now.items c.args.row c.in-Err.place (subst (λ l. BelongsAt l c.args.row.kind c.args.row.name c.in-Err.place) c.deref.ensures.value c.in-Err.ensures)))
    (with_tables c.args.row c.args.rows.now.items c.requires.row c.requires.tables)
