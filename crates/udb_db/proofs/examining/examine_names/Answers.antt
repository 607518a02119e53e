use Rattle.std.proofs.Common.{arith}
use Rattle.db_spec.proofs.EntryLaws.{give_long}
use Rattle.udb_db.proofs.Examined.{early_names, kept_at}
use Rattle.udb_db.proofs.examining.examine_names.Goals as goal

pub broken_at-requires : goal.broken_at-requires
broken_at-requires c = let f = rw c.in-Ok-Some.field-0-is at c.in-Ok-Some.ensures in omega (arith, f.within, give_long c.args.rows.now c.args.entries.now c.requires.give)

pub returns-in-Ok-Some : goal.returns-in-Ok-Some
returns-in-Ok-Some c = early_names c.args.rows.now c.args.entries.now c.args.space.now c.requires.order c.requires.kinds c.requires.give c.requires.space c.in-Ok-Some.unknown.place c.in-Ok-Some.unknown.shows c.broken_at.result (rw c.in-Ok-Some.field-0-is at c.in-Ok-Some.ensures) c.broken_at.ensures

pub returns-in-Ok-None : goal.returns-in-Ok-None
returns-in-Ok-None c = kept_at c.args.rows.now c.args.entries.now c.args.space.now c.requires.kinds c.requires.give c.requires.space (rw c.in-Ok-None.field-0-is at c.in-Ok-None.ensures)
