use Rattle.std.proofs.Common.{arith}
use Rattle.db_spec.proofs.EntryLaws.{give_long}
use Rattle.udb_db.proofs.Examined.{halt_configs, sound_at}
use Rattle.udb_db.proofs.examining.examine_configs.Goals as goal

pub broken_at-requires : goal.broken_at-requires
broken_at-requires c = let f = rw c.in-Err-Lacks.field-0-is at c.in-Err-Lacks.ensures in omega (arith, f.within, give_long c.args.rows.now c.args.entries.now c.requires.give)

pub returns-in-Ok : goal.returns-in-Ok
returns-in-Ok c = sound_at c.args.rows.now c.args.entries.now c.args.space.now c.requires.kinds c.requires.give c.requires.space c.requires.names c.requires.full c.in-Ok.ensures

pub returns-in-Err-Lacks : goal.returns-in-Err-Lacks
returns-in-Err-Lacks c = halt_configs c.args.rows.now c.args.entries.now c.args.space.now c.requires.order c.requires.kinds c.requires.give c.requires.space c.requires.names c.requires.full c.in-Err-Lacks.place c.in-Err-Lacks.shows c.broken_at.result (rw c.in-Err-Lacks.field-0-is at c.in-Err-Lacks.ensures) c.broken_at.ensures
