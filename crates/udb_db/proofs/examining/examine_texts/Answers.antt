use Rattle.udb_db.proofs.Examined.{early_row}
use Rattle.udb_db.proofs.examining.examine_texts.Goals as goal

pub returns-in-Err-Broken : goal.returns-in-Err-Broken
returns-in-Err-Broken c = early_row c.args.rows.now c.requires.order c.requires.kinds c.in-Err-Broken.place c.in-Err-Broken.rule c.in-Err-Broken.shows c.broken_at.result (rw c.in-Err-Broken.field-0-is at c.in-Err-Broken.ensures) c.broken_at.ensures
