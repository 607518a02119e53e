use Rattle.std.proofs.Common.{take}
use Rattle.db_spec.specs.Breaks.{Give}
use Rattle.udb_db.proofs.reading.read_rows.Given as goal

abbrev pub invariant-loop-place : goal.invariant-loop-place
invariant-loop-place l = Give (take l.place l.rows) l.entries
