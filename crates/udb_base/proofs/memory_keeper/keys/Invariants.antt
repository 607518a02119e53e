use Rattle.std.proofs.Common.{◌≡◌, take}
use Rattle.udb_base.specs.Tables.{keys_of}
use Rattle.udb_base.proofs.memory_keeper.keys.Given as goal

abbrev pub invariant-loop-row : goal.invariant-loop-row
invariant-loop-row l = l.keys ≡ keys_of (take l.row-index l.rows)
