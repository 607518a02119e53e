use Rattle.std.proofs.Common.{take}
use Rattle.std.specs.List.{All}
use Rattle.udb_db.specs.Phases.{IsCompleted}
use Rattle.udb_db.proofs.configs.complete_configs.Given as goal

abbrev pub invariant-loop-place : goal.invariant-loop-place
invariant-loop-place l = All (IsCompleted l.space) (take l.place l.entries)
