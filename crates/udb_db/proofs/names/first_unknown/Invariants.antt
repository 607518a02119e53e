use Rattle.std.proofs.Common.{take}
use Rattle.std.specs.List.{All}
use Rattle.udb_db.specs.Phases.{KnowsNames}
use Rattle.udb_db.proofs.names.first_unknown.Given as goal

abbrev pub invariant-loop-place : goal.invariant-loop-place
invariant-loop-place l = All (KnowsNames l.space) (take l.place l.entries)
