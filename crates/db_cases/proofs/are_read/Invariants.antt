use Rattle.std.proofs.Common.{All, IsTrue, take}
use Rattle.db_spec.specs.Kinds.{is_read_kind}
use Rattle.db_cases.proofs.are_read.Given as goal

abbrev pub invariant-loop-row : goal.invariant-loop-row
invariant-loop-row l = All (λ r. IsTrue (is_read_kind r.kind)) (take l.row-index l.rows)
