use Rattle.std.proofs.Common.{◌≡◌, All, true, take}
use Rattle.udb_base.specs.Order.{key_lt}
use Rattle.udb_base.proofs.memory_keeper.place_of.Given as goal

abbrev pub invariant-loop-place : goal.invariant-loop-place
invariant-loop-place l = All (λ r. key_lt r.kind r.name l.kind l.name ≡ true) (take l.place l.rows)
