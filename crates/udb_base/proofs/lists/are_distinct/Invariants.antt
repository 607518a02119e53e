use Rattle.std.proofs.Common.{◌≡◌, drop}
use Rattle.udb_base.specs.Lists as lists
use Rattle.udb_base.proofs.lists.are_distinct.Given as goal

abbrev pub invariant-loop-place : goal.invariant-loop-place
invariant-loop-place g l = lists.are_distinct g.T.PartialEq.eq (drop l.place l.all) ≡ lists.are_distinct g.T.PartialEq.eq l.all
