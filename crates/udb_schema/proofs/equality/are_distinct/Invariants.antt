use Rattle.std.proofs.Common.{◌≡◌, drop}
use Rattle.udb_base.specs.Lists.{are_distinct}
use Rattle.udb_schema.specs.Equality.{same}
use Rattle.udb_schema.proofs.equality.are_distinct.Given as goal

abbrev pub invariant-loop-place : goal.invariant-loop-place
invariant-loop-place l = are_distinct same (drop l.place l.trees) ≡ are_distinct same l.trees
