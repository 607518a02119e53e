use Rattle.std.proofs.Common.{◌≡◌, drop}
use Rattle.udb_spec.specs.Conditions.{value_among}
use Rattle.udb_cond.proofs.lookups.value_of.Given as goal

abbrev pub invariant-loop-place : goal.invariant-loop-place
invariant-loop-place l = value_among (drop l.place l.params) (drop l.place l.values) l.name ≡ value_among l.params l.values l.name
