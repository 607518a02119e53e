use Rattle.std.proofs.Common.{◌≡◌, drop}
use Rattle.udb_base.specs.Lists.{are_distinct}
use Rattle.idl_lawful.specs.Tests.{is_same_field}
use Rattle.idl_lawful.proofs.programs.are_fields_distinct.Given as goal

abbrev pub invariant-loop-place : goal.invariant-loop-place
invariant-loop-place l = are_distinct is_same_field (drop l.place l.fields) ≡ are_distinct is_same_field l.fields
