use Rattle.std.proofs.Common.{◌≡◌, drop}
use Rattle.std.specs.List.{list_all}
use Rattle.idl_lawful.specs.Tests.{stands}
use Rattle.idl_lawful.proofs.programs.stand.Given as goal

abbrev pub invariant-loop-field : goal.invariant-loop-field
invariant-loop-field l = list_all stands (drop l.field-index l.fields) ≡ list_all stands l.fields
