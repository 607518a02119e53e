use Rattle.std.proofs.Common.{◌≡◌, drop}
use Rattle.std.specs.List.{list_all}
use Rattle.idl_lawful.specs.Readings.{is_bare_field}
use Rattle.idl_lawful.proofs.bodies.are_bare_fields.Given as goal

abbrev pub invariant-loop-field : goal.invariant-loop-field
invariant-loop-field l = list_all is_bare_field (drop l.field-index l.fields) ≡ list_all is_bare_field l.fields
