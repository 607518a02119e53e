use Rattle.std.proofs.Common.{◌≡◌, drop}
use Rattle.std.specs.Prelude.{flat_map}
use Rattle.std.specs.List.{list_any}
use Rattle.idl_reach.specs.Asked.{body_calls, bodies_of}
use Rattle.idl_reach.proofs.fields.any_field_calls.Given as goal

abbrev pub invariant-loop-field : goal.invariant-loop-field
invariant-loop-field l = list_any (body_calls l.name) (flat_map bodies_of (drop l.field-index l.fields)) ≡ list_any (body_calls l.name) (flat_map bodies_of l.fields)
