use Rattle.std.proofs.Common.{◌≡◌, drop}
use Rattle.std.specs.List.{list_all}
use Rattle.entry_place.specs.Places as spec
use Rattle.entry_place.proofs.matches.are_free_parts.Given as goal

abbrev pub invariant-loop-part : goal.invariant-loop-part
invariant-loop-part l = list_all (spec.is_free_part l.digits) (drop l.part-index l.parts) ≡ list_all (spec.is_free_part l.digits) l.parts
