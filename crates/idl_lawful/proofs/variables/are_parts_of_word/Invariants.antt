use Rattle.std.proofs.Common.{◌≡◌, drop}
use Rattle.std.specs.List.{list_all}
use Rattle.idl_lawful.specs.Tests.{is_part_of_word}
use Rattle.idl_lawful.proofs.variables.are_parts_of_word.Given as goal

abbrev pub invariant-loop-part : goal.invariant-loop-part
invariant-loop-part l = list_all is_part_of_word (drop l.part-index l.parts) ≡ list_all is_part_of_word l.parts
