use Rattle.std.proofs.Common.{◌≡◌, take}
use Rattle.idl_copy.proofs.programs.copy_parts.Given as goal

abbrev pub invariant-loop-part : goal.invariant-loop-part
invariant-loop-part g l = l.copies ≡ take l.part-index l.parts
