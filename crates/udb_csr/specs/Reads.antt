-- A field that is present, by its bits.
use Rattle.idl_tree.specs.declared.programs.BitPart.{BitPart}
use Rattle.idl_tree.specs.declared.programs.FieldBodies.{FieldBodies}
use Rattle.idl_spec.specs.Fields.{Placed}

-- a field with its bits
abbrev pub at_part : FieldBodies → BitPart → Placed
at_part f part = record { field = f; bits = part }
