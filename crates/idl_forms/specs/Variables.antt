-- The variables of an encoding.
use Rattle.std.specs.Prelude.{◌≤◌, ◌<◌, Bool, false, ℕ, List, if◌then◌else◌}
use Rattle.udb_spec.specs.Conditions.{same_bytes}
use Rattle.idl_tree.specs.declared.programs.BitPart.{BitPart}
use Rattle.idl_tree.specs.declared.programs.Variable.{Variable}
use Rattle.idl_spec.specs.Fields.{is_for}

-- bits of a word
abbrev pub IsWordPart : BitPart → Type 0
IsWordPart part = (part.low ≤ part.high) × (part.high < 32)

-- a variable of a name that stands for the width of the registers
abbrev pub is_variable : ℕ → List ℕ → Variable → Bool
is_variable registers name v = if same_bytes v.name name then is_for registers v.base else false
