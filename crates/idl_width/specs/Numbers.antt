-- The whole number of a width in a full configuration: a parameter counts with its value there, and
-- `$bits` with the width that the scope gives for the width of the registers.
use Rattle.std.specs.Prelude.{◌&&◌, ◌==◌, Bool, true, false, ℕ, ℤ, pos, negsuc, ◌+ℤ◌, ◌-ℤ◌, ◌*ℤ◌, ◌≤ℤ◌, List, [], ◌∷◌, Option, None, Some, if◌then◌else◌}
use Rattle.std.specs.Int.{int_max, int_min}
use Rattle.udb_base.specs.declared.names.Name.{Name}
use Rattle.udb_base.specs.declared.spaces.Space.{Space}
use Rattle.udb_base.specs.declared.spaces.Full.{Full}
use Rattle.udb_spec.specs.Conditions.{same_bytes, value_of}
use Rattle.udb_spec.specs.Spaces.{number_or, mxlen}
use Rattle.idl_tree.specs.declared.widths.Width.{Width}
use Rattle.idl_tree.specs.declared.widths.Width.TheOpen.{Width-F}
use Rattle.idl_tree.specs.declared.widths.Width.TheFolds.{fold-Width}
use Rattle.idl_width.specs.declared.scopes.BitsOf.{BitsOf}

-- the nearest number from -1,000,000 to 1,000,000
abbrev pub clip : ℤ → ℤ
clip z = int_max (negsuc 999999) (int_min z (pos 1000000))

-- in that range
abbrev pub IsClipped : ℤ → Type 0
IsClipped z = (negsuc 999999 ≤ℤ z) × (z ≤ℤ pos 1000000)

abbrev pub same_csr : Option Name → Option Name → Bool
same_csr None None = true
same_csr (Some a) (Some b) = same_bytes a b
same_csr _ _ = false

-- a variable is named without a CSR, a field with its CSR
abbrev pub is_named : BitsOf → Option Name → Name → Bool
is_named one csr name = same_csr one.csr csr && same_bytes one.name name

abbrev pub bits_for : ℕ → BitsOf → ℕ
bits_for registers one = if registers == 64 then one.rv64 else one.rv32

-- the first of that name; a name that isn't in the scope counts as one that has no place
abbrev pub bits_among : ℕ → List BitsOf → Option Name → Name → ℕ
bits_among registers [] csr name = 0
bits_among registers (one ∷ scope) csr name = if is_named one csr name then bits_for registers one else bits_among registers scope csr name

-- a parameter's number, also where the parameter isn't defined
abbrev pub parameter_number : Space → Full → Name → ℕ
parameter_number space full name = number_or 0 (value_of space full name)

unfoldable pub larger : ℤ → ℤ → ℤ
larger a b = int_max a b

-- one step, before it is clipped
abbrev pub number_step : Space → Full → List BitsOf → Width-F ℤ → ℤ
number_step space full scope (Width-F.Number n) = pos n
number_step space full scope (Width-F.Word name) = pos (parameter_number space full name)
number_step space full scope (Width-F.Plus a b) = a +ℤ b
number_step space full scope (Width-F.Minus a b) = a -ℤ b
number_step space full scope (Width-F.Times a b) = a *ℤ b
number_step space full scope (Width-F.Max a b) = larger a b
number_step space full scope (Width-F.Bits csr name) = pos (bits_among (mxlen space full) scope csr name)

unfoldable pub width_number : Space → Full → List BitsOf → Width → ℤ
width_number space full scope = fold-Width ℤ (λ layer. clip (number_step space full scope layer))
