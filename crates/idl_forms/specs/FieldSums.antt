-- CSRs by their addresses, and the numbers of fields at their places.
use Rattle.std.specs.Prelude.{◌==◌, ◌*◌, ◌^◌, Bool, false, ℕ, if◌then◌else◌, List, [], ◌∷◌, Option, None, Some, unwrap_or}
use Rattle.idl_spec.specs.Harts.{State, field_number}
use Rattle.idl_tree.specs.declared.programs.CsrBody.{CsrBody}
use Rattle.idl_spec.specs.Fields.{Placed}
use Rattle.idl_spec.specs.Settings.{Setting}
use Rattle.idl_spec.specs.Forms.{is_present_csr}

-- a field's number at its place
abbrev pub number_at : List ℕ → State → Placed → ℕ
number_at csr s p = unwrap_or (field_number s.fields csr p.field.name) 0 * 2 ^ p.bits.low

-- the field, where it is present
abbrev pub one_placed : Option Placed → List Placed
one_placed None = []
one_placed (Some p) = p ∷ []

-- the CSR has the address, and is present
abbrev pub is_at : Setting → ℕ → CsrBody → Bool
is_at e address c = if c.address == address then is_present_csr e c else false
