-- Tests that the code makes.
use Rattle.std.specs.Prelude.{◌==◌, ◌&&◌, ◌+◌, ◌^◌, Bool, true, false, ℕ, nat_le, nat_lt, List, [], ◌∷◌, Option, None, Some, option_and_then, slice_index, sum_by, if◌then◌else◌}
use Rattle.std.specs.List.{list_all}
use Rattle.udb_base.specs.Lists.{are_distinct}
use Rattle.udb_base.specs.declared.spaces.Space.{Space}
use Rattle.udb_base.specs.declared.spaces.Full.{Full}
use Rattle.udb_spec.specs.Conditions.{holds, same_bytes}
use Rattle.udb_spec.specs.Spaces.{mxlen}
use Rattle.idl_tree.specs.declared.programs.Base.{Base}
use Rattle.idl_tree.specs.declared.programs.Base.TheVariants as base
use Rattle.idl_tree.specs.declared.programs.BitPart.{BitPart}
use Rattle.idl_tree.specs.declared.programs.FieldPlaces.{FieldPlaces}
use Rattle.idl_tree.specs.declared.programs.FieldPlaces.TheVariants as places
use Rattle.idl_tree.specs.declared.programs.FieldBodies.{FieldBodies}
use Rattle.idl_tree.specs.declared.programs.CsrBody.{CsrBody}
use Rattle.idl_tree.specs.declared.programs.Variable.{Variable}
use Rattle.idl_tree.specs.declared.programs.Program.{Program}
use Rattle.idl_spec.specs.Harts.{FieldValue, State}
use Rattle.idl_spec.specs.Fields.{Placed, part_width, placed}

-- ---- programs

abbrev pub is_part : BitPart → Bool
is_part part = nat_le part.low part.high && nat_lt part.high (part.low + 64)

abbrev pub is_part_if_any : Option BitPart → Bool
is_part_if_any None = true
is_part_if_any (Some part) = is_part part

abbrev pub are_places : FieldPlaces → Bool
are_places (places.All part) = is_part part
are_places (places.ByBase rv32 rv64) = is_part_if_any rv32 && is_part_if_any rv64

abbrev pub stands : FieldBodies → Bool
stands field = are_places field.places

abbrev pub is_same_csr : CsrBody → CsrBody → Bool
is_same_csr a b = same_bytes a.name b.name

abbrev pub is_same_field : FieldBodies → FieldBodies → Bool
is_same_field a b = same_bytes a.name b.name

abbrev pub has_distinct_fields : CsrBody → Bool
has_distinct_fields csr = are_distinct is_same_field csr.fields

abbrev pub has_places : CsrBody → Bool
has_places csr = list_all stands csr.fields

abbrev pub passes : Program → Bool
passes program =
    are_distinct is_same_csr program.csrs
    && (list_all has_distinct_fields program.csrs && list_all has_places program.csrs)

-- ---- variables of encodings

abbrev pub is_part_of_word : BitPart → Bool
is_part_of_word part = nat_le part.low part.high && nat_lt part.high 32

abbrev pub is_lawful_variable : Variable → Bool
is_lawful_variable v =
    list_all is_part_of_word v.location
    && (nat_le 1 (sum_by part_width v.location) && (nat_le (sum_by part_width v.location) 32 && nat_le v.shift 31))

abbrev pub meet : Base → Base → Bool
meet base.Rv32 base.Rv64 = false
meet base.Rv64 base.Rv32 = false
meet _ _ = true

abbrev pub is_same_variable : Variable → Variable → Bool
is_same_variable a b = meet a.base b.base && same_bytes a.name b.name

abbrev pub pass : List Variable → Bool
pass vs = list_all is_lawful_variable vs && are_distinct is_same_variable vs

-- ---- states

abbrev pub is_below_power : ℕ → ℕ → Bool
is_below_power bits n = nat_lt n (2 ^ bits)

abbrev pub bits_of_place : Placed → BitPart
bits_of_place p = p.bits

-- a value is a number of a field with these bits
abbrev pub fits_field : List ℕ → List ℕ → BitPart → FieldValue → Bool
fits_field csr field bits f =
    same_bytes f.csr csr && (same_bytes f.field field && nat_lt f.number (2 ^ part_width bits))

-- the values behind the first, where that is a number of the field
abbrev pub behind_place : CsrBody → Placed → List FieldValue → Option (List FieldValue)
behind_place csr p [] = None
behind_place csr p (f ∷ fs) = if fits_field csr.name p.field.name p.bits f then Some fs else None

-- a field that isn't present has no value
abbrev pub behind : CsrBody → Option Placed → List FieldValue → Option (List FieldValue)
behind csr None fs = Some fs
behind csr (Some p) fs = behind_place csr p fs

-- the values behind those of fields, of a CSR, and of CSRs
abbrev pub behind_fields : Space → Full → CsrBody → List FieldBodies → List FieldValue → Option (List FieldValue)
behind_fields space full csr [] fs = Some fs
behind_fields space full csr (x ∷ xs) fs = option_and_then (behind_fields space full csr xs) (behind csr (placed space full x) fs)

abbrev pub behind_csr : Space → Full → CsrBody → List FieldValue → Option (List FieldValue)
behind_csr space full csr fs = if holds space full csr.present then behind_fields space full csr csr.fields fs else Some fs

abbrev pub behind_csrs : Space → Full → List CsrBody → List FieldValue → Option (List FieldValue)
behind_csrs space full [] fs = Some fs
behind_csrs space full (c ∷ cs) fs = option_and_then (behind_csrs space full cs) (behind_csr space full c fs)

-- nothing is left behind all fields
abbrev pub is_nothing_left : Option (List FieldValue) → Bool
is_nothing_left (Some []) = true
is_nothing_left _ = false

abbrev pub are_fields : Space → Full → Program → List FieldValue → Bool
are_fields space full program fs = is_nothing_left (behind_csrs space full program.csrs fs)

abbrev pub fits : Space → Full → Program → State → Bool
fits space full program s =
    (slice_index s.x 0 == 0)
    && (list_all (is_below_power (mxlen space full)) s.x
    && (nat_lt s.pc (2 ^ mxlen space full) && (nat_lt s.next (2 ^ mxlen space full) && are_fields space full program s.fields)))
