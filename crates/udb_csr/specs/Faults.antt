-- Fields of a CSR that share a bit, and fields that pass its length (RISC-V privileged manual, "CSR
-- Field Specifications").
use Rattle.std.specs.Prelude.{◌≡◌, ◌≤◌, ◌<◌, true, ℕ, List, length, Option, None, Some, IfSome, slice_index_or}
use Rattle.udb_base.specs.declared.names.Name.{Name}
use Rattle.udb_base.specs.declared.spaces.Space.{Space}
use Rattle.udb_base.specs.declared.spaces.Full.{Full}
use Rattle.udb_spec.specs.Conditions.{holds}
use Rattle.udb_spec.specs.Spaces.{Valid, mxlen}
use Rattle.idl_tree.specs.declared.programs.BitPart.{BitPart}
use Rattle.idl_tree.specs.declared.programs.FieldPlaces.{FieldPlaces}
use Rattle.idl_tree.specs.declared.programs.FieldPlaces.TheVariants as places
use Rattle.idl_tree.specs.declared.programs.FieldBodies.{FieldBodies}
use Rattle.idl_tree.specs.declared.programs.CsrBody.{CsrBody}
use Rattle.idl_tree.specs.declared.programs.Length.{Length}
use Rattle.idl_tree.specs.declared.programs.Length.TheVariants as lengths
use Rattle.idl_spec.specs.Fields.{place_for}
use Rattle.udb_csr.specs.declared.faults.FieldFault.{FieldFault}
use Rattle.udb_csr.specs.declared.faults.FieldFault.TheVariants.{FieldOverlap, FieldPast}

-- no high bit is below its low bit
abbrev pub IsPart : BitPart → Type 0
IsPart part = part.low ≤ part.high

abbrev pub ArePlaces : FieldPlaces → Type 0
ArePlaces (places.All part) = IsPart part
ArePlaces (places.ByBase rv32 rv64) = IfSome rv32 IsPart × IfSome rv64 IsPart

-- the bit is one of the part
abbrev pub HasBit : BitPart → ℕ → Type 0
HasBit part bit = (part.low ≤ bit) × (bit ≤ part.high)

abbrev pub length_for : ℕ → Length → ℕ
length_for registers lengths.Bits32 = 32
length_for registers lengths.Bits64 = 64
length_for registers lengths.Mxlen = registers

-- the field is present in a valid full configuration, and has the bit there
pub record HasFieldBit (space : Space) (csr : CsrBody) (field : FieldBodies) (full : Full) (bit : ℕ) : Type 0 where
  pub valid : Valid space full
  pub csr_present : holds space full csr.present ≡ true
  pub present : holds space full field.present ≡ true
  pub part : BitPart
  pub place : place_for (mxlen space full) field.places ≡ Some part
  pub has : HasBit part bit

-- both fields have one bit
pub record SharesBit (space : Space) (csr : CsrBody) (one other : FieldBodies) (full : Full) : Type 0 where
  pub bit : ℕ
  pub first : HasFieldBit space csr one full bit
  pub second : HasFieldBit space csr other full bit

-- the field has a bit past the register's length
pub record PassesLength (space : Space) (csr : CsrBody) (field : FieldBodies) (full : Full) : Type 0 where
  pub bit : ℕ
  pub has : HasFieldBit space csr field full bit
  pub past : length_for (mxlen space full) csr.length ≤ bit

-- the field stands at a place of the list
pub record IsFieldAt (fields : List FieldBodies) (place : ℕ) (field : FieldBodies) : Type 0 where
  pub within : place < length fields
  pub is : field ≡ slice_index_or fields place field

-- two fields of the CSR, the first of them before the other, share a bit
pub record Overlaps (space : Space) (csr : CsrBody) (first second : Name) (full : Full) : Type 0 where
  pub one : FieldBodies
  pub other : FieldBodies
  pub one_at : ℕ
  pub other_at : ℕ
  pub order : one_at < other_at
  pub one_is : IsFieldAt csr.fields one_at one
  pub other_is : IsFieldAt csr.fields other_at other
  pub one_named : one.name ≡ first
  pub other_named : other.name ≡ second
  pub shares : SharesBit space csr one other full

-- a field of the CSR passes its length
pub record IsPast (space : Space) (csr : CsrBody) (name : Name) (full : Full) : Type 0 where
  pub field : FieldBodies
  pub place : ℕ
  pub field_is : IsFieldAt csr.fields place field
  pub named : field.name ≡ name
  pub passes : PassesLength space csr field full

abbrev pub HasNoOverlap : Space → CsrBody → Type 0
HasNoOverlap space csr = (first second : Name) (full : Full) → Overlaps space csr first second full → ⊥

abbrev pub HasNoPast : Space → CsrBody → Type 0
HasNoPast space csr = (field : Name) (full : Full) → IsPast space csr field full → ⊥

-- an overlap where there is one, else a field past the length where there is one
abbrev pub IsFault : Space → CsrBody → Option FieldFault → Type 0
IsFault space csr None = HasNoOverlap space csr × HasNoPast space csr
IsFault space csr (Some (FieldOverlap first second shows)) = Overlaps space csr first second shows
IsFault space csr (Some (FieldPast field shows)) = IsPast space csr field shows × HasNoOverlap space csr
