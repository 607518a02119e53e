-- How faults of fields are looked for: each width of the registers by itself.
use Rattle.std.specs.Prelude.{◌≡◌, ◌<◌, ◌&&◌, ◌==◌, ◌⊎◌, Bool, true, false, ℕ, nat_le, [], ◌∷◌, Option, None, Some, if◌then◌else◌, codes}
use Rattle.std.specs.List.{list_any}
use Rattle.udb_base.specs.declared.conditions.Cond.{Cond}
use Rattle.udb_base.specs.declared.conditions.Cond.TheVariants as c
use Rattle.udb_base.specs.declared.conditions.Test.TheVariants.{Equal}
use Rattle.udb_base.specs.declared.conditions.Value.TheVariants.{Number}
use Rattle.udb_base.specs.declared.spaces.Space.{Space}
use Rattle.udb_base.specs.declared.spaces.Full.{Full}
use Rattle.udb_spec.specs.Conditions.{holds, same_bytes}
use Rattle.udb_spec.specs.Spaces.{Valid, mxlen}
use Rattle.idl_tree.specs.declared.programs.BitPart.{BitPart}
use Rattle.idl_tree.specs.declared.programs.FieldPlaces.{FieldPlaces}
use Rattle.idl_tree.specs.declared.programs.FieldBodies.{FieldBodies}
use Rattle.idl_tree.specs.declared.programs.CsrBody.{CsrBody}
use Rattle.idl_tree.specs.declared.programs.Length.{Length}
use Rattle.idl_spec.specs.Fields.{place_for}
use Rattle.udb_csr.specs.Faults.{length_for, SharesBit, PassesLength, IsFieldAt, Overlaps, IsPast, HasNoOverlap, HasNoPast}
use Rattle.udb_csr.specs.declared.faults.FieldFault.{FieldFault}
use Rattle.udb_csr.specs.declared.faults.FieldFault.TheVariants.{FieldOverlap, FieldPast}

abbrev pub both_meet : Option BitPart → Option BitPart → Bool
both_meet None other = false
both_meet (Some one) None = false
both_meet (Some one) (Some other) = nat_le one.low other.high && nat_le other.low one.high

abbrev pub parts_meet : ℕ → FieldPlaces → FieldPlaces → Bool
parts_meet registers first second = both_meet (place_for registers first) (place_for registers second)

abbrev pub is_past : ℕ → Option BitPart → Bool
is_past length None = false
is_past length (Some part) = nat_le length part.high

abbrev pub passes : ℕ → Length → FieldPlaces → Bool
passes registers length places = is_past (length_for registers length) (place_for registers places)

abbrev pub has_width : Space → Bool
has_width space = list_any (λ p. same_bytes p.name (codes "MXLEN")) space.params

-- where the registers have a width; without the parameter MXLEN it is 32
abbrev pub width_is : Space → ℕ → Cond
width_is space n =
    if has_width space
    then c.Param (codes "MXLEN") Equal (Number n)
    else (if n == 32 then c.Always else c.Never)

-- the CSR and two of its fields are present for a width of the registers
abbrev pub both_present : Space → CsrBody → FieldBodies → FieldBodies → ℕ → Cond
both_present space csr one other n =
    c.All (csr.present ∷ one.present ∷ other.present ∷ width_is space n ∷ [])

pub record ArePresent (space : Space) (csr : CsrBody) (one other : FieldBodies) (n : ℕ) (full : Full) : Type 0 where
  pub valid : Valid space full
  pub csr_present : holds space full csr.present ≡ true
  pub one_present : holds space full one.present ≡ true
  pub other_present : holds space full other.present ≡ true
  pub width : mxlen space full ≡ n

-- such a full configuration, where there is one
abbrev pub IsShown : (Full → Type 0) → Option Full → Type 0
IsShown P None = (full : Full) → P full → ⊥
IsShown P (Some full) = P full

abbrev pub IsWidth : ℕ → Type 0
IsWidth n = (n ≡ 32) ⊎ (n ≡ 64)

-- for one width of the registers
pub record SharesFor (space : Space) (csr : CsrBody) (one other : FieldBodies) (n : ℕ) (full : Full) : Type 0 where
  pub shares : SharesBit space csr one other full
  pub width : mxlen space full ≡ n

pub record PassesFor (space : Space) (csr : CsrBody) (field : FieldBodies) (n : ℕ) (full : Full) : Type 0 where
  pub passes : PassesLength space csr field full
  pub width : mxlen space full ≡ n

-- ---- one field against those before it, and all fields

abbrev pub IsOverlap : Space → CsrBody → FieldFault → Type 0
IsOverlap space csr (FieldOverlap first second shows) = Overlaps space csr first second shows
IsOverlap space csr (FieldPast field shows) = ⊥

abbrev pub IsPassing : Space → CsrBody → FieldFault → Type 0
IsPassing space csr (FieldOverlap first second shows) = ⊥
IsPassing space csr (FieldPast field shows) = IsPast space csr field shows

-- the field at a place shares no bit with the first ones
pub record IsApart (space : Space) (csr : CsrBody) (at count : ℕ) : Type 0 where
  pub apart : (i : ℕ) (one other : FieldBodies) (full : Full) → i < count → IsFieldAt csr.fields i one → IsFieldAt csr.fields at other → SharesBit space csr one other full → ⊥

abbrev pub IsOverlapAt : Space → CsrBody → ℕ → Option FieldFault → Type 0
IsOverlapAt space csr at None = IsApart space csr at at
IsOverlapAt space csr at (Some fault) = IsOverlap space csr fault

-- no two of the first fields share a bit
pub record AreApart (space : Space) (csr : CsrBody) (count : ℕ) : Type 0 where
  pub each : (at : ℕ) → at < count → IsApart space csr at at

abbrev pub IsFirstOverlap : Space → CsrBody → Option FieldFault → Type 0
IsFirstOverlap space csr None = HasNoOverlap space csr
IsFirstOverlap space csr (Some fault) = IsOverlap space csr fault

-- none of the first fields passes the length
pub record ArePassingNone (space : Space) (csr : CsrBody) (count : ℕ) : Type 0 where
  pub each : (i : ℕ) (field : FieldBodies) (full : Full) → i < count → IsFieldAt csr.fields i field → PassesLength space csr field full → ⊥

abbrev pub IsFirstPast : Space → CsrBody → Option FieldFault → Type 0
IsFirstPast space csr None = HasNoPast space csr
IsFirstPast space csr (Some fault) = IsPassing space csr fault
