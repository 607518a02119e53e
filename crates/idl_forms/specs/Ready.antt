-- What the evaluator asks of a program and of a place, and what each step keeps of a state.
use Rattle.std.specs.Prelude.{◌≡◌, ◌≢◌, ◌≤◌, ◌<◌, ◌⊎◌, ◌+◌, ◌^◌, ℕ, true, List, [], length, map, All, AllPairs, Contains, sum_by, slice_index, Some, IfSome}
use Rattle.udb_base.specs.declared.spaces.Space.{Space}
use Rattle.udb_base.specs.declared.spaces.Full.{Full}
use Rattle.udb_spec.specs.Conditions.{holds}
use Rattle.udb_spec.specs.Spaces.{Valid, mxlen}
use Rattle.idl_tree.specs.declared.programs.BitPart.{BitPart}
use Rattle.idl_tree.specs.declared.programs.Base.{Base}
use Rattle.idl_tree.specs.declared.programs.Base.TheVariants as base
use Rattle.idl_tree.specs.declared.programs.Variable.{Variable}
use Rattle.idl_tree.specs.declared.programs.FieldPlaces.{FieldPlaces}
use Rattle.idl_tree.specs.declared.programs.FieldPlaces.TheVariants as places
use Rattle.idl_tree.specs.declared.programs.CsrBody.{CsrBody}
use Rattle.idl_tree.specs.declared.programs.Program.{Program}
use Rattle.idl_spec.specs.Harts.{FieldValue, State}
use Rattle.idl_spec.specs.Fields.{Placed, part_width, present_field, bits_scope}
use Rattle.idl_forms.specs.declared.scenes.Scene.{Scene}

-- ---- programs

-- a run of 1 to 64 bits
abbrev pub IsPart : BitPart → Type 0
IsPart part = (part.low ≤ part.high) × (part.high < part.low + 64)

abbrev pub ArePlaces : FieldPlaces → Type 0
ArePlaces (places.All part) = IsPart part
ArePlaces (places.ByBase rv32 rv64) = IfSome rv32 IsPart × IfSome rv64 IsPart

-- bits of a word, at most 32 together, and a left shift of at most 31
pub record IsLawfulVariable (v : Variable) : Type 0 where
  pub parts : All (λ part. (part.low ≤ part.high) × (part.high < 32)) v.location
  pub some : 1 ≤ sum_by part_width v.location
  pub few : sum_by part_width v.location ≤ 32
  pub shift : v.shift ≤ 31

-- both stand for some width of the registers
abbrev pub Meet : Base → Base → Type 0
Meet base.Rv32 base.Rv64 = ⊥
Meet base.Rv64 base.Rv32 = ⊥
Meet _ _ = Unit {0}

pub record AreLawfulVariables (vs : List Variable) : Type 0 where
  pub each : All IsLawfulVariable vs
  pub names : AllPairs (λ a b. Meet a.base b.base → a.name ≢ b.name) vs

-- CSRs, and the fields of each, have distinct names, and fields have 1 to 64 bits
pub record IsLawfulProgram (program : Program) : Type 0 where
  pub csrs : AllPairs (λ a b. a.name ≢ b.name) program.csrs
  pub fields : All (λ c. AllPairs (λ a b. a.name ≢ b.name) c.fields) program.csrs
  pub places : All (λ c. All (λ f. ArePlaces f.places) c.fields) program.csrs

-- ---- places

-- a full configuration whose registers have 32 or 64 bits, with what `$bits` can name, where each present
-- field is found by its names
pub record IsScene (c : Scene) : Type 0 where
  pub valid : Valid c.space.now c.full.now
  pub registers : mxlen c.space.now c.full.now ≡ c.registers
  pub width : (c.registers ≡ 32) ⊎ (c.registers ≡ 64)
  pub program : IsLawfulProgram c.program.now
  pub variables : AreLawfulVariables c.variables.now
  pub widths : c.widths.now ≡ bits_scope c.program.now c.variables.now
  pub bare_widths : c.bare_widths.now ≡ bits_scope c.program.now []

-- ---- states

-- the number of a field that is present has no more bits than the field
abbrev pub InField : Space → Full → Program → FieldValue → Type 0
InField space full program f = (p : Placed) → present_field space full program f.csr f.field ≡ Some p → f.number < 2 ^ part_width p.bits

-- every number lies in its range
pub record IsSound (space : Space) (full : Full) (program : Program) (s : State) : Type 0 where
  pub registers : length s.x ≡ 32
  pub in_range : All (λ n. n < 2 ^ mxlen space full) s.x
  pub zero_register : slice_index s.x 0 ≡ 0
  pub pc : s.pc < 2 ^ mxlen space full
  pub next : s.next < 2 ^ mxlen space full
  pub word : s.word < 2 ^ 32
  pub fields : All (InField space full program) s.fields
  pub room : length s.ram ≤ 65536
  pub ram : All (λ b. b < 256) s.ram

abbrev pub IsSoundAt : Scene → State → Type 0
IsSoundAt c s = IsSound c.space.now c.full.now c.program.now s

-- the CSR and the field that each number belongs to
abbrev pub field_names : List FieldValue → List (List ℕ × List ℕ)
field_names fields = map (λ f. (f.csr, f.field)) fields

-- the state after a step: its numbers lie in their ranges, and it has the same fields
pub record Keeps (c : Scene) (old new : State) : Type 0 where
  pub sound : IsSoundAt c new
  pub names : field_names new.fields ≡ field_names old.fields

-- a CSR of the program that is present
abbrev pub IsPresentCsr : Scene → CsrBody → Type 0
IsPresentCsr c csr = Contains c.program.now.csrs csr × (holds c.space.now c.full.now csr.present ≡ true)
