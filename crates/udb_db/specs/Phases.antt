-- What the phases of an examination answer.
use Rattle.std.specs.Prelude.{◌≡◌, ◌<◌, ◌≤◌, ◌+◌, ◌*◌, ◌-◌, ◌^◌, ℕ, Bool, true, false, IsTrue, List, [], ◌∷◌, map, length, take, Option, None, Some, Result, Ok, Err, All, slice_index_or}
use Rattle.udb_base.specs.declared.rows.Row.{Row}
use Rattle.udb_base.specs.declared.conditions.Cond.{Cond}
use Rattle.udb_base.specs.declared.refutations.Partial.{Partial}
use Rattle.udb_base.specs.declared.spaces.ExtSpace.{ExtSpace}
use Rattle.udb_base.specs.declared.spaces.ParamSpace.{ParamSpace}
use Rattle.udb_base.specs.declared.spaces.Space.{Space}
use Rattle.udb_base.specs.declared.spaces.Full.{Full}
use Rattle.udb_spec.specs.Lawful.{Lawful}
use Rattle.udb_spec.specs.Spaces.{Completes}
use Rattle.udb_spec.specs.ProofText.{HasShortPlaces}
use Rattle.udb_refute.specs.Search.{HasShortLists}
use Rattle.udb_lawful.specs.Misfit.{first_name, first_misfit}
use Rattle.manual_spec.specs.Entries.{ext_space, param_space}
use Rattle.udb_entry.specs.declared.answers.Entry.{Entry}
use Rattle.udb_entry.specs.declared.answers.Entry.TheVariants.{Extension, Param, Instruction, Csr, Functions, Config}
use Rattle.udb_entry.specs.declared.answers.EntryFault.{EntryFault}
use Rattle.udb_entry.specs.declared.answers.EntryFault.TheVariants as entry
use Rattle.udb_entry.specs.Rules.{Lines}
use Rattle.udb_entry.specs.First.{breach, FirstBroken}
use Rattle.db_spec.specs.declared.broken.Broken.{Broken}
use Rattle.db_spec.specs.Entries.{extension_in, param_in, width_name, DependsOnWidth, unconfigured, part_of}
use Rattle.db_spec.specs.Breaks.{Give, HasUnknownName, HasNoCompletion, LacksCompletion}
use Rattle.db_spec.specs.First.{Sound, IsFirst, KeepsUpTo}
use Rattle.udb_db.specs.declared.reading.RowFault.{RowFault}
use Rattle.udb_db.specs.declared.reading.RowFault.TheVariants as row
use Rattle.udb_db.specs.declared.names.Unknown.{Unknown}
use Rattle.udb_db.specs.declared.examining.Halt.{Halt}
use Rattle.udb_db.specs.declared.examining.Halt.TheVariants as halt
use Rattle.udb_db.specs.declared.configs.ConfigFault.{ConfigFault}
use Rattle.udb_db.specs.declared.configs.ConfigFault.TheVariants as config

-- P holds of the elements before a place, and Q of the one there
pub record IsFirstAt {X : Type 0} (P Q : X → Type 0) (xs : List X) (place : ℕ) : Type 0 where
  pub one : X
  pub within : place < length xs
  pub here : one ≡ slice_index_or xs place one
  pub is : Q one
  pub before : All P (take place xs)

-- ---- the texts

abbrev pub GiveSome : List Row → Type 0
GiveSome rows = (entries : List Entry) × Give rows entries

pub record IsBrokenAt (rows : List Row) (place rule : ℕ) (shows : Lines) : Type 0 where
  pub broken : Row
  pub within : place < length rows
  pub here : broken ≡ slice_index_or rows place broken
  pub first : FirstBroken broken (breach rule shows)
  pub before : GiveSome (take place rows)

-- the fault of a row, with its place
abbrev pub IsFaultAt : ℕ → EntryFault → RowFault → Type 0
IsFaultAt place entry.Memory row.Memory = Unit {0}
IsFaultAt place entry.Memory (row.Broken at rule shows) = ⊥
IsFaultAt place (entry.Broken rule shows) row.Memory = ⊥
IsFaultAt place (entry.Broken rule shows) (row.Broken at number lines) = (at ≡ place) × (number ≡ rule) × (lines ≡ shows)

abbrev pub IsRead : List Row → Result (List Entry) RowFault → Type 0
IsRead rows (Ok entries) = Give rows entries
IsRead rows (Err row.Memory) = Unit {0}
IsRead rows (Err (row.Broken place rule shows)) = IsBrokenAt rows place rule shows

-- ---- the space

abbrev pub ext_spaces_in : Entry → List ExtSpace
ext_spaces_in e = map ext_space (extension_in e)

abbrev pub param_spaces_in : Entry → List ParamSpace
param_spaces_in e = map param_space (param_in e)

-- ---- names

abbrev pub KnowsNames : Space → Entry → Type 0
KnowsNames space e = (shows : Lines) → HasUnknownName space e shows → ⊥

-- of the conditions that the entry holds, the first name that doesn't fit
abbrev pub first_unfit : Space → List Cond → Option (List ℕ)
first_unfit space conds = first_name (map (first_misfit space) conds)

-- the first of two names
abbrev pub or_name : Option (List ℕ) → Option (List ℕ) → Option (List ℕ)
or_name None other = other
or_name (Some name) other = Some name

-- what is shown of an entry: a name that doesn't fit, or the parameter of the width where it is lacking
abbrev pub unknown_lines : Option (List ℕ) → Bool → Option Lines
unknown_lines (Some name) lacks = Some (name ∷ [])
unknown_lines None true = Some (width_name ∷ [])
unknown_lines None false = None

-- the entry depends on MXLEN, and there are no widths
abbrev pub IsLacking : Bool → Entry → Bool → Type 0
IsLacking widths e true = DependsOnWidth e × (widths ≡ false)
IsLacking widths e false = DependsOnWidth e → IsTrue widths

abbrev pub IsNamed : Space → Entry → Option Lines → Type 0
IsNamed space e None = KnowsNames space e
IsNamed space e (Some shows) = HasUnknownName space e shows

abbrev pub AreNamed : Space → List Entry → Option Unknown → Type 0
AreNamed space entries None = All (KnowsNames space) entries
AreNamed space entries (Some u) = IsFirstAt (KnowsNames space) (λ e. HasUnknownName space e u.shows) entries u.place

-- ---- full configurations

-- something completes the configuration
abbrev pub HasCompletion : Space → Partial → Type 0
HasCompletion space part = (full : Full) × Completes space part full

abbrev pub IsSearched : Space → Partial → Option Lines → Type 0
IsSearched space part None = HasCompletion space part
IsSearched space part (Some shows) = HasNoCompletion space part shows

-- what a search asks of the lengths of its lists
pub record IsShort (space : Space) (part : Partial) : Type 0 where
  pub lists : HasShortLists space
  pub places : HasShortPlaces space
  pub few : length space.extensions + 2 * length space.params + length part.constraints < 2 ^ 32 - 2

-- ---- configurations

abbrev pub IsCompleted : Space → Entry → Type 0
IsCompleted space e = (shows : Lines) → LacksCompletion space e shows → ⊥

-- the constraints of a configuration
abbrev pub part_in : Space → Entry → Option Partial
part_in space (Extension x) = None
part_in space (Param x) = None
part_in space (Instruction x) = None
part_in space (Csr x) = None
part_in space (Functions x) = None
part_in space (Config x) = Some (part_of space x)

abbrev pub IsConfigured : Space → Entry → Option Lines → Type 0
IsConfigured space e None = IsCompleted space e
IsConfigured space e (Some shows) = LacksCompletion space e shows

abbrev pub AreCompleted : Space → List Entry → Result (Unit {0}) ConfigFault → Type 0
AreCompleted space entries (Ok u) = All (IsCompleted space) entries
AreCompleted space entries (Err config.Memory) = Unit {0}
AreCompleted space entries (Err (config.Lacks place shows)) = IsFirstAt (IsCompleted space) (λ e. LacksCompletion space e shows) entries place

-- ---- examinations

-- the tables break this first, or there was no memory
abbrev pub IsHalt : List Row → Halt → Type 0
IsHalt rows halt.Memory = Unit {0}
IsHalt rows (halt.Broken b) = IsFirst rows b

-- the same, by a rule up to that on names and addresses
abbrev pub IsEarlyHalt : List Row → Halt → Type 0
IsEarlyHalt rows halt.Memory = Unit {0}
IsEarlyHalt rows (halt.Broken b) = IsFirst rows b × (b.rule ≤ 12)

-- a breach at the row of a place
pub record IsToldAt (rows : List Row) (place rule : ℕ) (shows : Lines) (b : Broken) : Type 0 where
  pub row : Row
  pub here : row ≡ slice_index_or rows place row
  pub is : b ≡ record { kind = Some row.kind; name = Some row.name; rule = rule; shows = shows }

abbrev pub TellsAt : List Row → ℕ → ℕ → Lines → Halt → Type 0
TellsAt rows place rule shows halt.Memory = Unit {0}
TellsAt rows place rule shows (halt.Broken b) = IsToldAt rows place rule shows b

abbrev pub IsExamined : List Row → Result (List Entry) Halt → Type 0
IsExamined rows (Ok entries) = Give rows entries
IsExamined rows (Err h) = IsEarlyHalt rows h

abbrev pub NamesExamined : List Row → Result (Unit {0}) Halt → Type 0
NamesExamined rows (Ok u) = KeepsUpTo 12 rows
NamesExamined rows (Err h) = IsEarlyHalt rows h

-- the rows break no rule up to 12, and their space is lawful
abbrev pub IsSettled : List Row → Space → Result (Unit {0}) Halt → Type 0
IsSettled rows space (Ok u) = KeepsUpTo 12 rows × Lawful space
IsSettled rows space (Err h) = IsEarlyHalt rows h

abbrev pub FullExamined : List Row → Space → Result (Unit {0}) Halt → Type 0
FullExamined rows space (Ok u) = HasCompletion space unconfigured
FullExamined rows space (Err h) = IsHalt rows h

abbrev pub ConfigsExamined : List Row → Result (Unit {0}) Halt → Type 0
ConfigsExamined rows (Ok u) = Sound rows
ConfigsExamined rows (Err h) = IsHalt rows h
