-- The tables that a keeper tells: rows in the order of their keys.
use Rattle.std.specs.Prelude.{◌≡◌, ◌≤◌, ◌<◌, ◌+◌, ℕ, List, ◌∷◌, ◌++◌, length, take, drop, map, All, Contains, Option, MatchOption, MatchResult, Result, Ok, Err, IsUtf8}
use Rattle.std.specs.List.{filter, slice_index_or}
use Rattle.udb_base.specs.declared.kinds.Kind.{Kind}
use Rattle.udb_base.specs.declared.rows.Row.{Row}
use Rattle.udb_base.specs.declared.rows.RowKey.{RowKey}
use Rattle.udb_base.specs.declared.outside.KeepFault.{KeepFault}
use Rattle.udb_base.specs.declared.outside.KeepFault.TheVariants.{Failed}
use Rattle.udb_base.specs.Faults.{Rose}
use Rattle.udb_base.specs.Names.{IsName}
use Rattle.udb_base.specs.Order.{key_lt, IsInOrder}

-- a row whose name and text are ones that rows may have
pub record IsRow (row : Row) : Type 0 where
  pub name : IsName row.name
  pub text : IsUtf8 row.text
  pub short : length row.text ≤ 65536

-- such rows, each key once, in the order of kinds and names
pub record IsTables (rows : List Row) : Type 0 where
  pub order : IsInOrder rows
  pub each : All IsRow rows

-- the rows whose keys stand before a key, and those whose keys stand after it
abbrev pub rows_before : Kind → List ℕ → List Row → List Row
rows_before kind name = filter (λ r. key_lt r.kind r.name kind name)

abbrev pub rows_after : Kind → List ℕ → List Row → List Row
rows_after kind name = filter (λ r. key_lt kind name r.kind r.name)

-- the tables with a row set, and without the row of a key
abbrev pub with_row : Row → List Row → List Row
with_row row rows = rows_before row.kind row.name rows ++ row ∷ rows_after row.kind row.name rows

abbrev pub without_row : Kind → List ℕ → List Row → List Row
without_row kind name rows = rows_before kind name rows ++ rows_after kind name rows

-- the keys, in order
abbrev pub keys_of : List Row → List RowKey
keys_of = map (λ r. record { kind = r.kind; name = r.name })

-- the row of a key
pub record IsRowOf (rows : List Row) (wanted : Kind) (called : List ℕ) (row : Row) : Type 0 where
  pub among : Contains rows row
  pub kind : row.kind ≡ wanted
  pub name : row.name ≡ called

-- the text of the row of a key, none exactly where there is no such row
abbrev pub IsTextOf : List Row → Kind → List ℕ → Option (List ℕ) → Type 0
IsTextOf rows kind name text =
    MatchOption text ((row : Row) → IsRowOf rows kind name row → ⊥) (λ t. (row : Row) × IsRowOf rows kind name row × (row.text ≡ t))

-- a place among rows in order: that of the row of a key, or the one at which it would stand
pub record StandsAt (rows : List Row) (wanted : Kind) (called : List ℕ) (place : ℕ) : Type 0 where
  pub within : place < length rows
  pub row : (d : Row) → IsRowOf rows wanted called (slice_index_or rows place d)
  pub before : rows_before wanted called rows ≡ take place rows
  pub after : rows_after wanted called rows ≡ drop (place + 1) rows

pub record BelongsAt (rows : List Row) (wanted : Kind) (called : List ℕ) (place : ℕ) : Type 0 where
  pub within : place ≤ length rows
  pub absent : (row : Row) → IsRowOf rows wanted called row → ⊥
  pub before : rows_before wanted called rows ≡ take place rows
  pub after : rows_after wanted called rows ≡ drop place rows

abbrev pub HasPlace : List Row → Kind → List ℕ → Result ℕ ℕ → Type 0
HasPlace rows kind name result = MatchResult result (StandsAt rows kind name) (BelongsAt rows kind name)

-- ---- what a call says of the tables

-- whether a keeper tells these tables
abbrev pub Telling : Type 1
Telling = List Row → Type 0

-- a keeper that tells tables as a call ends told tables as it began, and the call turned those into these
pub record Turns (before now : Telling) (turn : List Row → List Row) : Type 0 where
  pub told : (rows : List Row) → now rows → (old : List Row) × before old
  pub turned : (old rows : List Row) → before old → now rows → rows ≡ turn old
  pub tables : (rows : List Row) → now rows → IsTables rows

-- the call left the tables
abbrev pub LeavesTables : Telling → Telling → Type 0
LeavesTables before now = Turns before now (λ rows. rows)

-- a turn that was done, where the call didn't fail
abbrev pub done : {E : Type 0} → Result (Unit {0}) E → (List Row → List Row) → List Row → List Row
done (Ok _) turn rows = turn rows
done (Err _) turn rows = rows

-- the call made this turn, where it didn't fail
abbrev pub Edits : {E : Type 0} → Telling → Telling → Result (Unit {0}) E → (List Row → List Row) → Type 0
Edits before now result turn = Turns before now (done result turn)

-- what is answered of the tables that are told
abbrev pub AreKeys : Telling → List RowKey → Type 0
AreKeys tells keys = (rows : List Row) → tells rows → keys ≡ keys_of rows

abbrev pub IsText : Telling → Kind → List ℕ → Option (List ℕ) → Type 0
IsText tells kind name text = (rows : List Row) → tells rows → IsTextOf rows kind name text

-- these tables alone are told
abbrev pub only : List Row → Telling
only rows told = told ≡ rows

-- the count never falls, and `Failed` has a rise
pub record HasKeepCause {T : Type 0} (before now : ℕ) (result : Result T KeepFault) : Type 0 where
  pub later : before ≤ now
  pub failed : result ≡ Err Failed → Rose before now
