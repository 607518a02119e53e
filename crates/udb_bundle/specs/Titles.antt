-- A set of the titles of rows.
use Rattle.std.specs.Prelude.{◌≡◌, ℕ, List}
use Rattle.std.specs.BTreeSet.{BTreeSet, contains_text}
use Rattle.std.specs.declared.string.String.{String}
use Rattle.udb_base.specs.declared.rows.Row.{Row}
use Rattle.udb_bundle.specs.Reading.{has_row}

-- the set has the titles of the rows, and no others
abbrev pub HasTitles : {Y : Type 0} → BTreeSet (String Y) → List Row → Type 0
HasTitles titles rows = (t : List ℕ) → contains_text titles t ≡ has_row t rows
