-- What a database holds beside its tables.
use Rattle.std.specs.Prelude.{◌≡◌, ℕ, List, Option, None, Some, All, Contains}
use Rattle.udb_base.specs.declared.kinds.Kind.{Kind}
use Rattle.udb_base.specs.declared.kinds.Kind.TheVariants as kind
use Rattle.udb_base.specs.declared.rows.Row.{Row}
use Rattle.udb_base.specs.declared.refutations.Partial.{Partial}
use Rattle.udb_base.specs.declared.spaces.Space.{Space}
use Rattle.entry_tree.specs.declared.ConfigEntry.{ConfigEntry}
use Rattle.udb_entry.specs.declared.answers.Entry.{Entry}
use Rattle.udb_entry.specs.declared.answers.Entry.TheVariants.{Config}
use Rattle.db_spec.specs.Entries.{kind_of, name_of, space_of, part_of}
use Rattle.db_spec.specs.Breaks.{Give, IsEntryAt, IsRowAt}
use Rattle.db_spec.specs.First.{HasReadKinds, KeepsUpTo}
use Rattle.udb_spec.specs.Lawful.{Lawful}
use Rattle.udb_db.specs.Phases.{part_in}

-- the entries are those of the rows, which break no rule up to 12; the space is that of the entries, and lawful
pub record IsDraft (rows : List Row) (entries : List Entry) (space : Space) : Type 0 where
  pub kinds : HasReadKinds rows
  pub give : Give rows entries
  pub kept : KeepsUpTo 12 rows
  pub space_is : space ≡ space_of entries
  pub lawful : Lawful space

-- the space of the entries that the rows give
abbrev pub IsSpaceOf : List Row → Space → Type 0
IsSpaceOf rows space = (entries : List Entry) × Give rows entries × (space ≡ space_of entries)

abbrev pub HasKey : Kind → List ℕ → Entry → Type 0
HasKey kind name e = (kind_of e ≡ kind) × (name_of e ≡ name)

-- an entry of the list with the key, where one has it
abbrev pub IsFound : Kind → List ℕ → List Entry → Option Entry → Type 0
IsFound kind name entries None = All (λ e. HasKey kind name e → ⊥) entries
IsFound kind name entries (Some e) = Contains entries e × HasKey kind name e

-- the entry of a kind and a name, where there is a row of them
abbrev pub FindsEntry : List Row → Kind → List ℕ → Option Entry → Type 0
FindsEntry rows kind name None = (row : Row) → IsRowAt rows kind name row → ⊥
FindsEntry rows kind name (Some e) = (entries : List Entry) × IsEntryAt rows kind name entries e

-- the constraints of an entry that was found, where it is a configuration
abbrev pub IsPartOf : Space → Option Entry → Option Partial → Type 0
IsPartOf space None part = part ≡ None
IsPartOf space (Some e) part = part ≡ part_in space e

-- the constraints of the configuration of a name, where there is a row of it
abbrev pub FindsConfig : List Row → List ℕ → Option Partial → Type 0
FindsConfig rows name None = (row : Row) → IsRowAt rows kind.Config name row → ⊥
FindsConfig rows name (Some part) = (entries : List Entry) × (x : ConfigEntry) × IsEntryAt rows kind.Config name entries (Config x) × (part ≡ part_of (space_of entries) x)
