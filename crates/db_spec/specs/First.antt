-- The first rule that tables break.
use Rattle.std.specs.Prelude.{◌≡◌, ◌≤◌, false, IsTrue, ℕ, List, Option, None, Some, All}
use Rattle.udb_base.specs.declared.rows.Row.{Row}
use Rattle.udb_entry.specs.Rules.{Lines}
use Rattle.db_spec.specs.declared.broken.Broken.{Broken}
use Rattle.db_spec.specs.Rules.{Rule, rule_number}
use Rattle.db_spec.specs.Kinds.{is_read_kind}
use Rattle.db_spec.specs.Sites.{Site, entry, database, is_earlier}
use Rattle.db_spec.specs.Breaks.{Breaks}

-- the tables break the rule at the site, and none earlier
pub record First (rows : List Row) (site : Site) (rule : Rule) (shows : Lines) : Type 0 where
  pub breaks : Breaks rows site rule shows
  pub least : (s : Site) (r : Rule) (lines : Lines) → Breaks rows s r lines → is_earlier s r site rule ≡ false

-- nothing is broken
abbrev pub Sound : List Row → Type 0
Sound rows = (site : Site) (rule : Rule) (shows : Lines) → Breaks rows site rule shows → ⊥

-- no rule up to a number is broken
abbrev pub KeepsUpTo : ℕ → List Row → Type 0
KeepsUpTo n rows = (site : Site) (rule : Rule) (shows : Lines) → rule_number rule ≤ n → Breaks rows site rule shows → ⊥

-- a breach as it is told
abbrev pub told : Site → Rule → Lines → Broken
told (entry kind name) rule shows = record { kind = Some kind; name = Some name; rule = rule_number rule; shows = shows }
told database rule shows = record { kind = None; name = None; rule = rule_number rule; shows = shows }

-- what is told is a breach, and no breach is earlier
pub record IsFirst (rows : List Row) (b : Broken) : Type 0 where
  pub site : Site
  pub rule : Rule
  pub shows : Lines
  pub first : First rows site rule shows
  pub is : b ≡ told site rule shows

-- all rows are of kinds that are examined so far
abbrev pub HasReadKinds : List Row → Type 0
HasReadKinds rows = All (λ r. IsTrue (is_read_kind r.kind)) rows
