-- Where a rule is broken, and which of two breaches comes first.
use Rattle.std.specs.Prelude.{◌≡◌, ◌==◌, ◌&&◌, ◌||◌, Bool, true, false, ℕ, nat_lt, List}
use Rattle.std.proofs.Common.{refl}
use Rattle.udb_base.specs.declared.kinds.Kind.{Kind}
use Rattle.udb_spec.specs.Conditions.{same_bytes}
use Rattle.udb_tables.specs.Order.{kind_place, key_lt}
use Rattle.db_spec.specs.Rules.{Rule, some_full, has_completion, rule_number, pass_of}

-- an entry, or the database as a whole
pub data Site : Type 0 where
  entry : Kind → List ℕ → Site
  database : Site

-- the database stands before its entries, which stand in the order of tables
abbrev pub site_lt : Site → Site → Bool
site_lt database database = false
site_lt database (entry kind name) = true
site_lt (entry kind name) database = false
site_lt (entry kind name) (entry other others) = key_lt kind name other others

abbrev pub same_site : Site → Site → Bool
same_site database database = true
same_site database (entry kind name) = false
same_site (entry kind name) database = false
same_site (entry kind name) (entry other others) = (kind_place kind == kind_place other) && same_bytes name others

-- at one site by the rules' numbers
abbrev pub is_before : Site → Rule → Site → Rule → Bool
is_before s r site rule = site_lt s site || (same_site s site && nat_lt (rule_number r) (rule_number rule))

-- by pass, then by site, then by rule
abbrev pub is_earlier : Site → Rule → Site → Rule → Bool
is_earlier s r site rule = nat_lt (pass_of r) (pass_of rule) || ((pass_of r == pass_of rule) && is_before s r site rule)

-- that there is a full configuration is asked before that a configuration has a completion
pub full_before_completion : (kind : Kind) (name : List ℕ) → is_earlier database some_full (entry kind name) has_completion ≡ true
full_before_completion kind name = refl
