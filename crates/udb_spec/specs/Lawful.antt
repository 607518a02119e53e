-- Lawful spaces, and the conditions and full configurations that fit them.
use Rattle.std.specs.Prelude.{◌≡◌, ◌≢◌, ◌≤◌, ◌&&◌, ◌⊎◌, Bool, true, false, IsTrue, ℕ, List, [], ◌∷◌, length, Option, None, Some, IfSome, All, AllPairs, codes, if◌then◌else◌}
use Rattle.std.specs.List.{list_all, list_any, AllZip}
use Rattle.std.specs.Option.{option_map_or}
pub use Rattle.udb_base.specs.Names.{name_lt}
use Rattle.udb_base.specs.declared.conditions.Value.{Value}
use Rattle.udb_base.specs.declared.conditions.Value.TheVariants.{Flag, Number, Word}
use Rattle.udb_base.specs.declared.conditions.Test.{Test}
use Rattle.udb_base.specs.declared.conditions.Test.TheVariants.{Equal, NotEqual}
use Rattle.udb_base.specs.declared.conditions.Cond.{Cond}
use Rattle.udb_base.specs.declared.conditions.Cond.TheOpen.{Cond-F}
use Rattle.udb_base.specs.declared.conditions.Cond.TheFolds.{fold-Cond}
use Rattle.udb_base.specs.declared.spaces.Domain.{Domain}
use Rattle.udb_base.specs.declared.spaces.Domain.TheVariants.{Flags, Numbers, Range, Words}
use Rattle.udb_base.specs.declared.spaces.ExtSpace.{ExtSpace}
use Rattle.udb_base.specs.declared.spaces.ParamSpace.{ParamSpace}
use Rattle.udb_base.specs.declared.spaces.Space.{Space}
use Rattle.udb_base.specs.declared.spaces.Full.{Full}
use Rattle.udb_spec.specs.Versions.{version_lt, IsListed}
use Rattle.udb_spec.specs.Conditions.{same_bytes}

-- the value is of the domain's kind
abbrev pub is_of_kind : Domain → Value → Bool
is_of_kind Flags (Flag b) = true
is_of_kind (Numbers ns) (Number n) = true
is_of_kind (Range low high) (Number n) = true
is_of_kind (Words ws) (Word w) = true
is_of_kind _ _ = false

abbrev pub is_equality : Test → Bool
is_equality Equal = true
is_equality NotEqual = true
is_equality _ = false

-- numbers alone are compared by their order
abbrev pub test_fits : Domain → Test → Bool
test_fits (Numbers ns) test = true
test_fits (Range low high) test = true
test_fits _ test = is_equality test

abbrev pub domain_among : List ParamSpace → List ℕ → Option Domain
domain_among [] name = None
domain_among (p ∷ ps) name = if same_bytes p.name name then Some p.domain else domain_among ps name

abbrev pub fits_step : Space → Cond-F Bool → Bool
fits_step space Cond-F.Always = true
fits_step space Cond-F.Never = true
fits_step space (Cond-F.Ext name needs) = list_any (λ e. same_bytes e.name name) space.extensions
fits_step space (Cond-F.Param name test given) = option_map_or (λ d. is_of_kind d given && test_fits d test) (domain_among space.params name) false
fits_step space (Cond-F.All parts) = list_all (λ b. b) parts
fits_step space (Cond-F.Any parts) = list_all (λ b. b) parts
fits_step space (Cond-F.One parts) = list_all (λ b. b) parts
fits_step space (Cond-F.Not part) = part

-- the condition names only what the space has, with values and tests that fit the domains
unfoldable pub fits : Space → Cond → Bool
fits space = fold-Cond Bool (fits_step space)

-- a listed domain has a value and none twice, a range isn't empty
abbrev pub IsLawfulDomain : Domain → Type 0
IsLawfulDomain Flags = Unit {0}
IsLawfulDomain (Numbers ns) = (1 ≤ length ns) × AllPairs (λ a b. a ≢ b) ns
IsLawfulDomain (Range low high) = low ≤ high
IsLawfulDomain (Words ws) = (1 ≤ length ws) × AllPairs (λ a b. a ≢ b) ws

-- a list of 32, of 64 or of both
abbrev pub ListsWidths : Domain → Type 0
ListsWidths (Numbers ns) = All (λ n. (n ≡ 32) ⊎ (n ≡ 64)) ns
ListsWidths _ = ⊥

pub record IsLawfulExt (space : Space) (ext : ExtSpace) : Type 0 where
  pub rising : AllPairs (λ a b. IsTrue (version_lt a.version b.version)) ext.versions
  pub needs : IsTrue (fits space ext.needs)

pub record IsLawfulParam (space : Space) (param : ParamSpace) : Type 0 where
  pub domain : IsLawfulDomain param.domain
  pub widths : param.name ≡ codes "MXLEN" → ListsWidths param.domain
  pub defined : IsTrue (fits space param.defined)
  pub needs : IsTrue (fits space param.needs)

-- names stand in their order, each once, and what each names is lawful
pub record Lawful (space : Space) : Type 0 where
  pub extension_names : AllPairs (λ a b. IsTrue (name_lt a.name b.name)) space.extensions
  pub param_names : AllPairs (λ a b. IsTrue (name_lt a.name b.name)) space.params
  pub extensions : All (IsLawfulExt space) space.extensions
  pub params : All (IsLawfulParam space) space.params

-- a choice for each extension, absent or listed, and a value of its kind for each parameter
pub record Fills (space : Space) (full : Full) : Type 0 where
  pub choices : AllZip (λ e c. IfSome c (IsListed e.versions)) space.extensions full.extensions
  pub values : AllZip (λ p x. IsTrue (is_of_kind p.domain x)) space.params full.params
