-- The first name in a condition that doesn't fit a space.
use Rattle.std.specs.Prelude.{◌≡◌, ◌&&◌, Bool, false, ℕ, List, [], ◌∷◌, Option, None, Some, Contains, if◌then◌else◌}
use Rattle.std.specs.List.{list_any}
use Rattle.std.specs.Option.{option_map_or}
use Rattle.udb_base.specs.declared.versions.Requirement.{Requirement}
use Rattle.udb_base.specs.declared.conditions.Value.{Value}
use Rattle.udb_base.specs.declared.conditions.Test.{Test}
use Rattle.udb_base.specs.declared.conditions.Cond.{Cond}
use Rattle.udb_base.specs.declared.conditions.Cond.TheVariants as c
use Rattle.udb_base.specs.declared.conditions.Cond.TheOpen.{Cond-F}
use Rattle.udb_base.specs.declared.conditions.Cond.TheFolds.{fold-Cond}
use Rattle.udb_base.specs.declared.spaces.Space.{Space}
use Rattle.udb_spec.specs.Conditions.{same_bytes}
use Rattle.udb_spec.specs.Lawful.{is_of_kind, test_fits, domain_among}

-- the space has an extension of the name
abbrev pub has_extension : Space → List ℕ → Bool
has_extension space name = list_any (λ e. same_bytes e.name name) space.extensions

-- the space has a parameter of the name, whose domain the value and the test fit
abbrev pub param_fits : Space → List ℕ → Test → Value → Bool
param_fits space name test given = option_map_or (λ d. is_of_kind d given && test_fits d test) (domain_among space.params name) false

-- the name of an atom that doesn't fit
abbrev pub unless : Bool → List ℕ → Option (List ℕ)
unless fits name = if fits then None else Some name

-- of the parts' names the first
abbrev pub first_name : List (Option (List ℕ)) → Option (List ℕ)
first_name [] = None
first_name (None ∷ rest) = first_name rest
first_name (Some name ∷ rest) = Some name

abbrev pub misfit_step : Space → Cond-F (Option (List ℕ)) → Option (List ℕ)
misfit_step space Cond-F.Always = None
misfit_step space Cond-F.Never = None
misfit_step space (Cond-F.Ext name needs) = unless (has_extension space name) name
misfit_step space (Cond-F.Param name test given) = unless (param_fits space name test given) name
misfit_step space (Cond-F.All parts) = first_name parts
misfit_step space (Cond-F.Any parts) = first_name parts
misfit_step space (Cond-F.One parts) = first_name parts
misfit_step space (Cond-F.Not part) = part

-- the name of the first atom, in the order of the text, that doesn't fit the space
unfoldable pub first_misfit : Space → Cond → Option (List ℕ)
first_misfit space = fold-Cond (Option (List ℕ)) (misfit_step space)

-- somewhere in the condition stands an atom of the name that doesn't fit the space
pub data HasMisfit (space : Space) : Cond → List ℕ → Type 0 where
  of_extension : (name : List ℕ) (needs : List Requirement) → has_extension space name ≡ false → HasMisfit space (c.Ext name needs) name
  of_param : (name : List ℕ) (test : Test) (given : Value) → param_fits space name test given ≡ false → HasMisfit space (c.Param name test given) name
  in_all : (parts : List Cond) (part : Cond) (name : List ℕ) → Contains parts part → HasMisfit space part name → HasMisfit space (c.All parts) name
  in_any : (parts : List Cond) (part : Cond) (name : List ℕ) → Contains parts part → HasMisfit space part name → HasMisfit space (c.Any parts) name
  in_one : (parts : List Cond) (part : Cond) (name : List ℕ) → Contains parts part → HasMisfit space part name → HasMisfit space (c.One parts) name
  in_not : (part : Cond) (name : List ℕ) → HasMisfit space part name → HasMisfit space (c.Not part) name
