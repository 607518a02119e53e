-- How a requirement is read: its comparison first, then the spaces.
use Rattle.std.specs.Prelude.{◌==◌, Bool, ℕ, nat_eq, List, [], ◌∷◌, drop, length, find, Option, None, Some, option_map, if◌then◌else◌}
use Rattle.std.specs.List.{starts_with}
use Rattle.udb_base.specs.declared.versions.Compare.{Compare}
use Rattle.udb_base.specs.declared.versions.Compare.TheVariants.{Equal, NotEqual, Above, AtLeast, Below, AtMost, Compatible}
use Rattle.udb_base.specs.declared.versions.Requirement.{Requirement}
use Rattle.udb_spec.specs.Grammar.{version_of, operator}

abbrev pub begins_with : List ℕ → Compare → Bool
begins_with text c = starts_with nat_eq text (operator c)

-- the comparison that a text begins with: of two the longer one
abbrev pub comparison_of : List ℕ → Option Compare
comparison_of text = find (begins_with text) (NotEqual ∷ AtLeast ∷ AtMost ∷ Compatible ∷ Equal ∷ Above ∷ Below ∷ [])

abbrev pub without_spaces : List ℕ → List ℕ
without_spaces [] = []
without_spaces (b ∷ text) = if b == 32 then without_spaces text else b ∷ text

abbrev pub compared_with : Option Compare → List ℕ → Option Requirement
compared_with None text = option_map (λ v. record { compare = Equal; version = v }) (version_of text)
compared_with (Some c) text = option_map (λ v. record { compare = c; version = v }) (version_of (without_spaces (drop (length (operator c)) text)))

abbrev pub requirement_of : List ℕ → Option Requirement
requirement_of text = compared_with (comparison_of text) text
