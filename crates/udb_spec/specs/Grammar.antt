-- The texts of versions and requirements.
use Rattle.std.specs.Prelude.{◌≡◌, ◌==◌, ◌&&◌, ◌||◌, Bool, not, ℕ, nat_le, List, [], ◌∷◌, ◌++◌, map, length, replicate, slice_index, Option, None, Some, if◌then◌else◌, codes}
use Rattle.std.specs.List.{slice_split}
use Rattle.std.specs.Str.{all_ascii_digits}
use Rattle.std.specs.Str.Parse.{digits_value}
use Rattle.udb_base.specs.declared.versions.Version.{Version}
use Rattle.udb_base.specs.declared.versions.Compare.{Compare}
use Rattle.udb_base.specs.declared.versions.Compare.TheVariants.{Equal, NotEqual, Above, AtLeast, Below, AtMost, Compatible}
use Rattle.udb_base.specs.declared.versions.Requirement.{Requirement}

-- one to nine decimal digits, and no zero before others
abbrev pub is_number : List ℕ → Bool
is_number text = all_ascii_digits text && (nat_le 1 (length text) && (nat_le (length text) 9 && ((length text == 1) || not (slice_index text 0 == 48))))

abbrev pub number_of : List ℕ → Option ℕ
number_of text = if is_number text then Some (digits_value 10 text) else None

-- one to three numbers; missing parts are 0
abbrev pub version_of_parts : List (Option ℕ) → Option Version
version_of_parts (Some a ∷ []) = Some (record { major = a; minor = 0; patch = 0 })
version_of_parts (Some a ∷ Some b ∷ []) = Some (record { major = a; minor = b; patch = 0 })
version_of_parts (Some a ∷ Some b ∷ Some c ∷ []) = Some (record { major = a; minor = b; patch = c })
version_of_parts _ = None

-- the version that a text spells: numbers joined by dots
unfoldable pub version_of : List ℕ → Option Version
version_of text = version_of_parts (map number_of (slice_split (λ b. b == 46) text))

-- the text of a comparison
abbrev pub operator : Compare → List ℕ
operator Equal = codes "="
operator NotEqual = codes "!="
operator Above = codes ">"
operator AtLeast = codes ">="
operator Below = codes "<"
operator AtMost = codes "<="
operator Compatible = codes "~>"

-- a text spells a requirement: a version alone, which is to be equal, or a comparison, any number of spaces and a version
pub data SpellsRequirement : List ℕ → Requirement → Type 0 where
  alone : (text : List ℕ) (v : Version) → version_of text ≡ Some v → SpellsRequirement text (record { compare = Equal; version = v })
  compared : (c : Compare) (spaces : ℕ) (text : List ℕ) (v : Version) → version_of text ≡ Some v → SpellsRequirement (operator c ++ (replicate spaces 32 ++ text)) (record { compare = c; version = v })
