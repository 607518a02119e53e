-- The parts of a version's text.
use Rattle.std.specs.Prelude.{◌≡◌, ◌==◌, Bool, ℕ, List, [], ◌∷◌, map, Option, None, Some}
use Rattle.std.specs.List.{slice_split}
use Rattle.udb_spec.specs.Grammar.{number_of}

abbrev pub is_dot : ℕ → Bool
is_dot b = b == 46

-- the numbers between the dots
abbrev pub parts_of : List ℕ → List (Option ℕ)
parts_of text = map number_of (slice_split is_dot text)

-- the text's first part, and what follows its dot where it has one
abbrev pub IsFirstPart : List ℕ → List ℕ → Option (List ℕ) → Type 0
IsFirstPart text part None = slice_split is_dot text ≡ part ∷ []
IsFirstPart text part (Some rest) = slice_split is_dot text ≡ part ∷ slice_split is_dot rest
