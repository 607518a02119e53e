-- What follows a front, and numbers as texts.
use Rattle.std.specs.Prelude.{◌≡◌, ◌==◌, ◌<◌, ◌^◌, ℕ, List, [], ◌∷◌, Option, None, Some, if◌then◌else◌}
use Rattle.std.specs.Fmt.{decimal}

abbrev pub after : List ℕ → List ℕ → Option (List ℕ)
after [] text = Some text
after (b ∷ front) [] = None
after (b ∷ front) (c ∷ text) = if b == c then after front text else None

-- the number of 64 bits that a text is, without leading zeros
abbrev pub IsNumberOf : List ℕ → Option ℕ → Type 0
IsNumberOf text (Some n) = (decimal n ≡ text) × (n < 2 ^ 64)
IsNumberOf text None = (n : ℕ) → n < 2 ^ 64 → decimal n ≡ text → ⊥
