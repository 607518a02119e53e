-- The input, and how much of it was taken.
use Rattle.std.specs.Prelude.{◌≡◌, ◌≤◌, ◌<◌, ◌+◌, ℕ, List, [], length, Option, Some}

-- the most bytes of input
abbrev pub input_limit : ℕ
input_limit = 16777216

-- of what an object holds or has left, where it tells it
abbrev pub IfTold : Option (List ℕ) → (List ℕ → Type 0) → Type 0
IfTold told P = (xs : List ℕ) → told ≡ Some xs → P xs

-- more bytes than the limit were taken of the input
abbrev pub TookTooMany : List ℕ → Option (List ℕ) → Type 0
TookTooMany input left = (rest : List ℕ) × ((left ≡ Some rest) × (input_limit + length rest < length input))

abbrev pub TookFew : List ℕ → Option (List ℕ) → Type 0
TookFew input left = TookTooMany input left → ⊥

-- these bytes, within the limit, were read to the end of the input: where it tells, they are what
-- it had left, and now it has nothing left
pub record IsRead (bytes : List ℕ) (before now : Option (List ℕ)) : Type 0 where
  pub within : length bytes ≤ input_limit
  pub whole : IfTold before (λ xs. (bytes ≡ xs) × (now ≡ Some []))
