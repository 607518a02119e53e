-- The last of a list of answers.
use Rattle.std.proofs.Common.{◌≡◌, Bool, false, List, [], ◌∷◌, refl}
use Rattle.idl_spec.specs.Deeds.{last_ends}

-- the last one, or an answer before the list where it is empty
abbrev pub last_or : Bool → List Bool → Bool
last_or before [] = before
last_or before (x ∷ xs) = last_or x xs

pub last-is : (xs : List Bool) → last_or false xs ≡ last_ends xs
last-is [] = refl
last-is (x ∷ xs) = more x xs
  where
    more : (x : Bool) (xs : List Bool) → last_or x xs ≡ last_ends (x ∷ xs)
    more x [] = refl
    more x (y ∷ ys) = more y ys

pub ruleset last_laws = (last-is)
