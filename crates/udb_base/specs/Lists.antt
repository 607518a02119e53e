-- Lists of parts that may be missing, and lists without repeats.
use Rattle.std.specs.Prelude.{◌≡◌, ◌∷◌, ◌++◌, ◌&&◌, Bool, true, not, List, [], Option, None, Some, option_map, option_and_then}
use Rattle.std.specs.List.{list_any}
use Rattle.std.proofs.Common.{refl, ap, append_assoc, append-nil}

-- the value of one part alone, where it has one
abbrev pub one : {A : Type 0} → Option A → Option (List A)
one o = option_map (λ x. x ∷ []) o

-- the value of a part before those of the others, where all have one
abbrev pub one_more_part : {A : Type 0} → Option A → Option (List A) → Option (List A)
one_more_part x xs = option_and_then (λ y. option_map (λ ys. y ∷ ys) xs) x

-- the value of each part, where each has one
abbrev pub each : {A B : Type 0} → (A → Option B) → List A → Option (List B)
each f [] = Some []
each f (x ∷ xs) = one_more_part (f x) (each f xs)

-- whether a value equals one of a list
abbrev pub is_among : {A : Type 0} → (A → A → Bool) → A → List A → Bool
is_among same x xs = list_any (same x) xs

-- whether no two values of a list are equal
abbrev pub are_distinct : {A : Type 0} → (A → A → Bool) → List A → Bool
are_distinct same [] = true
are_distinct same (x ∷ xs) = not (is_among same x xs) && are_distinct same xs

-- ---- parts that are read one after the other

-- the values so far before those that are left
abbrev pub after_parts : {A : Type 0} → List A → Option (List A) → Option (List A)
after_parts xs o = option_map (λ ys. xs ++ ys) o

pub after_one_more : {A : Type 0} (xs : List A) (y : A) (o : Option (List A)) → after_parts (xs ++ y ∷ []) o ≡ after_parts xs (one_more_part (Some y) o)
after_one_more xs y None = refl
after_one_more xs y (Some ys) = ap Some (append_assoc xs (y ∷ []) ys)

pub after_all : {A : Type 0} (xs : List A) → after_parts xs (Some []) ≡ Some xs
after_all xs = ap Some (append-nil xs)

pub after_none : {A : Type 0} (xs : List A) → after_parts xs None ≡ None
after_none xs = refl

pub ruleset part_steps = (after_one_more, after_all, after_none)
