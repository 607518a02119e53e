-- Elements of lists, and tests of them.
use Rattle.std.proofs.Common.{◌≡◌, ◌⊎◌, ◌∙◌, inl, inr, ℕ, suc, Bool, true, List, [], ◌∷◌, Some, arith, refl, ap}
use Rattle.std.specs.Prelude.{Contains, slice_get}
use Rattle.std.specs.List.{list_any, list_all}
use Rattle.std.proofs.lemmas.Bool.{false≢true, and_from, or_cases}
use Rattle.std.proofs.lemmas.List.Folds.{list_any_at}
use Rattle.std.proofs.lemmas.Option.{slice_get_within, get_or_from_slice_get, slice_get-get_or}

module _ {X : Type 0} where
  pub contains-first : (x : X) (xs : List X) → Contains (x ∷ xs) x
  contains-first x xs = (0, omega arith, refl)

  pub contains-later : (x y : X) (xs : List X) → Contains xs y → Contains (x ∷ xs) y
  contains-later x y xs (k, lt, is) = (suc k, omega (arith, lt), is)

  pub at-contains : (xs : List X) (k : ℕ) (x : X) → slice_get xs k ≡ Some x → Contains xs x
  at-contains xs k x at = (k, slice_get_within xs k x at, get_or_from_slice_get xs k x x at)

  pub contains-at : (xs : List X) (x : X) → Contains xs x → (k : ℕ) × (slice_get xs k ≡ Some x)
  contains-at xs x (k, lt, is) = (k, slice_get-get_or xs k x lt ∙ ap Some is)

  module _ (p : X → Bool) where
    pub any-of : (xs : List X) → list_any p xs ≡ true → (x : X) × Contains xs x × (p x ≡ true)
    any-of [] h = absurd (false≢true h)
    any-of (x ∷ xs) h = by (or_cases (p x) (list_any p xs) h) (any-of xs) where
      later : (y : X) × Contains xs y × (p y ≡ true) → (y : X) × Contains (x ∷ xs) y × (p y ≡ true)
      later (y, c, e) = (y, contains-later x y xs c, e)

      by : (p x ≡ true) ⊎ (list_any p xs ≡ true) → (list_any p xs ≡ true → (y : X) × Contains xs y × (p y ≡ true)) → (y : X) × Contains (x ∷ xs) y × (p y ≡ true)
      by (inl e) rest = (x, contains-first x xs, e)
      by (inr e) rest = later (rest e)

    pub any-from : (xs : List X) (x : X) → Contains xs x → p x ≡ true → list_any p xs ≡ true
    any-from xs x (k, lt, is) e = list_any_at p xs k x lt (ap p is ∙ e)

    pub all-from : (xs : List X) → ((x : X) → Contains xs x → p x ≡ true) → list_all p xs ≡ true
    all-from [] each = refl
    all-from (x ∷ xs) each =
        and_from (p x) (list_all p xs) (each x (contains-first x xs)) (all-from xs (λ y c. each y (contains-later x y xs c)))
