-- The places of names.
use Rattle.std.proofs.Common.{◌≡◌, ℕ, ◌<◌, Bool, false, List, [], ◌∷◌, Option, None, Some, IfSome, length, get_or, refl, sym, subst, arith}
use Rattle.std.specs.Prelude.{AllPairs, IsTrue}
use Rattle.std.specs.List.{position, position_or_len}
use Rattle.std.specs.Cmp.Lexicographic.{bytes_decides}
use Rattle.std.proofs.lemmas.Bool.{lt-ltb}
use Rattle.std.proofs.lemmas.List.Quantifiers.{position-Some}
use Rattle.std.proofs.lemmas.List.Sums.{position_or_len_is}
use Rattle.std.proofs.lemmas.Option.{none-some}
use Rattle.udb_spec.specs.Conditions.{same_bytes}
use Rattle.udb_spec.specs.Lawful.{name_lt}
use Rattle.udb_cond.proofs.Completions.{lt-differs}

module _ {X : Type 0} (name : X → List ℕ) where
  -- the element at the place has the name
  abbrev pub IsAt : List X → ℕ → List ℕ → Type 0
  IsAt xs k n = (k < length xs) × ((d : X) → name (get_or xs k d) ≡ n)

  found : (xs : List X) (n : List ℕ) (k : ℕ) → position (λ x. same_bytes (name x) n) xs ≡ Some k → IsAt xs k n
  found [] n k e = absurd (none-some k e)
  found (x ∷ xs) n k e = ((position-Some (λ y. same_bytes (name y) n) (x ∷ xs) k x e).0, λ d. (bytes_decides (name (get_or (x ∷ xs) k d)) n).0 (position-Some (λ y. same_bytes (name y) n) (x ∷ xs) k d e).1)

  pub place-found : (xs : List X) (n : List ℕ) (o : Option ℕ) → o ≡ position (λ x. same_bytes (name x) n) xs → IfSome o (λ k. IsAt xs k n)
  place-found xs n None e = tt
  place-found xs n (Some k) e = found xs n k (sym e)

  at-first : (p : X → Bool) (xs : List X) (k : ℕ) → k < length xs → position_or_len p xs ≡ k → position p xs ≡ Some k
  at-first p xs k lt e = rw e (rw (lt-ltb k (length xs) lt) refl)

  -- names that rise stand in one place alone
  pub place-only : (xs : List X) (n : List ℕ) (k : ℕ) → AllPairs (λ a b. IsTrue (name_lt (name a) (name b))) xs → IsAt xs k n → position (λ x. same_bytes (name x) n) xs ≡ Some k
  place-only [] n k rising at = absurd (omega (arith, at.0))
  place-only (x ∷ xs) n k rising at =
      at-first (λ y. same_bytes (name y) n) (x ∷ xs) k at.0
      (position_or_len_is (λ y. same_bytes (name y) n) (x ∷ xs) k x (omega (arith, at.0))
      (λ i lt. subst (λ m. same_bytes (name (get_or (x ∷ xs) i x)) m ≡ false) (at.1 x) (lt-differs (name (get_or (x ∷ xs) i x)) (name (get_or (x ∷ xs) k x)) (rising i k x lt at.0)))
      (λ lt. (bytes_decides (name (get_or (x ∷ xs) k x)) n).1 (at.1 x)))
