-- Lists of which no two elements are alike.
use Rattle.std.proofs.Common.{◌≡◌, ◌≢◌, ◌∙◌, Bool, true, false, not, ℕ, List, [], ◌∷◌, arith, refl, sym, suc}
use Rattle.std.specs.Prelude.{All, AllPairs}
use Rattle.std.specs.Bool.{Decides}
use Rattle.std.specs.Cmp.Lexicographic.{bytes_decides}
use Rattle.std.proofs.lemmas.Bool.{and_parts, and_from, or_parts, or_from, not-true, not_from_false}
use Rattle.std.proofs.lemmas.Bool.Decides.{Decides-not}
use Rattle.std.proofs.lemmas.List.Elements.{All-nil, All-cons, All-head, All-tail}
use Rattle.std.proofs.lemmas.List.Kept.{AllPairs-cons}
use Rattle.udb_spec.specs.Conditions.{same_bytes}
use Rattle.udb_base.specs.Lists.{is_among, are_distinct}

-- two names differ exactly where their bytes aren't the same
pub names-differ : (a b : List ℕ) → Decides (not (same_bytes a b)) (a ≢ b)
names-differ a b = Decides-not (same_bytes a b) (bytes_decides a b)

module _ {A : Type 0} (same : A → A → Bool) (R : A → A → Type 0) (differ : (a b : A) → Decides (not (same a b)) (R a b)) where
  all-from : (x : A) (xs : List A) → is_among same x xs ≡ false → All (R x) xs
  all-from x [] h = All-nil (R x)
  all-from x (y ∷ ys) h =
      let parts : (same x y ≡ false) × (is_among same x ys ≡ false) = or_parts (same x y) (is_among same x ys) h in
      All-cons (R x) y ys ((differ x y).0 (not_from_false (same x y) parts.0)) (all-from x ys parts.1)

  none-from : (x : A) (xs : List A) → All (R x) xs → is_among same x xs ≡ false
  none-from x [] h = refl
  none-from x (y ∷ ys) h =
      or_from (same x y) (is_among same x ys)
      (not-true (same x y) ((differ x y).1 (All-head (R x) y ys h)))
      (none-from x ys (All-tail (R x) y ys h))

  tail-pairs : (x : A) (xs : List A) → AllPairs R (x ∷ xs) → AllPairs R xs
  tail-pairs x xs h = λ i j d lt below. h (suc i) (suc j) d (omega (arith, lt)) (omega (arith, below))

  head-pairs : (x : A) (xs : List A) → AllPairs R (x ∷ xs) → All (R x) xs
  head-pairs x xs h = λ k d below. h 0 (suc k) d (omega arith) (omega (arith, below))

  to-pairs : (xs : List A) → are_distinct same xs ≡ true → AllPairs R xs
  to-pairs [] h = λ i j d lt below. absurd (omega arith)
  to-pairs (x ∷ xs) h =
      let parts : (not (is_among same x xs) ≡ true) × (are_distinct same xs ≡ true) = and_parts (not (is_among same x xs)) (are_distinct same xs) h in
      AllPairs-cons R x xs (all-from x xs (not-true (is_among same x xs) parts.0)) (to-pairs xs parts.1)

  from-pairs : (xs : List A) → AllPairs R xs → are_distinct same xs ≡ true
  from-pairs [] h = refl
  from-pairs (x ∷ xs) h =
      and_from (not (is_among same x xs)) (are_distinct same xs)
      (not_from_false (is_among same x xs) (none-from x xs (head-pairs x xs h)))
      (from-pairs xs (tail-pairs x xs h))

  pub pairs-decide : (xs : List A) → Decides (are_distinct same xs) (AllPairs R xs)
  pairs-decide xs = (to-pairs xs, from-pairs xs)
