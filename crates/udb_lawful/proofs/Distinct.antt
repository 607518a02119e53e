-- Lists without repeats.
use Rattle.std.proofs.Common.{◌≡◌, ◌≢◌, Bool, true, false, not, List, [], ◌∷◌, arith, refl, sym, suc, ◌∙◌}
use Rattle.std.specs.Prelude.{AllPairs, All}
use Rattle.std.specs.Bool.{Decides}
use Rattle.std.proofs.lemmas.Bool.{and_parts, and_from, or_parts, not-true, false≢true, false_from_ne_true, or_from, not_from_false}
use Rattle.std.proofs.lemmas.List.Elements.{All-nil, All-cons, All-head, All-tail}
use Rattle.std.proofs.lemmas.List.Kept.{AllPairs-cons}
use Rattle.udb_base.specs.Lists.{is_among, are_distinct}

module _ {A : Type 0} (eq : A → A → Bool) (same : (a b : A) → Decides (eq a b) (a ≡ b)) where
  all-differ : (x : A) (xs : List A) → is_among eq x xs ≡ false → All (λ y. x ≢ y) xs
  all-differ x [] h = All-nil (λ y. x ≢ y)
  all-differ x (y ∷ ys) h =
      let parts : (eq x y ≡ false) × (is_among eq x ys ≡ false) = or_parts (eq x y) (is_among eq x ys) h in
      All-cons (λ z. x ≢ z) y ys (λ e. false≢true (sym parts.0 ∙ (same x y).1 e)) (all-differ x ys parts.1)

  none-among : (x : A) (xs : List A) → All (λ y. x ≢ y) xs → is_among eq x xs ≡ false
  none-among x [] h = refl
  none-among x (y ∷ ys) h = or_from (eq x y) (is_among eq x ys) (false_from_ne_true (eq x y) (λ e. All-head (λ z. x ≢ z) y ys h ((same x y).0 e))) (none-among x ys (All-tail (λ z. x ≢ z) y ys h))

  pairs-tail : (x : A) (xs : List A) → AllPairs (λ a b. a ≢ b) (x ∷ xs) → AllPairs (λ a b. a ≢ b) xs
  pairs-tail x xs h = λ i j d lt below. h (suc i) (suc j) d (omega (arith, lt)) (omega (arith, below))

  pairs-head : (x : A) (xs : List A) → AllPairs (λ a b. a ≢ b) (x ∷ xs) → All (λ y. x ≢ y) xs
  pairs-head x xs h = λ k d below. h 0 (suc k) d (omega arith) (omega (arith, below))

  distinct-to : (xs : List A) → are_distinct eq xs ≡ true → AllPairs (λ a b. a ≢ b) xs
  distinct-to [] h = λ i j d lt below. absurd (omega arith)
  distinct-to (x ∷ xs) h =
      let parts : (not (is_among eq x xs) ≡ true) × (are_distinct eq xs ≡ true) = and_parts (not (is_among eq x xs)) (are_distinct eq xs) h in
      AllPairs-cons (λ a b. a ≢ b) x xs (all-differ x xs (not-true (is_among eq x xs) parts.0)) (distinct-to xs parts.1)

  distinct-from : (xs : List A) → AllPairs (λ a b. a ≢ b) xs → are_distinct eq xs ≡ true
  distinct-from [] h = refl
  distinct-from (x ∷ xs) h = and_from (not (is_among eq x xs)) (are_distinct eq xs) (not_from_false (is_among eq x xs) (none-among x xs (pairs-head x xs h))) (distinct-from xs (pairs-tail x xs h))

  pub distinct-decides : (xs : List A) → Decides (are_distinct eq xs) (AllPairs (λ a b. a ≢ b) xs)
  distinct-decides xs = (distinct-to xs, distinct-from xs)
