-- What is known of a test over the numbers of a range.
use Rattle.std.proofs.Common.{◌≡◌, ◌≢◌, ℕ, zero, suc, ◌==◌, nat_lt, nat_le, ◌+◌, ◌-◌, ◌<◌, ◌≤◌, Bool, true, false, not, ◌&&◌, ◌||◌, List, [], ◌∷◌, map, refl, sym, ap, ◌∙◌, cond, arith, ◌⊎◌, inl, inr, ⊎_elim}
use Rattle.std.specs.List.{list_all, list_any, range_with_len}
use Rattle.std.proofs.lemmas.Bool.{cases_eq, cases_lt, eq-eqb, ne_eqb, lt-ltb, le-ltb, le-leb, lt-leb, and_from}
use Rattle.udb_base.specs.declared.refutations.Known.TheVariants.{Yes, No, Unknown}
use Rattle.udb_spec.specs.Known.{known_over, not_known}

some-step : (a b : Bool) → (a ≡ true) ⊎ (b ≡ true) → (a || b) ≡ true
some-step true b h = refl
some-step false b (inl e) = cc
some-step false b (inr e) = e

fails-step : (a b : Bool) → (a ≡ false) ⊎ (b ≡ false) → (a && b) ≡ false
fails-step false b h = refl
fails-step true b (inl e) = cc
fails-step true b (inr e) = e

above : (low k : ℕ) → low ≤ k → (k ≡ low → ⊥) → low + 1 ≤ k
above low k a ne = omega arith

module _ (p : ℕ → Bool) where
  all-range : (low n : ℕ) → ((k : ℕ) → low ≤ k → k < low + n → p k ≡ true) → list_all (λ b. b) (map p (range_with_len low n)) ≡ true
  all-range low zero h = refl
  all-range low (suc n) h = and_from (p low) _ (h low (omega arith) (omega arith)) (all-range (low + 1) n (λ k a b. h k (omega arith) (omega arith)))

  none-range : (low n : ℕ) → ((k : ℕ) → low ≤ k → k < low + n → p k ≡ false) → list_any (λ b. b) (map p (range_with_len low n)) ≡ false
  none-range low zero h = refl
  none-range low (suc n) h = rw (h low (omega arith) (omega arith)) (none-range (low + 1) n (λ k a b. h k (omega arith) (omega arith)))

  some-range : (low n k : ℕ) → low ≤ k → k < low + n → p k ≡ true → list_any (λ b. b) (map p (range_with_len low n)) ≡ true
  some-range low zero k a b e = absurd (omega arith)
  some-range low (suc n) k a b e = some-step (p low) _ (⊎_elim (λ is. inl (ap p (sym is) ∙ e)) (λ ne. inr (some-range (low + 1) n k (above low k a ne) (omega arith) e)) (cases_eq k low))

  fails-range : (low n k : ℕ) → low ≤ k → k < low + n → p k ≡ false → list_all (λ b. b) (map p (range_with_len low n)) ≡ false
  fails-range low zero k a b e = absurd (omega arith)
  fails-range low (suc n) k a b e = fails-step (p low) _ (⊎_elim (λ is. inl (ap p (sym is) ∙ e)) (λ ne. inr (fails-range (low + 1) n k (above low k a ne) (omega arith) e)) (cases_eq k low))

  pub range-yes : (low n : ℕ) → ((k : ℕ) → low ≤ k → k < low + n → p k ≡ true) → known_over (map p (range_with_len low n)) ≡ Yes
  range-yes low n h = rw (all-range low n h) refl

  pub range-no : (low n : ℕ) → 0 < n → ((k : ℕ) → low ≤ k → k < low + n → p k ≡ false) → known_over (map p (range_with_len low n)) ≡ No
  range-no low n some h = rw (fails-range low n low (omega arith) (omega arith) (h low (omega arith) (omega arith)), none-range low n h) refl

  pub range-unknown : (low n i j : ℕ) → low ≤ i → i < low + n → p i ≡ true → low ≤ j → j < low + n → p j ≡ false → known_over (map p (range_with_len low n)) ≡ Unknown
  range-unknown low n i j a b e c d f = rw (fails-range low n j c d f, some-range low n i a b e) refl

de-morgan : (a b : Bool) → (not a && not b) ≡ not (a || b)
de-morgan true b = refl
de-morgan false b = refl

de-morgan_or : (a b : Bool) → (not a || not b) ≡ not (a && b)
de-morgan_or true b = refl
de-morgan_or false b = refl

contrary : (a all any : Bool) → cond (not (a || any)) Yes (cond (not (a && all)) Unknown No) ≡ not_known (cond (a && all) Yes (cond (a || any) Unknown No))
contrary true true any = refl
contrary true false any = refl
contrary false all true = refl
contrary false all false = refl

module _ (p q : ℕ → Bool) (other : (k : ℕ) → q k ≡ not (p k)) where
  all-not : (xs : List ℕ) → list_all (λ b. b) (map q xs) ≡ not (list_any (λ b. b) (map p xs))
  all-not [] = refl
  all-not (x ∷ xs) = rw (other x, all-not xs) (de-morgan (p x) (list_any (λ b. b) (map p xs)))

  any-not : (xs : List ℕ) → list_any (λ b. b) (map q xs) ≡ not (list_all (λ b. b) (map p xs))
  any-not [] = refl
  any-not (x ∷ xs) = rw (other x, any-not xs) (de-morgan_or (p x) (list_all (λ b. b) (map p xs)))

  -- the contrary of a test, over cells of which there is one
  pub known_over-not : (x : ℕ) (xs : List ℕ) → known_over (map q (x ∷ xs)) ≡ not_known (known_over (map p (x ∷ xs)))
  known_over-not x xs = rw (all-not (x ∷ xs), any-not (x ∷ xs)) (contrary (p x) (list_all (λ b. b) (map p xs)) (list_any (λ b. b) (map p xs)))

  pub range-not : (low n : ℕ) → 0 < n → known_over (map q (range_with_len low n)) ≡ not_known (known_over (map p (range_with_len low n)))
  range-not low zero some = absurd (omega arith)
  range-not low (suc n) some = known_over-not low (range_with_len (low + 1) n)

le_as_not : (k given : ℕ) → nat_le given k ≡ not (nat_lt k given)
le_as_not k given = ⊎_elim (λ (l : k < given). rw (lt-ltb k given l, lt-leb given k l) refl) (λ (l : given ≤ k). rw (le-ltb k given l, le-leb given k l) refl) (cases_lt k given)

lt_as_not : (k given : ℕ) → nat_lt given k ≡ not (nat_le k given)
lt_as_not k given = ⊎_elim (λ (l : given < k). rw (lt-ltb given k l, lt-leb k given l) refl) (λ (l : k ≤ given). rw (le-ltb given k l, le-leb k given l) refl) (cases_lt given k)

abbrev pub from_to : (ℕ → Bool) → ℕ → ℕ → List Bool
from_to p low high = map p (range_with_len low (high + 1 - low))

module _ (low high given : ℕ) (some : low ≤ high) where
  pub equal-no : (given < low) ⊎ (high < given) → No ≡ known_over (from_to (λ n. n == given) low high)
  equal-no out = sym (range-no (λ n. n == given) low (high + 1 - low) (omega arith) (λ k a b. ne_eqb k given (λ e. ⊎_elim (λ (l : given < low). omega arith) (λ (l : high < given). omega arith) out)))

  pub equal-yes : low ≡ high → low ≤ given → given ≤ high → Yes ≡ known_over (from_to (λ n. n == given) low high)
  equal-yes one a b = sym (range-yes (λ n. n == given) low (high + 1 - low) (λ k c d. eq-eqb k given (omega arith)))

  pub equal-unknown : low ≢ high → low ≤ given → given ≤ high → Unknown ≡ known_over (from_to (λ n. n == given) low high)
  equal-unknown two a b =
      ⊎_elim
      (λ (e : given ≡ low). sym (range-unknown (λ n. n == given) low (high + 1 - low) given high a (omega arith) (eq-eqb given given refl) some (omega arith) (ne_eqb high given (λ f. omega arith))))
      (λ (e : given ≡ low → ⊥). sym (range-unknown (λ n. n == given) low (high + 1 - low) given low a (omega arith) (eq-eqb given given refl) (omega arith) (omega arith) (ne_eqb low given (λ f. e (sym f)))))
      (cases_eq given low)

  pub below-yes : high < given → Yes ≡ known_over (from_to (λ n. nat_lt n given) low high)
  below-yes h = sym (range-yes (λ n. nat_lt n given) low (high + 1 - low) (λ k a b. lt-ltb k given (omega arith)))

  pub below-no : given ≤ low → No ≡ known_over (from_to (λ n. nat_lt n given) low high)
  below-no h = sym (range-no (λ n. nat_lt n given) low (high + 1 - low) (omega arith) (λ k a b. le-ltb k given (omega arith)))

  pub below-unknown : low < given → given ≤ high → Unknown ≡ known_over (from_to (λ n. nat_lt n given) low high)
  below-unknown a b = sym (range-unknown (λ n. nat_lt n given) low (high + 1 - low) low high (omega arith) (omega arith) (lt-ltb low given a) some (omega arith) (le-ltb high given b))

  pub at_most-yes : high ≤ given → Yes ≡ known_over (from_to (λ n. nat_le n given) low high)
  at_most-yes h = sym (range-yes (λ n. nat_le n given) low (high + 1 - low) (λ k a b. le-leb k given (omega arith)))

  pub at_most-no : given < low → No ≡ known_over (from_to (λ n. nat_le n given) low high)
  at_most-no h = sym (range-no (λ n. nat_le n given) low (high + 1 - low) (omega arith) (λ k a b. lt-leb k given (omega arith)))

  pub at_most-unknown : low ≤ given → given < high → Unknown ≡ known_over (from_to (λ n. nat_le n given) low high)
  at_most-unknown a b = sym (range-unknown (λ n. nat_le n given) low (high + 1 - low) low high (omega arith) (omega arith) (le-leb low given a) some (omega arith) (lt-leb high given b))

  pub not_equal : not_known (known_over (from_to (λ n. n == given) low high)) ≡ known_over (from_to (λ n. not (n == given)) low high)
  not_equal = sym (range-not (λ n. n == given) (λ n. not (n == given)) (λ k. refl) low (high + 1 - low) (omega arith))

  pub not_below : not_known (known_over (from_to (λ n. nat_lt n given) low high)) ≡ known_over (from_to (λ n. nat_le given n) low high)
  not_below = sym (range-not (λ n. nat_lt n given) (λ n. nat_le given n) (λ k. le_as_not k given) low (high + 1 - low) (omega arith))

  pub not_at_most : not_known (known_over (from_to (λ n. nat_le n given) low high)) ≡ known_over (from_to (λ n. nat_lt given n) low high)
  not_at_most = sym (range-not (λ n. nat_le n given) (λ n. nat_lt given n) (λ k. lt_as_not k given) low (high + 1 - low) (omega arith))

  pub same-yes : (b : Bool) → b ≡ true → Yes ≡ known_over (from_to (λ n. b) low high)
  same-yes b h = sym (range-yes (λ n. b) low (high + 1 - low) (λ k c d. h))

  pub same-no : (b : Bool) → b ≡ false → No ≡ known_over (from_to (λ n. b) low high)
  same-no b h = sym (range-no (λ n. b) low (high + 1 - low) (omega arith) (λ k c d. h))

pub map-map : {X Y Z : Type 0} (f : Y → Z) (g : X → Y) (xs : List X) → map f (map g xs) ≡ map (λ x. f (g x)) xs
map-map f g [] = refl
map-map f g (x ∷ xs) = ap (λ ys. f (g x) ∷ ys) (map-map f g xs)

pub ruleset range_laws = (map-map)
