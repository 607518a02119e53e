-- Rows in order with the same members are the same list.
use Rattle.std.proofs.Common.{◌≡◌, ℕ, zero, suc, ◌<◌, true, IsTrue, List, [], ◌∷◌, length, get_or, refl, sym, ap, ◌∙◌, subst, arith}
use Rattle.std.specs.List.{Contains}
use Rattle.std.specs.List.Sorted.{IsPermutation}
use Rattle.std.proofs.lemmas.List.Elements.{All-contains_itself}
use Rattle.std.proofs.lemmas.List.Sorted.{All-permutation, IsPermutation-sym}
use Rattle.udb_base.specs.declared.rows.Row.{Row}
use Rattle.udb_tables.specs.Order.{row_lt, IsInOrder}
use Rattle.udb_tables.proofs.OrderLemmas.{one_way}

first_in : (x : Row) (xs : List Row) → Contains (x ∷ xs) x
first_in x xs = (0, omega arith, refl)

later_in : (x : Row) (xs : List Row) (r : Row) → Contains xs r → Contains (x ∷ xs) r
later_in x xs r h = (suc h.0, omega (arith, h.1), h.2)

rest_order : (x : Row) (xs : List Row) → IsInOrder (x ∷ xs) → IsInOrder xs
rest_order x xs o i j d lt b = o (suc i) (suc j) d (omega (arith, lt)) (omega (arith, b))

-- a later row is greater than the first
above : (x : Row) (xs : List Row) (r : Row) → IsInOrder (x ∷ xs) → Contains xs r → row_lt x r ≡ true
above x xs r o h = subst (λ y. row_lt x y ≡ true) h.2 (o 0 (suc h.0) r (omega arith) (omega (arith, h.1)))

-- a member is the first, or greater
data IsFirstOr (x : Row) (xs : List Row) (r : Row) : Type 0 where
  first : r ≡ x → IsFirstOr x xs r
  later : Contains xs r → IsFirstOr x xs r

split_at : (x : Row) (xs : List Row) (r : Row) (i : ℕ) → i < length (x ∷ xs) → get_or (x ∷ xs) i r ≡ r → IsFirstOr x xs r
split_at x xs r zero b e = first (sym e)
split_at x xs r (suc i) b e = later (i, omega (arith, b), e)

split : (x : Row) (xs : List Row) (r : Row) → Contains (x ∷ xs) r → IsFirstOr x xs r
split x xs r h = split_at x xs r h.0 h.1 h.2

same_first : (x y : Row) (xs ys : List Row) → IsInOrder (x ∷ xs) → IsInOrder (y ∷ ys) → IsFirstOr y ys x → IsFirstOr x xs y → x ≡ y
same_first x y xs ys o p (first e) h = e
same_first x y xs ys o p (later m) (first e) = sym e
same_first x y xs ys o p (later m) (later n) = absurd (one_way y x (above y ys x p m) (above x xs y o n))

not_below : (x r : Row) → x ≡ r → row_lt x r ≡ true → ⊥
not_below x r e lt = one_way x r lt (subst (λ y. row_lt r y ≡ true) (sym e) (subst (λ y. row_lt y r ≡ true) e lt))

in_rest : (x y : Row) (xs ys : List Row) (r : Row) → x ≡ y → IsInOrder (x ∷ xs) → Contains xs r → IsFirstOr y ys r → Contains ys r
in_rest x y xs ys r e o m (first f) = absurd (not_below x r (e ∙ sym f) (above x xs r o m))
in_rest x y xs ys r e o m (later n) = n

pub same_rows : (xs ys : List Row) → IsInOrder xs → IsInOrder ys → ((r : Row) → Contains xs r → Contains ys r) → ((r : Row) → Contains ys r → Contains xs r) → xs ≡ ys
same_rows [] [] o p f g = refl
same_rows [] (y ∷ ys) o p f g = let h = g y (first_in y ys) in absurd (omega (arith, h.1))
same_rows (x ∷ xs) [] o p f g = let h = f x (first_in x xs) in absurd (omega (arith, h.1))
same_rows (x ∷ xs) (y ∷ ys) o p f g =
    let head : x ≡ y = same_first x y xs ys o p (split y ys x (f x (first_in x xs))) (split x xs y (g y (first_in y ys))) in
    let tail : xs ≡ ys = same_rows xs ys (rest_order x xs o) (rest_order y ys p)
    (λ r m. in_rest x y xs ys r head o m (split y ys r (f r (later_in x xs r m))))
    (λ r m. in_rest y x ys xs r (sym head) p m (split x xs r (g r (later_in y ys r m)))) in
    cc

-- what a list of the same members has, in whatever order, it has
pub members : (xs ys : List Row) → IsPermutation xs ys → (r : Row) → Contains ys r → Contains xs r
members xs ys p r h = subst (Contains xs) h.2 (All-permutation (Contains xs) xs ys p (All-contains_itself xs) h.0 r h.1)

pub same_tables : (rows xs ys : List Row) → IsPermutation rows xs → IsPermutation rows ys → IsInOrder xs → IsInOrder ys → xs ≡ ys
same_tables rows xs ys p q o n =
    same_rows xs ys o n
    (λ r m. members ys rows (IsPermutation-sym rows ys q) r (members rows xs p r m))
    (λ r m. members xs rows (IsPermutation-sym rows xs p) r (members rows ys q r m))
