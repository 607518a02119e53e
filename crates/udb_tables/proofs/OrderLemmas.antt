-- Rows that are sorted and have distinct keys rise strictly.
use Rattle.std.proofs.Common.{◌≡◌, ◌≢◌, ◌⊎◌, inl, inr, ℕ, zero, suc, ◌<◌, ◌==◌, nat_lt, ◌&&◌, ◌||◌, Bool, true, false, cond, IsTrue, List, length, get_or, refl, ap, sym, ◌∙◌, arith, subst}
use Rattle.std.specs.List.{swap}
use Rattle.std.specs.List.Sorted.{IsPermutation, IsSortedBy}
use Rattle.std.specs.Cmp.{IsTotalOrder, IsStrictWeakOrder}
use Rattle.std.specs.Ordering.{nat_cmp, is_lt, ordering_then, ordering_reverse}
use Rattle.std.specs.Cmp.Lexicographic.{slice_cmp}
use Rattle.std.specs.declared.cmp.Ordering.{Ordering}
use Rattle.std.specs.declared.cmp.Ordering.TheVariants.{Less, Equal, Greater}
use Rattle.std.proofs.lemmas.Cmp.{ranked, nat_cmp_total, nat_list_cmp_total, on_total, then_total}
use Rattle.std.proofs.lemmas.Bool.Decides.{nat_tests}
use Rattle.std.proofs.lemmas.List.Sorted.{ranks_by, sorted_far, IsPermutation-keeps}
use Rattle.std.proofs.lemmas.List.{get_or_default}
use Rattle.std.proofs.lemmas.List.Edits.{swapped_from_swap, length-swap}
use Rattle.std.proofs.lemmas.Map.Lookups.{exact_bytes}
use Rattle.udb_base.specs.declared.kinds.Kind.{Kind}
use Rattle.udb_base.specs.declared.kinds.Kind.TheVariants.{Extension, Parameter, Instruction, Csr, Functions, Config}
use Rattle.udb_base.specs.declared.rows.Row.{Row}
pub use Rattle.udb_base.proofs.OrderLemmas.{row_total, row_weak, row_lt-cmp, kind_place-is, tie_is, one_way}
use Rattle.udb_tables.specs.Order.{kind_place, key_lt, row_lt, row_cmp, IsInOrder, HasOtherKey, HasDistinctKeys}

-- ---- rows that tie have one key

strict_by : (a b : Row) (o : Ordering) → row_cmp b a ≡ o → is_lt o ≡ false → HasOtherKey a b → is_lt (row_cmp a b) ≡ true
strict_by a b Less e n d = absurd (cc)
strict_by a b Equal e n d = let one = tie_is b a e in absurd (d one.0 one.1)
strict_by a b Greater e n d = ap is_lt (row_total.antisymm a b ∙ ap ordering_reverse e)

pub strict : (a b : Row) → is_lt (row_cmp b a) ≡ false → HasOtherKey a b → IsTrue (row_lt a b)
strict a b n d = sym (row_lt-cmp a b) ∙ strict_by a b (row_cmp b a) refl n d

-- ---- distinct keys stay distinct

Apart : List Row → Type 0
Apart l = (i j : ℕ) (d : Row) → i ≢ j → i < length l → j < length l → HasOtherKey (get_or l i d) (get_or l j d)

other_back : (a b : Row) → HasOtherKey a b → HasOtherKey b a
other_back a b h k n = h (sym k) (sym n)

apart_at : (l : List Row) → HasDistinctKeys l → (i j : ℕ) (d : Row) → i ≢ j → i < length l → j < length l → (i < j) ⊎ (j < i) → HasOtherKey (get_or l i d) (get_or l j d)
apart_at l h i j d n a b (inl lt) = h i j d lt b
apart_at l h i j d n a b (inr lt) = other_back (get_or l j d) (get_or l i d) (h j i d lt a)

ways : (i j : ℕ) (t : Bool) → nat_lt i j ≡ t → i ≢ j → (i < j) ⊎ (j < i)
ways i j true e n = inl (grind (arith, nat_tests))
ways i j false e n = inr (grind (arith, nat_tests))

apart : (l : List Row) → HasDistinctKeys l → Apart l
unfolding Apart
apart l h i j d n a b = apart_at l h i j d n a b (ways i j (nat_lt i j) refl n)

-- where a place stood before two exchanged
came : ℕ → ℕ → ℕ → ℕ
came a b i = cond (i == a) b (cond (i == b) a i)

came_apart : (a b i j : ℕ) → i ≢ j → came a b i ≢ came a b j
unfolding came
came_apart a b i j n = grind (arith, nat_tests)

came_below : (a b i n : ℕ) → a < n → b < n → i < n → came a b i < n
unfolding came
came_below a b i n h k l = grind (arith, nat_tests)

came_by : (f g : ℕ → Row) (a b i : ℕ) (s t : Bool) → (i == a) ≡ s → (i == b) ≡ t → (g a ≡ f b) → (g b ≡ f a) → ((m : ℕ) → (m ≡ a → ⊥) → (m ≡ b → ⊥) → g m ≡ f m) → g i ≡ f (cond s b (cond t a i))
came_by f g a b i true t e h p q r = let same : i ≡ a = grind (arith, nat_tests) in ap g same ∙ p
came_by f g a b i false true e h p q r = let same : i ≡ b = grind (arith, nat_tests) in ap g same ∙ q
came_by f g a b i false false e h p q r = r i (grind (arith, nat_tests)) (grind (arith, nat_tests))

came_is : (f g : ℕ → Row) (a b i : ℕ) → (g a ≡ f b) → (g b ≡ f a) → ((m : ℕ) → (m ≡ a → ⊥) → (m ≡ b → ⊥) → g m ≡ f m) → g i ≡ f (came a b i)
unfolding came
came_is f g a b i p q r = came_by f g a b i (i == a) (i == b) refl refl p q r

apart_step : (l : List Row) (a b : ℕ) → a < length l → b < length l → Apart l → Apart (swap l a b)
unfolding Apart
apart_step l a b p q h i j d n x y =
    let s = swapped_from_swap l (swap l a b) a b d p q refl in
    let x' : i < length l = omega (arith, length-swap l a b) in
    let y' : j < length l = omega (arith, length-swap l a b) in
    let u = came_is (λ k. get_or l k d) (λ k. get_or (swap l a b) k d) a b i s.0 s.1 s.2 in
    let v = came_is (λ k. get_or l k d) (λ k. get_or (swap l a b) k d) a b j s.0 s.1 s.2 in
    let other = h (came a b i) (came a b j) d (came_apart a b i j n) (came_below a b i (length l) p q x') (came_below a b j (length l) p q y') in
    rw (u, v) other

pub distinct_kept : (xs ys : List Row) → HasDistinctKeys xs → IsPermutation xs ys → (i j : ℕ) (d : Row) → i < j → j < length ys → HasOtherKey (get_or ys i d) (get_or ys j d)
unfolding Apart
distinct_kept xs ys h p i j d lt b = IsPermutation-keeps xs Apart (apart xs h) apart_step ys p i j d (omega arith) (omega arith) b

-- ---- sorted rows

pub in_order : (xs ys : List Row) → HasDistinctKeys xs → IsPermutation xs ys → IsSortedBy (λ a b. is_lt (row_cmp a b)) ys → IsInOrder ys
in_order xs ys h p s i j d lt b = strict (get_or ys i d) (get_or ys j d) (sorted_far (λ a b. is_lt (row_cmp a b)) row_weak ys s i j d (omega arith) b) (distinct_kept xs ys h p i j d lt b)

-- ---- places of rows in order

-- the lesser row stands before the other
pub before_at : (l : List Row) → IsInOrder l → (i j : ℕ) (a b : Row) → i < length l → j < length l → a ≡ get_or l i a → b ≡ get_or l j b → row_lt a b ≡ true → (i ≡ j → ⊥) → (j < i → ⊥) → i < j
before_at l o i j a b x y p q lt n m = omega (arith, n, m)

later_lt : (l : List Row) → IsInOrder l → (i j : ℕ) (a b : Row) → j < i → i < length l → a ≡ get_or l i a → b ≡ get_or l j b → row_lt b a ≡ true
later_lt l o i j a b lt x p q = let h = o j i a lt x in let same : get_or l j a ≡ b = get_or_default l j a b (omega arith) ∙ sym q in subst (λ r. row_lt r a ≡ true) same (subst (λ r. row_lt (get_or l j a) r ≡ true) (sym p) h)

pub stands_before : (l : List Row) → IsInOrder l → (i j : ℕ) (a b : Row) → i < length l → j < length l → a ≡ get_or l i a → b ≡ get_or l j b → row_lt a b ≡ true → i < j
stands_before l o i j a b x y p q lt =
    before_at l o i j a b x y p q lt
    (λ e. let same : a ≡ b = p ∙ (ap (λ k. get_or l k a) e ∙ (get_or_default l j a b y ∙ sym q)) in let h : row_lt b a ≡ true = subst (λ r. row_lt r a ≡ true) same (subst (λ r. row_lt a r ≡ true) (sym same) lt) in one_way a b lt h)
    (λ m. one_way a b lt (later_lt l o i j a b m x p q))

pub same_key_lt : (a b : Row) → a.kind ≡ b.kind → a.name ≡ b.name → row_lt a b ≡ true → ⊥
same_key_lt a b k n lt = one_way a b lt (subst (λ m. key_lt b.kind m a.kind a.name ≡ true) n (subst (λ m. key_lt b.kind a.name a.kind m ≡ true) (sym n) (subst (λ m. key_lt m a.name a.kind b.name ≡ true) k (subst (λ m. key_lt a.kind a.name m b.name ≡ true) (sym k) lt))))

-- two places have one key only where they are the same
pub one_place : (l : List Row) → IsInOrder l → (i j : ℕ) (a b : Row) → i < length l → j < length l → a ≡ get_or l i a → b ≡ get_or l j b → a.kind ≡ b.kind → a.name ≡ b.name → i ≡ j
one_place l o i j a b x y p q k n = same_place i j
    (λ lt. same_key_lt a b k n (later_lt l o j i b a lt y q p))
    (λ lt. same_key_lt b a (sym k) (sym n) (later_lt l o i j a b lt x p q))
  where
    same_place : (i j : ℕ) → (i < j → ⊥) → (j < i → ⊥) → i ≡ j
    same_place i j h g = omega (arith, h, g)
