-- The numbers of widths: what demands give, and the widths that operators make.
use Rattle.std.proofs.Common.{◌≡◌, ◌≤◌, ◌+◌, ◌*◌, ◌-◌, ◌&&◌, ℕ, true, None, Some, refl, ap, ◌∙◌, arith, max, mul-le-mul, mul_comm}
use Rattle.std.specs.Prelude.{ℤ, pos, negsuc, ◌+ℤ◌, ◌*ℤ◌, ◌-ℤ◌, int_le, int_lt, nat_le}
use Rattle.std.proofs.lemmas.Int.{ints, clamps}
use Rattle.idl_tree.specs.declared.widths.Width.{Width}
use Rattle.idl_tree.specs.declared.widths.Width.TheVariants as wd
use Rattle.idl_width.specs.Numbers.{clip, larger}
use Rattle.idl_width.specs.NumberLaws.{number-Number, number-Plus, number-Minus, number-Times, number-Max}
use Rattle.idl_spec.specs.Values.{within, is_width}
use Rattle.idl_spec.specs.Fields.{bits_scope}
use Rattle.idl_spec.specs.Harts.{Outcome}
use Rattle.idl_spec.specs.Settings.{Setting, number_of_width, with_width}
use Rattle.type_laws.specs.Kinds.{Mode, Good}
pub use Rattle.type_laws.specs.Worlds.{InRange}
use Rattle.type_laws.proofs.Outcomes.{both_true, some_good, chosen_true}

inside : (low high n : ℕ) → low ≤ n → n ≤ high → within low high (pos n) ≡ Some n
inside low high n h k = chosen_true (Some n) None (nat_le low n && nat_le n high) (grind (arith))

pub in_range : (low high : ℕ) (z : ℤ) → (int_le (pos low) z && int_le z (pos high)) ≡ true → InRange low high z
in_range low high (pos n) e =
    let h = both_true (int_le (pos low) (pos n)) (int_le (pos n) (pos high)) e in
    let a : low ≤ n = omega (arith, ints, h.0) in
    let b : n ≤ high = omega (arith, ints, h.1) in
    record { n = n; is = refl; least = a; most = b; within = inside low high n a b }
in_range low high (negsuc n) e = absurd (omega (arith, ints, (both_true (int_le (pos low) (negsuc n)) (int_le (negsuc n) (pos high)) e).0))

module _ (e : Setting) (mode : Mode) where
  pub width_good : {A : Type 0} (Q : A → Type 0) (low high : ℕ) (width : Width) (next : ℕ → Outcome A) (r : InRange low high (number_of_width e width)) → Good e mode Q (next r.n) → Good e mode Q (with_width e low high width next)
  width_good Q low high width next r h = some_good e mode Q (within low high (number_of_width e width)) r.n next r.within h

module _ (e : Setting) where
  kept : (k n : ℕ) → n ≤ 128 → clip (pos k) ≡ pos n → k ≡ n
  kept k n h is = omega (arith, ints, clamps)

  few : (n : ℕ) → n ≤ 1000000 → clip (pos n) ≡ pos n
  few n h = omega (arith, ints, clamps)

  pub number_is : (n : ℕ) → n ≤ 1000000 → number_of_width e (wd.Number n) ≡ pos n
  number_is n h = number-Number e.space e.full (bits_scope e.program e.variables) n ∙ few n h

  max_is : (a b : ℕ) → a ≤ 128 → b ≤ 128 → clip (larger (pos a) (pos b)) ≡ pos (max a b)
  unfolding larger
  max_is a b h k = omega (arith, ints, clamps)

  pub max_width : (w v : Width) (a b : ℕ) → number_of_width e w ≡ pos a → a ≤ 128 → number_of_width e v ≡ pos b → b ≤ 128 → number_of_width e (wd.Max w v) ≡ pos (max a b)
  max_width w v a b p h q k =
      number-Max e.space e.full (bits_scope e.program e.variables) w v
      ∙ (ap (λ z. clip (larger z (number_of_width e v))) p ∙ (ap (λ z. clip (larger (pos a) z)) q ∙ max_is a b h k))

  sum_is : (a b : ℕ) → a ≤ 1000 → b ≤ 1000 → clip (pos a +ℤ pos b) ≡ pos (a + b)
  sum_is a b h k = omega (arith, ints, clamps)

  pub sum_width : (w v : Width) (a b : ℕ) → number_of_width e w ≡ pos a → a ≤ 1000 → number_of_width e v ≡ pos b → b ≤ 1000 → number_of_width e (wd.Plus w v) ≡ pos (a + b)
  sum_width w v a b p h q k =
      number-Plus e.space e.full (bits_scope e.program e.variables) w v
      ∙ (ap (λ z. clip (z +ℤ number_of_width e v)) p ∙ (ap (λ z. clip (pos a +ℤ z)) q ∙ sum_is a b h k))

  pub one_wider_width : (w v : Width) (a b : ℕ) → number_of_width e w ≡ pos a → a ≤ 128 → number_of_width e v ≡ pos b → b ≤ 128 → number_of_width e (wd.Plus (wd.Max w v) (wd.Number 1)) ≡ pos (max a b + 1)
  one_wider_width w v a b p h q k =
      let m : max a b ≤ 1000 = omega arith in
      sum_width (wd.Max w v) (wd.Number 1) (max a b) 1 (max_width w v a b p h q k) m (number_is 1 (omega arith)) (omega arith)

  small_product : (a b : ℕ) → a ≤ 128 → b ≤ 128 → a * b ≤ 1000000
  small_product a b h k = let m : a * b ≤ 128 * 128 = mul-le-mul h k in omega (arith, m)

  product_is : (a b : ℕ) → a ≤ 128 → b ≤ 128 → clip (pos a *ℤ pos b) ≡ pos (b * a)
  product_is a b h k = few (a * b) (small_product a b h k) ∙ ap pos (mul_comm a b)

  pub product_width : (w v : Width) (a b : ℕ) → number_of_width e w ≡ pos a → a ≤ 128 → number_of_width e v ≡ pos b → b ≤ 128 → number_of_width e (wd.Times w v) ≡ pos (b * a)
  product_width w v a b p h q k =
      number-Times e.space e.full (bits_scope e.program e.variables) w v
      ∙ (ap (λ z. clip (z *ℤ number_of_width e v)) p ∙ (ap (λ z. clip (pos a *ℤ z)) q ∙ product_is a b h k))

  difference_is : (a b : ℕ) → b ≤ a → a ≤ 127 → clip (clip (pos a -ℤ pos b) +ℤ pos 1) ≡ pos (a - b + 1)
  difference_is a b h k = omega (arith, ints, clamps)

  pub slice_width : (w v : Width) (a b : ℕ) → number_of_width e w ≡ pos a → number_of_width e v ≡ pos b → b ≤ a → a ≤ 127 → number_of_width e (wd.Plus (wd.Minus w v) (wd.Number 1)) ≡ pos (a - b + 1)
  slice_width w v a b p q h k =
      number-Plus e.space e.full (bits_scope e.program e.variables) (wd.Minus w v) (wd.Number 1)
      ∙ (ap (λ z. clip (z +ℤ number_of_width e (wd.Number 1))) (number-Minus e.space e.full (bits_scope e.program e.variables) w v)
      ∙ (ap (λ z. clip (clip (z -ℤ number_of_width e v) +ℤ number_of_width e (wd.Number 1))) p
      ∙ (ap (λ z. clip (clip (pos a -ℤ z) +ℤ number_of_width e (wd.Number 1))) q
      ∙ (ap (λ z. clip (clip (pos a -ℤ pos b) +ℤ z)) (number_is 1 (omega arith)) ∙ difference_is a b h k))))

pub within_is : (n : ℕ) → 1 ≤ n → n ≤ 128 → is_width n ≡ true
within_is n h k = grind (arith)

abbrev inside_zero : (low high n : ℕ) → low ≤ n → n ≤ high → InRange low high (pos n)
inside_zero low high n h k = record { n = n; is = refl; least = h; most = k; within = inside low high n h k }

-- two places of a slice
pub record SlicePlaces (width : ℕ) (high low : ℤ) : Type 0 where
  pub h : InRange 0 (width - 1) high
  pub l : InRange 0 h.n low

pub slice_places : (width : ℕ) (high low : ℤ) → (int_le (pos 0) low && (int_le low high && int_lt high (pos width))) ≡ true → SlicePlaces width high low
slice_places width (pos h) (pos l) e =
    let a = both_true (int_le (pos 0) (pos l)) (int_le (pos l) (pos h) && int_lt (pos h) (pos width)) e in
    let b = both_true (int_le (pos l) (pos h)) (int_lt (pos h) (pos width)) a.1 in
    let c : l ≤ h = omega (arith, ints, b.0) in
    let d : h ≤ width - 1 = omega (arith, ints, b.1) in
    record { h = inside_zero 0 (width - 1) h (omega arith) d; l = inside_zero 0 h l (omega arith) c }
slice_places width (pos h) (negsuc l) e = absurd (omega (arith, ints, (both_true (int_le (pos 0) (negsuc l)) (int_le (negsuc l) (pos h) && int_lt (pos h) (pos width)) e).0))
slice_places width (negsuc h) (pos l) e =
    let a = both_true (int_le (pos 0) (pos l)) (int_le (pos l) (negsuc h) && int_lt (negsuc h) (pos width)) e in
    absurd (omega (arith, ints, (both_true (int_le (pos l) (negsuc h)) (int_lt (negsuc h) (pos width)) a.1).0))
slice_places width (negsuc h) (negsuc l) e = absurd (omega (arith, ints, (both_true (int_le (pos 0) (negsuc l)) (int_le (negsuc l) (negsuc h) && int_lt (negsuc h) (pos width)) e).0))
