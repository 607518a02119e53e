-- Numbers by sign and absolute value, and their quotients and remainders.
use Rattle.std.proofs.Common.{◌≡◌, ℕ, zero, suc, ◌+◌, ◌-◌, ◌/◌, ◌%◌, ◌^◌, ◌<◌, ◌≢◌, pos, Bool, not, ◌&&◌, eqb, ltb, Decides, true, false, cond, refl, sym, ap, ◌∙◌, arith}
use Rattle.std.specs.Prelude.{◌-ℤ◌, neg_ℤ, int_div, int_rem, int_lt}
use Rattle.std.proofs.lemmas.Int.{ints}
use Rattle.std.specs.Ordering.{int_eq}
use Rattle.std.proofs.lemmas.Bool.{false≢true}
use Rattle.std.proofs.lemmas.Bool.Decides.{nat_tests, same_from_decides, Decides-like, Decides-eqb, Decides-int_eq}
use mathlib.Core.Bool.{beq}
use Rattle.idl_bits.specs.BitVector.{BitVector}
use Rattle.idl_bits.specs.Number.{number, is_negative, extension, both_signed, larger, number_beside, value_of}
use Rattle.idl_bits.specs.Operators.{quotient_of, remainder_of}
use Rattle.idl_bits.specs.Sign.{number_with}
use Rattle.idl_bits.proofs.Patterns.{number-negative, number-plain, taken, left_over}

pub magnitude-negative : (a : BitVector) (m p : ℕ) → is_negative a ≡ true → m + 1 ≡ 2 ^ a.width → p ≡ a.pattern → p < 2 ^ a.width → neg_ℤ (pos (m - p + 1)) ≡ number a
magnitude-negative a m p t e s l =
    let is : neg_ℤ (pos (m - p + 1)) ≡ pos a.pattern -ℤ pos (2 ^ a.width) = omega (arith, ints) in
    is ∙ sym (number-negative a t)

pub magnitude-plain : (a : BitVector) (p : ℕ) → is_negative a ≡ false → p ≡ a.pattern → pos p ≡ number a
magnitude-plain a p t s = ap pos s ∙ sym (number-plain a t)

pub beside-signed : (a b : BitVector) → both_signed a b ≡ true → number_beside a b ≡ number a
unfolding number_beside
beside-signed a b e = ap (λ t. cond t (number a) (pos (extension (larger a b) a))) e

pub beside-unsigned : (a b : BitVector) → both_signed a b ≡ false → number_beside a b ≡ pos (extension (larger a b) a)
unfolding number_beside
beside-unsigned a b e = ap (λ t. cond t (number a) (pos (extension (larger a b) a))) e

-- ---- division towards zero, by signs

pub zero-size : (s : Bool) (m : ℕ) → m ≡ 0 → int_eq (number_with s m) (pos 0) ≡ true
zero-size true m e = ap (λ k. int_eq (neg_ℤ (pos k)) (pos 0)) e
zero-size false m e = ap (λ k. int_eq (pos k) (pos 0)) e

refuted : {P : Type 0} (r : Bool) → Decides r P → ¬ P → r ≡ false
refuted true d n = absurd (n (d.0 refl))
refuted false d n = refl

size-zero : (s : Bool) (m : ℕ) → number_with s m ≡ pos 0 → m ≡ 0
size-zero true m e = omega (arith, ints)
size-zero false m e = omega (arith, ints)

pub nonzero-size : (s : Bool) (m : ℕ) → m ≢ 0 → int_eq (number_with s m) (pos 0) ≡ false
nonzero-size s m e = refuted _ (Decides-int_eq (number_with s m) (pos 0)) (λ h. e (size-zero s m h))

pub quotient-signs : (s t : Bool) (m n : ℕ) → n ≢ 0 → int_div (number_with s m) (number_with t n) ≡ number_with (not (beq s t)) (m / n)
quotient-signs true true zero zero h = absurd (h refl)
quotient-signs true true zero (suc n) h = omega (arith, ints)
quotient-signs true true (suc m) zero h = absurd (h refl)
quotient-signs true true (suc m) (suc n) h = refl
quotient-signs true false zero n h = omega (arith, ints)
quotient-signs true false (suc m) n h = refl
quotient-signs false true m zero h = absurd (h refl)
quotient-signs false true m (suc n) h = refl
quotient-signs false false m n h = refl

pub remainder-signs : (s t : Bool) (m n : ℕ) → int_rem (number_with s m) (number_with t n) ≡ number_with s (m % n)
remainder-signs true true zero zero = refl
remainder-signs true true zero (suc n) = omega (arith, ints)
remainder-signs true true (suc m) zero = refl
remainder-signs true true (suc m) (suc n) = refl
remainder-signs true false zero n = omega (arith, ints)
remainder-signs true false (suc m) n = refl
remainder-signs false true m zero = refl
remainder-signs false true m (suc n) = refl
remainder-signs false false m n = refl

-- ---- what the quotient and the remainder are, by the sizes of their operands

module _ (a b : BitVector) (t : Bool) (n : ℕ) (divisor : number_with t n ≡ number_beside b a) where
  is_zero : n ≡ 0 → int_eq (number_beside b a) (pos 0) ≡ true
  is_zero e = ap (λ z. int_eq z (pos 0)) (sym divisor) ∙ zero-size t n e

  is_not_zero : n ≢ 0 → int_eq (number_beside b a) (pos 0) ≡ false
  is_not_zero e = ap (λ z. int_eq z (pos 0)) (sym divisor) ∙ nonzero-size t n e

  pub quotient-none : n ≡ 0 → record { width = larger a b; signed = both_signed a b; pattern = 2 ^ larger a b - 1 } ≡ quotient_of a b
  unfolding quotient_of
  quotient-none e = taken _ _ _ (is_zero e)

  pub remainder-none : n ≡ 0 → value_of (larger a b) (both_signed a b) (number a) ≡ remainder_of a b
  unfolding remainder_of
  remainder-none e = taken _ _ _ (is_zero e)

  module _ (s : Bool) (m : ℕ) (dividend : number_with s m ≡ number_beside a b) where
    pub quotient-some : n ≢ 0 → value_of (larger a b) (both_signed a b) (number_with (not (beq s t)) (m / n)) ≡ quotient_of a b
    unfolding quotient_of
    quotient-some e =
        ap (value_of (larger a b) (both_signed a b)) (sym (quotient-signs s t m n e) ∙ (λ i. int_div (dividend i) (divisor i)))
        ∙ left_over _ _ _ (is_not_zero e)

    pub remainder-some : n ≢ 0 → value_of (larger a b) (both_signed a b) (number_with s (m % n)) ≡ remainder_of a b
    unfolding remainder_of
    remainder-some e =
        ap (value_of (larger a b) (both_signed a b)) (sym (remainder-signs s t m n) ∙ (λ i. int_rem (dividend i) (divisor i)))
        ∙ left_over _ _ _ (is_not_zero e)

-- ---- which of two numbers is less, and whether they are one, by their sizes

module _ (m n : ℕ) where
  pub equal-signs : (s t : Bool) → (s ≡ true → 0 < m) → (t ≡ true → 0 < n) → (beq s t && eqb m n) ≡ int_eq (number_with s m) (number_with t n)
  equal-signs true true p q = same_from_decides _ _ (Decides-like (eqb m n) (λ e. ap (λ k. neg_ℤ (pos k)) e) (λ e. omega (arith, ints)) (Decides-eqb m n)) (Decides-int_eq (neg_ℤ (pos m)) (neg_ℤ (pos n)))
  equal-signs true false p q = let some = p refl in same_from_decides _ _ (λ e. absurd (false≢true e), λ e. absurd (omega (arith, ints))) (Decides-int_eq (neg_ℤ (pos m)) (pos n))
  equal-signs false true p q = let some = q refl in same_from_decides _ _ (λ e. absurd (false≢true e), λ e. absurd (omega (arith, ints))) (Decides-int_eq (pos m) (neg_ℤ (pos n)))
  equal-signs false false p q = same_from_decides _ _ (Decides-like (eqb m n) (λ e. ap pos e) (λ e. omega (arith, ints)) (Decides-eqb m n)) (Decides-int_eq (pos m) (pos n))

  pub below-unlike : (s t : Bool) → not (beq s t) ≡ true → (s ≡ true → 0 < m) → (t ≡ true → 0 < n) → s ≡ int_lt (number_with s m) (number_with t n)
  below-unlike true true h p q = absurd (false≢true h)
  below-unlike true false h p q = let some = p refl in grind (arith, ints)
  below-unlike false true h p q = let some = q refl in grind (arith, ints)
  below-unlike false false h p q = absurd (false≢true h)

  pub below-negative : (s t : Bool) → not (beq s t) ≡ false → s ≡ true → ltb n m ≡ int_lt (number_with s m) (number_with t n)
  below-negative true true h e = grind (arith, ints, nat_tests)
  below-negative true false h e = absurd (false≢true (sym h))
  below-negative false t h e = absurd (false≢true e)

  pub below-plain : (s t : Bool) → not (beq s t) ≡ false → s ≡ false → ltb m n ≡ int_lt (number_with s m) (number_with t n)
  below-plain true t h e = absurd (false≢true (sym e))
  below-plain false true h e = absurd (false≢true (sym h))
  below-plain false false h e = refl
