-- Masks, and the pattern at 128 bits of a value's number.
use Rattle.std.proofs.Common.{◌≡◌, ℕ, ◌+◌, ◌-◌, ◌*◌, ◌/◌, ◌%◌, ◌^◌, ◌<◌, ◌≤◌, bit_and, bit_or, pos, Bool, true, false, cond, refl, sym, ap, ◌∙◌, arith}
use Rattle.std.proofs.lemmas.Nat.{pow_pos, pow-add, and_mask, or_shifted, or_comm}
use Rattle.std.proofs.lemmas.Nat.Bits.{ones_shr}
use Rattle.std.proofs.lemmas.Bool.{false≢true}
use Rattle.std.proofs.Math.Pow.{pow_mono}
use Rattle.std.proofs.lemmas.Int.{ints}
use Rattle.std.specs.Prelude.{ℤ, ◌+ℤ◌, ◌-ℤ◌, ◌*ℤ◌, neg_ℤ}
use Rattle.idl_bits.specs.BitVector.{BitVector}
use Rattle.idl_bits.specs.Number.{number, pattern_of, is_negative, extension, value_of}
use Rattle.idl_bits.proofs.Modulo.{pattern_of-same, pattern_of-small, pattern_of-narrow, pattern_of-pos, pattern_of-sum, pattern_of-difference, pattern_of-product, pattern_of-negation}

-- what a decided choice takes
pub taken : {X : Type 0} (t : Bool) (x y : X) → t ≡ true → x ≡ cond t x y
taken true x y e = refl
taken false x y e = absurd (false≢true e)

pub left_over : {X : Type 0} (t : Bool) (x y : X) → t ≡ false → y ≡ cond t x y
left_over true x y e = absurd (false≢true (sym e))
left_over false x y e = refl

-- all ones of 128 bits, without all but w of them
pub ones-is : (w : ℕ) → w ≤ 128 → (2 ^ 128 - 1) / 2 ^ (128 - w) + 1 ≡ 2 ^ w
ones-is w h =
    let inside : 128 - w ≤ 128 = omega arith in
    let back : 128 - (128 - w) ≡ w = omega arith in
    let some = pow_pos w in
    omega (arith, ones_shr 128 (128 - w) inside, ap (λ k. 2 ^ k) back)

-- a mask of w ones keeps the rest
pub and-ones : (w m x : ℕ) → m + 1 ≡ 2 ^ w → bit_and x m ≡ x % 2 ^ w
and-ones w m x e =
    let is : m ≡ 2 ^ w - 1 = omega arith in
    ap (bit_and x) is ∙ and_mask x w

-- the bits above a mask are set in a pattern that has none of them
pub or-above : (w m p : ℕ) → w ≤ 128 → m + 1 ≡ 2 ^ w → p < 2 ^ w → bit_or p (2 ^ 128 - 1 - m) ≡ p + (2 ^ 128 - 2 ^ w)
or-above w m p h e l =
    let cut : 128 ≡ (128 - w) + w = omega arith in
    let power : 2 ^ 128 ≡ 2 ^ (128 - w) * 2 ^ w = ap (λ i. 2 ^ i) cut ∙ pow-add 2 (128 - w) w in
    let some = pow_pos (128 - w) in
    let j = 2 ^ (128 - w) - 1 in
    let one_more : 2 ^ (128 - w) ≡ j + 1 = omega arith in
    let times = ap (λ x. x * 2 ^ w) one_more in
    let high : 2 ^ 128 - 1 - m ≡ j * 2 ^ w = omega arith in
    ap (bit_or p) high ∙ or_comm p (j * 2 ^ w) ∙ or_shifted j w p l ∙ omega arith

-- the number of a value that counts as negative, and of any other
pub number-negative : (a : BitVector) → is_negative a ≡ true → number a ≡ pos a.pattern -ℤ pos (2 ^ a.width)
unfolding number
number-negative a e = ap (λ t. cond t (pos a.pattern -ℤ pos (2 ^ a.width)) (pos a.pattern)) e

pub number-plain : (a : BitVector) → is_negative a ≡ false → number a ≡ pos a.pattern
unfolding number
number-plain a e = ap (λ t. cond t (pos a.pattern -ℤ pos (2 ^ a.width)) (pos a.pattern)) e

pub wider : (p w : ℕ) → w ≤ 128 → p < 2 ^ w → p < 2 ^ 128
wider p w h l = let in_width : 2 ^ w ≤ 2 ^ 128 = pow_mono h in omega arith

pub whole-negative : (a : BitVector) (p m : ℕ) → is_negative a ≡ true → a.width ≤ 128 → m + 1 ≡ 2 ^ a.width → p ≡ a.pattern → p < 2 ^ a.width → bit_or p (2 ^ 128 - 1 - m) ≡ extension 128 a
whole-negative a p m t h e s l =
    let n = p + (2 ^ 128 - 2 ^ a.width) in
    let in_width : 2 ^ a.width ≤ 2 ^ 128 = pow_mono h in
    let differs : pos n +ℤ pos (0 * 2 ^ 128) ≡ (pos a.pattern -ℤ pos (2 ^ a.width)) +ℤ pos (1 * 2 ^ 128) = omega (arith, ints) in
    or-above a.width m p h e l
    ∙ sym (pattern_of-small 128 n (omega arith))
    ∙ pattern_of-same 128 (pos n) (pos a.pattern -ℤ pos (2 ^ a.width)) 0 1 differs
    ∙ ap (pattern_of 128) (sym (number-negative a t))

pub whole-plain : (a : BitVector) (p : ℕ) → is_negative a ≡ false → p ≡ a.pattern → p < 2 ^ 128 → p ≡ extension 128 a
whole-plain a p t s l =
    sym (pattern_of-small 128 p l) ∙ ap (λ x. pattern_of 128 (pos x)) s ∙ ap (pattern_of 128) (sym (number-plain a t))

-- the wider pattern's rest is the narrower pattern
pub narrowed : (w : ℕ) (z : ℤ) → w ≤ 128 → pattern_of w (pos (pattern_of 128 z)) ≡ pattern_of w z
narrowed w z h = pattern_of-pos w (pattern_of 128 z) ∙ pattern_of-narrow w 128 z h

-- the rest of x in w bits, cut out by a mask
pub cut-is : (w m x : ℕ) (z : ℤ) → w ≤ 128 → m + 1 ≡ 2 ^ w → x ≡ pattern_of 128 z → bit_and x m ≡ pattern_of w z
cut-is w m x z h e s = and-ones w m x e ∙ ap (λ y. y % 2 ^ w) s ∙ pattern_of-narrow w 128 z h

-- ---- what the code computes on patterns of 128 bits

module _ (x y : ℕ) (a b : ℤ) (e : x ≡ pattern_of 128 a) (f : y ≡ pattern_of 128 b) where
  pub sum-whole : (x + y) % 2 ^ 128 ≡ pattern_of 128 (a +ℤ b)
  sum-whole = ap (λ n. (n + y) % 2 ^ 128) e ∙ ap (λ n. (pattern_of 128 a + n) % 2 ^ 128) f ∙ sym (pattern_of-sum 128 a b)

  pub difference-whole : (x + (2 ^ 128 - y)) % 2 ^ 128 ≡ pattern_of 128 (a -ℤ b)
  difference-whole = ap (λ n. (n + (2 ^ 128 - y)) % 2 ^ 128) e ∙ ap (λ n. (pattern_of 128 a + (2 ^ 128 - n)) % 2 ^ 128) f ∙ sym (pattern_of-difference 128 a b)

  pub product-whole : (x * y) % 2 ^ 128 ≡ pattern_of 128 (a *ℤ b)
  product-whole = ap (λ n. (n * y) % 2 ^ 128) e ∙ ap (λ n. (pattern_of 128 a * n) % 2 ^ 128) f ∙ sym (pattern_of-product 128 a b)

pub negation-whole : (x : ℕ) (a : ℤ) → x ≡ pattern_of 128 a → (0 + (2 ^ 128 - x)) % 2 ^ 128 ≡ pattern_of 128 (neg_ℤ a)
negation-whole x a e = ap (λ n. (0 + (2 ^ 128 - n)) % 2 ^ 128) e ∙ sym (pattern_of-negation 128 a)

-- ---- what the code makes of a width, a sign and a pattern

pub same-parts : (w w' : ℕ) (s s' : Bool) (p p' : ℕ) (r : BitVector) → r ≡ record { width = w; signed = s; pattern = p } → w ≡ w' → s ≡ s' → p ≡ p' → r ≡ record { width = w'; signed = s'; pattern = p' }
same-parts w w' s s' p p' r e f g h = e ∙ (λ i. record { width = f i; signed = g i; pattern = h i })

pub value-at : (w w' : ℕ) (s : Bool) (z : ℤ) → w ≡ w' → value_of w s z ≡ value_of w' s z
value-at w w' s z e = ap (λ v. value_of v s z) e

-- the value that holds a number, from any rest that keeps its bits
pub wrap-as : (r : BitVector) (w w' n : ℕ) (s s' : Bool) (z : ℤ) → r ≡ value_of w s (pos n) → w ≤ 128 → w ≡ w' → s ≡ s' → n ≡ pattern_of 128 z → r ≡ value_of w' s' z
wrap-as r w w' n s s' z e h f g i = same-parts w w' s s' (pattern_of w (pos n)) (pattern_of w' z) r e f g (ap (λ x. pattern_of w (pos x)) i ∙ narrowed w z h ∙ ap (λ v. pattern_of v z) f)

-- the same of an operation that acts on each bit alone
pub bits-as : (f : ℕ → ℕ → ℕ) → ((a b k : ℕ) → f a b % 2 ^ k ≡ f (a % 2 ^ k) (b % 2 ^ k)) → (r : BitVector) (w w' x y : ℕ) (s s' : Bool) (a b : ℤ)
    → r ≡ value_of w s (pos (f x y)) → w ≤ 128 → w ≡ w' → s ≡ s' → x ≡ pattern_of 128 a → y ≡ pattern_of 128 b
    → r ≡ record { width = w'; signed = s'; pattern = f (pattern_of w' a) (pattern_of w' b) }
bits-as f law r w w' x y s s' a b e h i j k l =
    let rest : (n : ℕ) (z : ℤ) → n ≡ pattern_of 128 z → n % 2 ^ w ≡ pattern_of w' z = λ n z m. ap (λ t. t % 2 ^ w) m ∙ pattern_of-narrow w 128 z h ∙ ap (λ v. pattern_of v z) i in
    same-parts w w' s s' (pattern_of w (pos (f x y))) (f (pattern_of w' a) (pattern_of w' b)) r e i j (pattern_of-pos w (f x y) ∙ law x y w ∙ (λ t. f (rest x a k t) (rest y b l t)))

pub complement-is : (m p w w' p' : ℕ) → m + 1 ≡ 2 ^ w → w ≡ w' → p ≡ p' → m - p ≡ 2 ^ w' - 1 - p'
complement-is m p w w' p' e f g = omega (arith, ap (λ k. 2 ^ k) f)

pub all-ones : (m w w' : ℕ) → m + 1 ≡ 2 ^ w → w ≡ w' → m ≡ 2 ^ w' - 1
all-ones m w w' e f = omega (arith, ap (λ k. 2 ^ k) f)
