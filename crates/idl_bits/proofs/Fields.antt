-- Bits moved to other places, and fields of bits written.
use Rattle.std.proofs.Common.{◌≡◌, ℕ, zero, suc, ◌+◌, ◌-◌, ◌*◌, ◌/◌, ◌%◌, ◌^◌, ◌<◌, ◌≤◌, bit_and, bit_or, pos, true, false, cond, sym, ap, subst, ◌∙◌, arith, ⊎_elim}
use Rattle.std.specs.Prelude.{ℤ, negsuc, ◌*ℤ◌, if◌then◌else◌, nat_lt}
use Rattle.std.specs.Int.{int_div_euclid}
use Rattle.std.proofs.Math.Nat.{mod-eq_of_lt, mod-lt, div-eq_of_lt, div-le_self}
use Rattle.std.proofs.Math.Pow.{pow_mono}
use Rattle.std.proofs.lemmas.Nat.{pow_pos, pow-add, pow_below, div-add-mod', mod-pow-add, and_comm, or_comm, or_shifted, or_block, and-not, shl_whole, shl_below, shr_below, mul-add-lt}
use Rattle.std.proofs.lemmas.Nat.Bits.{and_high}
use Rattle.std.specs.Int.Bits.{or_zero_r}
use Rattle.std.proofs.lemmas.Int.{ints}
use Rattle.std.proofs.lemmas.Bool.{cases_lt, lt-ltb}
use borrow.Author.Tests.{le-ltb}
use Rattle.idl_bits.specs.BitVector.{BitVector}
use Rattle.idl_bits.specs.Number.{number, pattern_of, has_top_bit}
use Rattle.idl_bits.specs.Operators.{signed_of, with_field, copies}
use Rattle.idl_bits.proofs.Modulo.{pattern_of-small, pattern_of-pos, pattern_of-negsuc, pattern_of-product}
use Rattle.idl_bits.proofs.Patterns.{number-negative, number-plain, product-whole, wider}

-- what a test of places chooses
inside : (k w x y : ℕ) → k < w → (if nat_lt k w then x else y) ≡ x
inside k w x y h = ap (λ t. cond t x y) (lt-ltb k w h)

outside : (k w x y : ℕ) → w ≤ k → (if nat_lt k w then x else y) ≡ y
outside k w x y h = ap (λ t. cond t x y) (le-ltb k w h)

-- a shift to the left by fewer than 128 places
pub moved-left : (x k : ℕ) (z : ℤ) → k < 128 → x ≡ pattern_of 128 z → (x * 2 ^ k) % 2 ^ 128 ≡ pattern_of 128 (z *ℤ pos (2 ^ k))
moved-left x k z h e = product-whole x (2 ^ k) z (pos (2 ^ k)) e (sym (pattern_of-small 128 (2 ^ k) (pow_below k 128 h)))

-- the same by up to 128 places
pub shifted-left : (x k : ℕ) (z : ℤ) → k ≤ 128 → x ≡ pattern_of 128 z → (if nat_lt k 128 then (x * 2 ^ k) % 2 ^ 128 else 0) ≡ pattern_of 128 (z *ℤ pos (2 ^ k))
shifted-left x k z h e = ⊎_elim
    (λ l. inside k 128 _ 0 l ∙ moved-left x k z l e)
    (λ l.
    let all : k ≡ 128 = omega arith in
    let out : pattern_of 128 (pos (2 ^ k)) ≡ 0 = ap (λ i. pattern_of 128 (pos (2 ^ i))) all ∙ pattern_of-pos 128 (2 ^ 128) in
    outside k 128 _ 0 l ∙ sym (pattern_of-product 128 z (pos (2 ^ k)) ∙ ap (λ n. (pattern_of 128 z * n) % 2 ^ 128) out ∙ omega arith))
    (cases_lt k 128)

-- a shift to the right by up to 128 places
pub shifted-right : (x k : ℕ) → k ≤ 128 → x < 2 ^ 128 → (if nat_lt k 128 then x / 2 ^ k else 0) ≡ x / 2 ^ k
shifted-right x k h l = ⊎_elim
    (λ i. inside k 128 _ 0 i)
    (λ i.
    let all : k ≡ 128 = omega arith in
    outside k 128 _ 0 i ∙ sym (ap (λ j. x / 2 ^ j) all ∙ div-eq_of_lt l))
    (cases_lt k 128)

pub sign-shift-negative : (a : BitVector) (m p k : ℕ) → has_top_bit a ≡ true → m + 1 ≡ 2 ^ a.width → p ≡ a.pattern → p < 2 ^ a.width → a.width ≤ 128 → k ≤ 128
    → m - (if nat_lt k 128 then (m - p) / 2 ^ k else 0) ≡ pattern_of a.width (int_div_euclid (number (signed_of a)) (pos (2 ^ k)))
sign-shift-negative a m p k t e s l h i =
    let n = m - p in
    let wide : n < 2 ^ 128 = wider n a.width h (omega arith) in
    let least = div-le_self n (2 ^ k) in
    let is : number (signed_of a) ≡ negsuc n = number-negative (signed_of a) t ∙ omega (arith, ints) in
    let rest : n / 2 ^ k % 2 ^ a.width ≡ n / 2 ^ k = mod-eq_of_lt (omega arith) in
    let kept : pattern_of a.width (negsuc (n / 2 ^ k)) ≡ m - n / 2 ^ k = pattern_of-negsuc a.width (n / 2 ^ k) ∙ omega arith in
    ap (λ x. m - x) (shifted-right n k i wide) ∙ sym (ap (λ z. pattern_of a.width (int_div_euclid z (pos (2 ^ k)))) is ∙ kept)

pub sign-shift-plain : (a : BitVector) (p k : ℕ) → has_top_bit a ≡ false → p ≡ a.pattern → p < 2 ^ a.width → p < 2 ^ 128 → k ≤ 128
    → (if nat_lt k 128 then p / 2 ^ k else 0) ≡ pattern_of a.width (int_div_euclid (number (signed_of a)) (pos (2 ^ k)))
sign-shift-plain a p k t s l h i =
    let least = div-le_self p (2 ^ k) in
    let is : number (signed_of a) ≡ pos p = number-plain (signed_of a) t ∙ ap pos (sym s) in
    shifted-right p k i h
    ∙ sym (ap (λ z. pattern_of a.width (int_div_euclid z (pos (2 ^ k)))) is ∙ pattern_of-small a.width (p / 2 ^ k) (omega arith))

-- a pattern above another
module _ (v w u p q : ℕ) (same : u ≡ w) (high : p < 2 ^ v) (low : q < 2 ^ w) (room : v + w ≤ 128) where
  pub joined : bit_or (p * 2 ^ u % 2 ^ 128) q ≡ p * 2 ^ w + q
  joined = ap (λ i. bit_or (p * 2 ^ i % 2 ^ 128) q) same ∙ ap (λ n. bit_or n q) (shl_whole p v w 128 high room) ∙ or_shifted p w q low

  pub joined-lt : (t : ℕ) → t ≡ v → bit_or (p * 2 ^ u % 2 ^ 128) q < 2 ^ (t + u)
  joined-lt t e =
      let sum : t + u ≡ v + w = omega arith in
      let power = ap (λ i. 2 ^ i) sum ∙ pow-add 2 v w in
      omega (arith, mul-add-lt p (2 ^ w) q (2 ^ v) high low, joined, power)

-- copies of a value fill as many bits as they have together
pub copies-lt : (a : BitVector) (n : ℕ) → a.pattern < 2 ^ a.width → copies n a < 2 ^ (a.width * n)
unfolding copies
copies-lt a zero h = pow_pos (a.width * 0)
copies-lt a (suc n) h =
    let sum : a.width * suc n ≡ a.width * n + a.width = omega arith in
    let power = ap (λ i. 2 ^ i) sum ∙ pow-add 2 (a.width * n) a.width in
    omega (arith, mul-add-lt (copies n a) (2 ^ a.width) a.pattern (2 ^ (a.width * n)) (copies-lt a n h) h, power)

pub copies-one : (a : BitVector) → copies 1 a ≡ a.pattern
unfolding copies
copies-one a = omega arith

pub copies-more : (a : BitVector) (n p q u : ℕ) → p ≡ copies n a → q ≡ a.pattern → u ≡ a.width → a.pattern < 2 ^ a.width → a.width * n + a.width ≤ 128
    → bit_or (p * 2 ^ u % 2 ^ 128) q ≡ copies (n + 1) a
unfolding copies
copies-more a n p q u e s f h room =
    (λ i. bit_or (e i * 2 ^ u % 2 ^ 128) (s i)) ∙ joined (a.width * n) a.width u (copies n a) a.pattern f (copies-lt a n h) h room
    ∙ ap (λ k. copies k a) (one_more n)
  where
    one_more : (k : ℕ) → suc k ≡ k + 1
    one_more k = omega arith

-- ---- fields of bits

pub with_field-is : (p low count m part : ℕ) → m + 1 ≡ 2 ^ count → low + count ≤ 128 → p < 2 ^ 128 → part < 2 ^ count
    → bit_or (bit_and p (2 ^ 128 - 1 - m * 2 ^ low % 2 ^ 128)) (part * 2 ^ low % 2 ^ 128) ≡ with_field p low count part
with_field-is p low count m part e h l f =
    let top = low + count in
    let turned : top ≡ count + low = omega arith in
    let power : 2 ^ top ≡ 2 ^ count * 2 ^ low = ap (λ i. 2 ^ i) turned ∙ pow-add 2 count low in
    let mask = m * 2 ^ low in
    let times = ap (λ x. x * 2 ^ low) e in
    let whole_mask : mask % 2 ^ 128 ≡ mask = shl_whole m count low 128 (omega arith) (omega arith) in
    let whole_part : part * 2 ^ low % 2 ^ 128 ≡ part * 2 ^ low = shl_whole part count low 128 f (omega arith) in
    let small : mask < 2 ^ 128 = wider mask (count + low) (omega arith) (shl_below m count low (omega arith)) in
    let ones : mask ≡ 2 ^ (count + low) - 2 ^ low = omega (arith, pow-add 2 count low, times) in
    let field : bit_and mask p ≡ (p / 2 ^ low % 2 ^ count) * 2 ^ low = and_comm mask p ∙ ap (bit_and p) ones ∙ and_high p count low in
    let rest : p % 2 ^ top ≡ (p / 2 ^ low % 2 ^ count) * 2 ^ low + p % 2 ^ low = ap (λ i. p % 2 ^ i) turned ∙ mod-pow-add p count low in
    let kept : bit_and p (2 ^ 128 - 1 - mask) ≡ p / 2 ^ top * 2 ^ top + p % 2 ^ low = and_comm p (2 ^ 128 - 1 - mask) ∙ omega (arith, and-not 128 mask p small l, field, rest, div-add-mod' p (2 ^ top)) in
    let below : p % 2 ^ low < 2 ^ low = mod-lt p (pow_pos low) in
    let wide : 2 ^ low ≤ 2 ^ top = pow_mono (omega arith) in
    let low_fits : p % 2 ^ low < 2 ^ top = omega arith in
    let part_fits : part * 2 ^ low < 2 ^ top = omega (arith, shl_below part count low f, pow-add 2 count low) in
    (λ i. bit_or (bit_and p (2 ^ 128 - 1 - whole_mask i)) (whole_part i))
    ∙ ap (λ x. bit_or x (part * 2 ^ low)) kept
    ∙ ap (bit_or (p / 2 ^ top * 2 ^ top + p % 2 ^ low)) (omega arith)
    ∙ or_block top (p / 2 ^ top) 0 (p % 2 ^ low) (part * 2 ^ low) low_fits part_fits
    ∙ (λ i. or_zero_r (p / 2 ^ top) i * 2 ^ top + (or_comm (p % 2 ^ low) (part * 2 ^ low) ∙ or_shifted part low (p % 2 ^ low) below) i)
    ∙ omega arith

pub with_field-lt : (p low count part w : ℕ) → p < 2 ^ w → low + count ≤ w → part < 2 ^ count → with_field p low count part < 2 ^ w
with_field-lt p low count part w l h f =
    let top = low + count in
    let turned : top ≡ count + low = omega arith in
    let power : 2 ^ top ≡ 2 ^ count * 2 ^ low = ap (λ i. 2 ^ i) turned ∙ pow-add 2 count low in
    let cut : w ≡ (w - top) + top = omega arith in
    let whole : 2 ^ w ≡ 2 ^ (w - top) * 2 ^ top = ap (λ i. 2 ^ i) cut ∙ pow-add 2 (w - top) top in
    let above : p / 2 ^ top < 2 ^ (w - top) = shr_below p (w - top) top (subst (λ i. p < 2 ^ i) cut l) in
    let below : p % 2 ^ low < 2 ^ low = mod-lt p (pow_pos low) in
    let field : part * 2 ^ low + p % 2 ^ low < 2 ^ count * 2 ^ low = omega (arith, mul-add-lt part (2 ^ low) (p % 2 ^ low) (2 ^ count) f below) in
    omega (arith, mul-add-lt (p / 2 ^ top) (2 ^ top) (part * 2 ^ low + p % 2 ^ low) (2 ^ (w - top)) above (omega arith))
