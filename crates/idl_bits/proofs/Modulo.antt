-- Whole numbers modulo a power of two: what a pattern of w bits keeps of a sum, a difference and a product.
use Rattle.std.proofs.Common.{◌≡◌, ℕ, ◌+◌, ◌-◌, ◌*◌, ◌/◌, ◌%◌, ◌^◌, ◌<◌, ◌≤◌, refl, sym, ap, ◌∙◌, arith}
use Rattle.std.proofs.Math.Nat.{mul-le-mul_left, mod-lt, mod-eq_of_lt}
use Rattle.std.proofs.lemmas.Nat.{pow_pos, pow-add, div-add-mod'}
use Rattle.std.proofs.lemmas.Int.{ints, int_rem_euclid_is}
use Rattle.std.specs.Prelude.{ℤ, pos, negsuc, ◌+ℤ◌, ◌-ℤ◌, ◌*ℤ◌, neg_ℤ, unsigned_abs}
use Rattle.std.proofs.Math.IntN.{*ℤ_comm}
use borrow.Author.Differences.{up, down, same_in, same_out, sum_is_lem, neg_is, product_is}
use Rattle.idl_bits.specs.Number.{pattern_of}

-- numbers that differ by multiples of 2 ^ w have the same pattern
pub pattern_of-same : (w : ℕ) (a b : ℤ) (j k : ℕ) → a +ℤ pos (j * 2 ^ w) ≡ b +ℤ pos (k * 2 ^ w) → pattern_of w a ≡ pattern_of w b
unfolding pattern_of
pattern_of-same w a b j k e =
    let m = 2 ^ w in
    let some = pow_pos w in
    let t = down a + down b in
    let far : t * 1 ≤ t * m = mul-le-mul_left t some in
    let n = up a + (j + t) * m - down a in
    let from : (z : ℤ) (i : ℕ) → z +ℤ pos ((i + t) * m) ≡ pos n → pattern_of w z ≡ n % m = λ z i h. ap unsigned_abs (int_rem_euclid_is z (pos m) m (i + t) n some refl h) in
    from a j (omega (arith, ints)) ∙ sym (from b k (omega (arith, ints)))

-- a natural number's pattern is its rest
pub pattern_of-pos : (w n : ℕ) → pattern_of w (pos n) ≡ n % 2 ^ w
unfolding pattern_of
pattern_of-pos w n = refl

pub pattern_of-small : (w n : ℕ) → n < 2 ^ w → pattern_of w (pos n) ≡ n
pattern_of-small w n h = pattern_of-pos w n ∙ mod-eq_of_lt h

-- a negative number's pattern is the flipped one of the number below its absolute value
pub pattern_of-negsuc : (w n : ℕ) → pattern_of w (negsuc n) ≡ 2 ^ w - 1 - n % 2 ^ w
unfolding pattern_of
pattern_of-negsuc w n = refl

-- a number and its pattern differ by multiples of 2 ^ w
pub apart : (w : ℕ) (z : ℤ) → (j : ℕ) × (k : ℕ) × (pos (pattern_of w z) +ℤ pos (j * 2 ^ w) ≡ z +ℤ pos (k * 2 ^ w))
unfolding pattern_of
apart w (pos a) = (a / 2 ^ w, 0, omega (arith, ints, div-add-mod' a (2 ^ w)))
apart w (negsuc a) =
    let m = 2 ^ w in
    let small : a % m < m = mod-lt a (pow_pos w) in
    (0, a / m + 1, omega (arith, ints, div-add-mod' a m))

pub pattern_of-lt : (w : ℕ) (z : ℤ) → pattern_of w z < 2 ^ w
unfolding pattern_of
pattern_of-lt w (pos a) = mod-lt a (pow_pos w)
pattern_of-lt w (negsuc a) = omega (arith, pow_pos w)

-- a narrower pattern is the rest of a wider one
pub pattern_of-narrow : (w v : ℕ) (z : ℤ) → w ≤ v → pattern_of v z % 2 ^ w ≡ pattern_of w z
pattern_of-narrow w v z h =
    let l = apart v z in
    let more = 2 ^ (v - w) in
    let cut : v ≡ (v - w) + w = omega arith in
    let power : 2 ^ v ≡ more * 2 ^ w = ap (λ i. 2 ^ i) cut ∙ pow-add 2 (v - w) w in
    let shift : (i : ℕ) → i * 2 ^ v ≡ (i * more) * 2 ^ w = λ i. omega (arith, ap (λ x. i * x) power) in
    sym (pattern_of-pos w (pattern_of v z))
    ∙ pattern_of-same w (pos (pattern_of v z)) z (l.0 * more) (l.1 * more)
    (ap (λ x. pos (pattern_of v z) +ℤ pos x) (sym (shift l.0)) ∙ l.2 ∙ ap (λ x. z +ℤ pos x) (shift l.1))

pub pattern_of-sum : (w : ℕ) (a b : ℤ) → pattern_of w (a +ℤ b) ≡ (pattern_of w a + pattern_of w b) % 2 ^ w
pattern_of-sum w a b =
    let l = apart w a in
    let r = apart w b in
    pattern_of-same w (a +ℤ b) (pos (pattern_of w a + pattern_of w b)) (l.1 + r.1) (l.0 + r.0) (omega (arith, same_in, same_out, sum_is_lem, l.2, r.2))
    ∙ pattern_of-pos w _

pub pattern_of-difference : (w : ℕ) (a b : ℤ) → pattern_of w (a -ℤ b) ≡ (pattern_of w a + (2 ^ w - pattern_of w b)) % 2 ^ w
pattern_of-difference w a b =
    let l = apart w a in
    let r = apart w b in
    let small = pattern_of-lt w b in
    pattern_of-same w (a -ℤ b) (pos (pattern_of w a + (2 ^ w - pattern_of w b))) (l.1 + r.0 + 1) (l.0 + r.1) (omega (arith, same_in, same_out, sum_is_lem, neg_is, l.2, r.2))
    ∙ pattern_of-pos w _

times : (w : ℕ) (a b c : ℤ) (j k : ℕ) → a +ℤ pos (j * 2 ^ w) ≡ b +ℤ pos (k * 2 ^ w) → pattern_of w (a *ℤ c) ≡ pattern_of w (b *ℤ c)
times w a b c j k e =
    let sum : up a + j * 2 ^ w + down b ≡ up b + k * 2 ^ w + down a = omega (arith, same_out, sum_is_lem) in
    let above = ap (λ x. x * up c) sum in
    let below = ap (λ x. x * down c) sum in
    pattern_of-same w (a *ℤ c) (b *ℤ c) (j * up c + k * down c) (k * up c + j * down c) (omega (arith, same_in, sum_is_lem, product_is))

pub pattern_of-product : (w : ℕ) (a b : ℤ) → pattern_of w (a *ℤ b) ≡ (pattern_of w a * pattern_of w b) % 2 ^ w
pattern_of-product w a b =
    let l = apart w a in
    let r = apart w b in
    let m = pattern_of w a in
    let n = pattern_of w b in
    sym (times w (pos m) a b l.0 l.1 l.2) ∙ ap (pattern_of w) (*ℤ_comm (pos m) b)
    ∙ sym (times w (pos n) b (pos m) r.0 r.1 r.2) ∙ ap (pattern_of w) (*ℤ_comm (pos n) (pos m))
    ∙ pattern_of-pos w (m * n)

pub pattern_of-negation : (w : ℕ) (a : ℤ) → pattern_of w (neg_ℤ a) ≡ (0 + (2 ^ w - pattern_of w a)) % 2 ^ w
pattern_of-negation w a =
    let r = apart w a in
    let small = pattern_of-lt w a in
    pattern_of-same w (neg_ℤ a) (pos (0 + (2 ^ w - pattern_of w a))) (r.0 + 1) r.1 (omega (arith, same_in, same_out, sum_is_lem, neg_is, r.2))
    ∙ pattern_of-pos w _
