-- Numbers of so many bits.
use Rattle.std.proofs.Common.{◌≡◌, ◌∙◌, ℕ, ◌+◌, ◌*◌, ◌/◌, ◌^◌, ◌<◌, ◌≤◌, Bool, true, false, ◌⊎◌, inl, inr, nat_eq, nat_le, nat_lt, arith, refl, sym}
use Rattle.std.specs.Bool.{Decides}
use Rattle.std.proofs.lemmas.Bool.{false≢true}
use Rattle.std.proofs.Math.Pow.{pow_mono}
use Rattle.std.proofs.Math.Nat.{div-lt_iff_lt-mul}
use Rattle.std.proofs.lemmas.Nat.{pow_pos}
use Rattle.std.proofs.lemmas.Bool.Decides.{Decides-eqb, Decides-ltb, leb_tells}

same-truth : (p q : Bool) → (p ≡ true → q ≡ true) → (q ≡ true → p ≡ true) → p ≡ q
same-truth true q to from = sym (to refl)
same-truth false true to from = from refl
same-truth false false to from = refl

-- a number of 64 bits has at most that many
pub few-bits : (n bits : ℕ) → 64 ≤ bits → n < 2 ^ 64 → nat_lt n (2 ^ bits) ≡ true
few-bits n bits wide small = (Decides-ltb n (2 ^ bits)).1 (omega (arith, small, pow_mono wide))

pub shifted-out : (n bits : ℕ) → nat_eq (n / 2 ^ bits) 0 ≡ nat_lt n (2 ^ bits)
shifted-out n bits = same-truth (nat_eq (n / 2 ^ bits) 0) (nat_lt n (2 ^ bits))
    (λ e. (let none : n / 2 ^ bits ≡ 0 = (Decides-eqb (n / 2 ^ bits) 0).0 e in
    let below : n < 1 * 2 ^ bits = (div-lt_iff_lt-mul (pow_pos bits)).0 (omega (arith, none)) in
    (Decides-ltb n (2 ^ bits)).1 (omega (arith, below))))
    (λ e. (let below : n < 2 ^ bits = (Decides-ltb n (2 ^ bits)).0 e in
    let none : n / 2 ^ bits < 1 = (div-lt_iff_lt-mul (pow_pos bits)).1 (omega (arith, below)) in
    (Decides-eqb (n / 2 ^ bits) 0).1 (omega (arith, none))))

-- ---- comparisons

either : (a b : ℕ) → ((nat_le a b ≡ true) × (a ≤ b)) ⊎ ((nat_le a b ≡ false) × (b < a)) → Decides (nat_le a b) (a ≤ b)
either a b (inl h) = (λ _. h.1, λ _. h.0)
either a b (inr f) = (λ e. absurd (false≢true (sym f.0 ∙ e)), λ h. absurd (omega (arith, h, f.1)))

pub at-most-decides : (a b : ℕ) → Decides (nat_le a b) (a ≤ b)
at-most-decides a b = either a b (leb_tells a b)
