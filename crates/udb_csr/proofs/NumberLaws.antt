-- The width of the registers as a width of a number.
use Rattle.std.proofs.Common.{◌≡◌, ◌⊎◌, ◌≤◌, ℕ, inl, inr, arith}

pub positive-width : (n m : ℕ) → n ≡ m → (m ≡ 32) ⊎ (m ≡ 64) → 1 ≤ n
positive-width n m e (inl h) = omega (arith, e, h)
positive-width n m e (inr h) = omega (arith, e, h)

pub small-width : (n m : ℕ) → n ≡ m → (m ≡ 32) ⊎ (m ≡ 64) → n ≤ 64
small-width n m e (inl h) = omega (arith, e, h)
small-width n m e (inr h) = omega (arith, e, h)
