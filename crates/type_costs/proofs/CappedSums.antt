-- Capped sums and products of capped numbers.
use Rattle.std.proofs.Common.{◌≡◌, ◌<◌, ◌≤◌, ◌+◌, ◌*◌, ℕ, zero, suc, sym, ap, ◌∙◌, ◌⊎◌, inl, inr, arith}
use Rattle.std.proofs.Math.Nat.{min-eq_left, min-eq_right, mul-le-mul_right}
use Rattle.std.proofs.lemmas.Bool.{cases_lt}
use Rattle.type_costs.specs.Capped.{capped}

pub small : (n : ℕ) → n ≤ 1048577 → capped n ≡ n
unfolding capped
small n h = min-eq_right h

pub large : (n : ℕ) → 1048577 ≤ n → capped n ≡ 1048577
unfolding capped
large n h = min-eq_left h

-- a capped part of a sum
pub capped-right : (a b : ℕ) → capped (a + capped b) ≡ capped (a + b)
capped-right a b = at (cases_lt b 1048577)
  where
    at : (b < 1048577) ⊎ (1048577 ≤ b) → capped (a + capped b) ≡ capped (a + b)
    at (inl h) = ap (λ n. capped (a + n)) (small b (omega arith))
    at (inr h) = large (a + capped b) (omega (arith, large b h)) ∙ sym (large (a + b) (omega arith))

pub capped-left : (a b : ℕ) → capped (capped a + b) ≡ capped (a + b)
capped-left a b = at (cases_lt a 1048577)
  where
    at : (a < 1048577) ⊎ (1048577 ≤ a) → capped (capped a + b) ≡ capped (a + b)
    at (inl h) = ap (λ n. capped (n + b)) (small a (omega arith))
    at (inr h) = large (capped a + b) (omega (arith, large a h)) ∙ sym (large (a + b) (omega arith))

pub capped-both : (a b : ℕ) → capped (capped a + capped b) ≡ capped (a + b)
capped-both a b = capped-left a (capped b) ∙ capped-right a b

-- as often as a number says
pub capped-times : (n b : ℕ) → capped (n * capped b) ≡ capped (n * b)
capped-times zero b = ap capped (omega arith)
capped-times (suc n) b = at (cases_lt b 1048577)
  where
    at : (b < 1048577) ⊎ (1048577 ≤ b) → capped (suc n * capped b) ≡ capped (suc n * b)
    at (inl h) = ap (λ m. capped (suc n * m)) (small b (omega arith))
    at (inr h) =
        let own : 1 * capped b ≤ suc n * capped b = mul-le-mul_right (capped b) (omega arith) in
        let full : 1 * b ≤ suc n * b = mul-le-mul_right b (omega arith) in
        large (suc n * capped b) (omega (arith, large b h)) ∙ sym (large (suc n * b) (omega arith))

pub capped-again : (n : ℕ) → capped (capped n) ≡ capped n
capped-again n = ap capped (omega arith) ∙ (capped-right 0 n ∙ ap capped (omega arith))

pub ruleset sum_laws = (small, large)
