-- A shift stops at the width: further places would change nothing, so each shift is that of the whole number by all its places.
use Rattle.std.proofs.Common.{◌≡◌, ℕ, ◌+◌, ◌-◌, ◌*◌, ◌/◌, ◌%◌, ◌^◌, ◌<◌, ◌≤◌, min, pos, refl, sym, ap, subst, ◌∙◌, arith, ⊎_elim}
use Rattle.std.specs.Prelude.{ℤ, negsuc, ◌*ℤ◌}
use Rattle.std.specs.Int.{bit_at, int_div_euclid}
use Rattle.std.proofs.Math.Nat.{div-eq_of_lt, mul-mod_left, zero-mod}
use Rattle.std.proofs.Math.Pow.{pow_mono}
use Rattle.std.proofs.lemmas.Nat.{pow-add}
use Rattle.std.proofs.lemmas.Bool.{cases_lt}
use Rattle.idl_bits.specs.Number.{pattern_of}
use Rattle.idl_bits.proofs.Modulo.{pattern_of-pos, pattern_of-product}

-- below the width nothing is cut; from there on all is out
at_places : (w k : ℕ) (P : ℕ → Type 0) → P k → (w ≤ k → P w) → P (min k w)
at_places w k P below past = ⊎_elim
    (λ h. let e : k ≡ min k w = omega arith in subst P e below)
    (λ h. let e : w ≡ min k w = omega arith in subst P e (past h))
    (cases_lt k w)

module _ (w k : ℕ) where
  pub left-stops : (z : ℤ) → pattern_of w (z *ℤ pos (2 ^ min k w)) ≡ pattern_of w (z *ℤ pos (2 ^ k))
  left-stops z = at_places w k (λ i. pattern_of w (z *ℤ pos (2 ^ i)) ≡ pattern_of w (z *ℤ pos (2 ^ k))) refl (λ h. out w (omega arith) ∙ sym (out k h))
    where
      out : (i : ℕ) → w ≤ i → pattern_of w (z *ℤ pos (2 ^ i)) ≡ 0
      out i h =
          let cut : i ≡ (i - w) + w = omega arith in
          let power : 2 ^ i ≡ 2 ^ (i - w) * 2 ^ w = ap (λ j. 2 ^ j) cut ∙ pow-add 2 (i - w) w in
          let none : pattern_of w (pos (2 ^ i)) ≡ 0 = pattern_of-pos w (2 ^ i) ∙ ap (λ n. n % 2 ^ w) power ∙ mul-mod_left (2 ^ (i - w)) (2 ^ w) in
          let nothing : pattern_of w z * 0 ≡ 0 = omega arith in
          pattern_of-product w z (pos (2 ^ i)) ∙ ap (λ n. (pattern_of w z * n) % 2 ^ w) none ∙ ap (λ n. n % 2 ^ w) nothing ∙ zero-mod (2 ^ w)

  pub right-stops : (p : ℕ) → p < 2 ^ w → p / 2 ^ min k w ≡ p / 2 ^ k
  right-stops p l = at_places w k (λ i. p / 2 ^ i ≡ p / 2 ^ k) refl (λ h. div-eq_of_lt l ∙ sym (div-eq_of_lt (wide h)))
    where
      wide : w ≤ k → p < 2 ^ k
      wide h = let more : 2 ^ w ≤ 2 ^ k = pow_mono h in omega arith

  pub sign-stops : (p : ℕ) → p < 2 ^ w → (int_div_euclid (pos p) (pos (2 ^ min k w)) ≡ int_div_euclid (pos p) (pos (2 ^ k))) × (int_div_euclid (negsuc p) (pos (2 ^ min k w)) ≡ int_div_euclid (negsuc p) (pos (2 ^ k)))
  sign-stops p l = (ap pos (right-stops p l), ap negsuc (right-stops p l))

  pub bit-stops : (p : ℕ) → p < 2 ^ w → bit_at p (min k w) ≡ bit_at p k
  bit-stops p l = ap (λ n. n % 2) (right-stops p l)
