-- Masks of ones, and where the search for the least width begins.
use Rattle.std.proofs.Common.{◌≡◌, ℕ, ◌+◌, ◌-◌, ◌/◌, ◌%◌, ◌^◌, ◌≤◌, bit_and, refl, ap, arith}
use Rattle.std.proofs.lemmas.Nat.{pow_pos}
use Rattle.std.proofs.lemmas.Nat.Bits.{ones_shr}
use Rattle.idl_bits.proofs.Patterns.{and-ones}
use Rattle.idl_spec.specs.Values.{least_width, width_up_to}

-- all ones of u bits, without all but w of them, keep the rest
pub masked : (u w n : ℕ) → w ≤ u → bit_and n ((2 ^ u - 1) / 2 ^ (u - w)) ≡ n % 2 ^ w
masked u w n h =
    let inside : u - w ≤ u = omega arith in
    let back : u - (u - w) ≡ w = omega arith in
    let some = pow_pos w in
    let ones : (2 ^ u - 1) / 2 ^ (u - w) + 1 ≡ 2 ^ w = omega (arith, ones_shr u (u - w) inside, ap (λ k. 2 ^ k) back) in
    and-ones w _ n ones

pub width-start : (n : ℕ) → least_width n ≡ width_up_to 128 n
unfolding least_width
width-start n = refl
