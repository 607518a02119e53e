-- The number that the digits of a length write, digit by digit.
use Rattle.std.proofs.Common.{◌≡◌, ℕ, zero, suc, ◌+◌, ◌-◌, ◌*◌, ◌^◌, ◌<◌, ◌≤◌, List, [], ◌∷◌, length, take, Bool, true, false, refl, ap, ◌∙◌, arith, add-one, get_or}
use Rattle.std.specs.Prelude.{◌&&◌, nat_le}
use Rattle.std.specs.List.{list_all}
use Rattle.std.specs.Char.{is_ascii_digit, digit_value}
use Rattle.std.specs.Int.{IsInRange}
use Rattle.std.specs.Str.Parse.{digits_value}
use Rattle.std.proofs.Math.Nat.{pow-le-pow_right, pow-suc}
use Rattle.std.proofs.lemmas.Bool.Decides.{nat_tests}
use Rattle.std.proofs.lemmas.Int.Digits.{digits_value_more}
use Rattle.std.proofs.lemmas.Str.{digit_value_digit}
use Rattle.udb_http.specs.Framing.{is_length}

pub both_true : (x y : Bool) → (x && y) ≡ true → (x ≡ true) × (y ≡ true)
both_true true y h = (refl, h)
both_true false y h = absurd cc

in_range : (d : ℕ) → is_ascii_digit d ≡ true → IsInRange 48 57 d
in_range d h = let t = both_true (nat_le 48 d) (nat_le d 57) h in (grind (arith, nat_tests, t.0), grind (arith, nat_tests, t.1))

digit_at : (ds : List ℕ) (i : ℕ) → list_all is_ascii_digit ds ≡ true → i < length ds → IsInRange 48 57 (get_or ds i 0)
digit_at [] i h lt = absurd (omega (arith, lt))
digit_at (d ∷ ds) zero h lt = in_range d (both_true (is_ascii_digit d) (list_all is_ascii_digit ds) h).0
digit_at (d ∷ ds) (suc i) h lt = digit_at ds i (both_true (is_ascii_digit d) (list_all is_ascii_digit ds) h).1 (omega (arith, lt))

pub record Step (ds : List ℕ) (i n d : ℕ) : Type 0 where
  pub low : 48 ≤ d
  pub value : n * 10 + (d - 48) ≡ digits_value 10 (take (i + 1) ds)
  pub below : n * 10 + (d - 48) < 10 ^ (i + 1)
  pub fits : n * 10 + (d - 48) < 2 ^ 64

pub step : (ds : List ℕ) (i n d : ℕ) → is_length ds ≡ true → i < length ds → n ≡ digits_value 10 (take i ds) → n < 10 ^ i → d ≡ get_or ds i 0 → Step ds i n d
step ds i n d h lt value below at =
    let a = both_true (nat_le 1 (length ds)) (nat_le (length ds) 18 && list_all is_ascii_digit ds) h in
    let b = both_true (nat_le (length ds) 18) (list_all is_ascii_digit ds) a.1 in
    let short : length ds ≤ 18 = grind (arith, nat_tests, b.0) in
    let digit = digit_at ds i b.1 lt in
    let low : 48 ≤ d = omega (arith, at, digit.0) in
    let high : d ≤ 57 = omega (arith, at, digit.1) in
    let is : digit_value (get_or ds i 0) ≡ d - 48 = omega (arith, at, digit_value_digit (get_or ds i 0) digit) in
    let more = digits_value_more 10 ds i lt in
    let next : 10 ^ (i + 1) ≡ 10 ^ i * 10 = ap (λ k. 10 ^ k) (add-one i) ∙ pow-suc 10 i in
    let ten : 0 < 10 = omega arith in
    let few : i + 1 ≤ 18 = omega (arith, lt, short) in
    let top : 10 ^ (i + 1) ≤ 10 ^ 18 = pow-le-pow_right ten few in
    let below' : n * 10 + (d - 48) < 10 ^ (i + 1) = omega (arith, next, below, high, low) in
    record { low = low; value = omega (arith, more, is, value); below = below'; fits = omega (arith, below', top) }
