-- What `parse` gives of the numbers in headings and images.
use Rattle.std.proofs.Common.{◌≡◌, ◌⊎◌, inl, inr, ℕ, ◌<◌, ◌≤◌, ◌^◌, ◌==◌, ◌&&◌, ◌||◌, true, false, nat_le, List, [], ◌∷◌, length, Some, None, Result, Err, refl, sym, ap, subst, arith}
use Rattle.std.specs.List.{list_all}
use Rattle.std.specs.Result.{OkIff}
use Rattle.std.specs.Int.{is_in_range}
use Rattle.std.specs.Char.{is_ascii_digit, is_ascii_hexdigit, digit_value}
use Rattle.std.specs.Str.{all_ascii_digits}
use Rattle.std.specs.Str.Parse.{digits_value, AllDigits, IsNumeral, ParsesUnsigned, without_leading_plus}
use Rattle.std.proofs.lemmas.Bool.{and_parts, or_cases, leb-true, eqb-true, ne_eqb, lt-leb, le-ltb, lt-ltb}
use Rattle.std.proofs.lemmas.Int.Digits.{digits_value-lt}
use Rattle.std.proofs.lemmas.Str.Parse.{numerals_by_value, tells_all_ascii_digits, IsNumeralModel, parse_digits, without_leading_plus_none}
use Rattle.udb_bundle.specs.Bundles.{is_count, is_word}
use Rattle.udb_bundle.specs.Reading.{count_within, word_of}

-- all bytes are digits, also by the general word for it
pub digits-all : (xs : List ℕ) → list_all is_ascii_digit xs ≡ all_ascii_digits xs
digits-all [] = refl
digits-all (x ∷ xs) = ap (λ b. is_ascii_digit x && b) (digits-all xs)

own : IsNumeralModel (λ ds. all_ascii_digits ds ≡ true) (digits_value 10)
own = numerals_by_value (λ ds. all_ascii_digits ds ≡ true) tells_all_ascii_digits

-- a count is read where it fits
pub count_parsed : {E : Type 0} (k : ℕ) (ds : List ℕ) (r : Result ℕ E) → ParsesUnsigned k 10 ds r → is_count ds ≡ true → OkIff r ((0 < length ds) × (digits_value 10 ds < 2 ^ k)) (digits_value 10 ds)
count_parsed k ds r h c = parse_digits own k ds r h (and_parts _ _ c).0

pub count_some : (ds : List ℕ) → is_count ds ≡ true → 0 < length ds
count_some ds c = leb-true 1 (length ds) (and_parts _ _ (and_parts _ _ c).1).0

-- a count that a type of k bits doesn't hold is larger
pub count_unfit : {E : Type 0} (k : ℕ) (ds : List ℕ) (e : E) → ParsesUnsigned k 10 ds (Err e) → is_count ds ≡ true → 2 ^ k ≤ digits_value 10 ds
count_unfit k ds e h c = let no = count_parsed k ds (Err e) h c in let some = count_some ds c in from_not (λ l. no (some, l))
  where
    from_not : (digits_value 10 ds < 2 ^ k → ⊥) → 2 ^ k ≤ digits_value 10 ds
    from_not f = omega (arith, f)

-- a number past the type is none of its numbers
pub count_other : {E : Type 0} (view : ℕ) (ds bs : List ℕ) (n : ℕ) (e : E) → view ≡ digits_value 10 ds → bs ≡ ds → ParsesUnsigned 64 10 bs (Err e) → is_count ds ≡ true → n < 2 ^ 64 → false ≡ (view == n)
count_other view ds bs n e v q h c l =
    let large = count_unfit 64 bs e h (rw q c) in
    sym (ne_eqb view n (λ same. omega (arith, large, same, v, ap (digits_value 10) q)))

pub count_past : {E : Type 0} (most : ℕ) (ds : List ℕ) (e : E) → ParsesUnsigned 32 10 ds (Err e) → is_count ds ≡ true → most < 2 ^ 32 → count_within most ds ≡ None
count_past most ds e h c l = let large = count_unfit 32 ds e h c in rw (c, lt-leb (digits_value 10 ds) most (omega (arith, large))) refl

-- ---- words

in_range : (a b c : ℕ) → (nat_le a c && nat_le c b) ≡ true → (a ≤ c) × (c ≤ b)
in_range a b c h = let p = and_parts _ _ h in (leb-true a c p.0, leb-true c b p.1)

hex_digit : (c : ℕ) → is_ascii_hexdigit c ≡ true → digit_value c < 16
hex_digit c h = by_range (or_cases _ _ h)
  where
    digit : (48 ≤ c) × (c ≤ 57) → digit_value c < 16
    digit r = rw (le-ltb c 48 r.0, lt-ltb c 58 (omega (arith, r.1))) (omega (arith, r.0, r.1))

    upper : (65 ≤ c) × (c ≤ 70) → digit_value c < 16
    upper r = rw (le-ltb c 48 (omega (arith, r.0)), le-ltb c 58 (omega (arith, r.0)), le-ltb c 65 r.0, lt-ltb c 91 (omega (arith, r.1))) (omega (arith, r.0, r.1))

    lower : (97 ≤ c) × (c ≤ 102) → digit_value c < 16
    lower r = rw (le-ltb c 48 (omega (arith, r.0)), le-ltb c 58 (omega (arith, r.0)), le-ltb c 65 (omega (arith, r.0)), le-ltb c 91 (omega (arith, r.0)), le-ltb c 97 r.0, lt-ltb c 123 (omega (arith, r.1))) (omega (arith, r.0, r.1))

    upper_or_digit : (is_in_range 48 57 c ≡ true) ⊎ (is_in_range 65 70 c ≡ true) → digit_value c < 16
    upper_or_digit (inl h) = digit (in_range 48 57 c h)
    upper_or_digit (inr h) = upper (in_range 65 70 c h)

    by_range : ((is_in_range 48 57 c || is_in_range 65 70 c) ≡ true) ⊎ (is_in_range 97 102 c ≡ true) → digit_value c < 16
    by_range (inl h) = upper_or_digit (or_cases _ _ h)
    by_range (inr h) = lower (in_range 97 102 c h)

all_hex : (xs : List ℕ) → list_all is_ascii_hexdigit xs ≡ true → AllDigits 16 xs
all_hex [] h = tt
all_hex (x ∷ xs) h = let p = and_parts _ _ h in (hex_digit x p.0, all_hex xs p.1)

no_plus : (xs : List ℕ) → 0 < length xs → AllDigits 16 xs → without_leading_plus xs ≡ xs
no_plus [] l h = absurd (omega arith)
no_plus (x ∷ xs) l h = without_leading_plus_none (x ∷ xs) (λ e. let bad : digit_value 43 < 16 = subst (λ k. digit_value k < 16) e h.0 in absurd (omega (arith, bad)))

word_numeral : (xs : List ℕ) → is_word xs ≡ true → (length xs ≡ 8) × AllDigits 16 xs
word_numeral xs h = let p = and_parts _ _ h in (eqb-true (length xs) 8 p.0, all_hex xs p.1)

pub word_value : (xs : List ℕ) (n : ℕ) → (IsNumeral 16 (without_leading_plus xs) × (digits_value 16 (without_leading_plus xs) < 2 ^ 32)) × (n ≡ digits_value 16 (without_leading_plus xs)) → is_word xs ≡ true → Some n ≡ word_of xs
word_value xs n h w =
    let d = word_numeral xs w in
    let plain : n ≡ digits_value 16 xs = subst (λ ys. n ≡ digits_value 16 ys) (no_plus xs (omega (arith, d.0)) d.1) h.1 in
    rw w (ap Some plain)

pub word_read : {E : Type 0} (xs : List ℕ) (e : E) → ParsesUnsigned 32 16 xs (Err e) → is_word xs ≡ true → ⊥
word_read xs e h w =
    let d = word_numeral xs w in
    let small : digits_value 16 xs < 16 ^ 8 = subst (λ k. digits_value 16 xs < 16 ^ k) d.0 (digits_value-lt 16 xs d.1) in
    h (subst (λ ys. IsNumeral 16 ys × (digits_value 16 ys < 2 ^ 32)) (sym (no_plus xs (omega (arith, d.0)) d.1)) ((omega (arith, d.0), d.1), small))
