-- Numbers, parts and spaces of the texts of versions and requirements.
use Rattle.std.proofs.Common.{◌≡◌, ◌⊎◌, IsTrue, inl, inr, ℕ, nat_lt, ◌+◌, ◌-◌, ◌*◌, ◌^◌, ◌<◌, ◌≤◌, ◌==◌, Bool, true, false, ◌&&◌, List, [], ◌∷◌, map, Option, Some, None, length, get_or, take, drop, refl, sym, ap, ◌∙◌, cond, subst, arith}
use Rattle.std.specs.List.{list_all, slice_split, onto_first, position_or_len, position}
use Rattle.std.specs.Str.{all_ascii_digits}
use Rattle.std.specs.Str.Parse.{digits_value}
use Rattle.std.specs.Char.{is_ascii_digit, digit_value}
use Rattle.std.proofs.lemmas.Bool.{cases_lt, and_parts, leb-true, le-ltb, lt-ltb}
use Rattle.std.proofs.lemmas.Option.{same_Some, none-some}
use Rattle.std.proofs.lemmas.List.{drop_more, drop-drop}
use Rattle.std.proofs.lemmas.List.Recursion.{and_at}
use Rattle.std.proofs.lemmas.List.Splits.{slice_split_first}
use Rattle.std.proofs.lemmas.Int.Digits.{digits_value_more}
use Rattle.std.proofs.lemmas.Grind.{pow_more}
use Rattle.std.proofs.Math.Nat.{pow-le-pow_right}
use Rattle.udb_spec.specs.Grammar.{is_number, number_of, version_of_parts}
use Rattle.udb_cond.specs.Requirements.{without_spaces}
use Rattle.udb_cond.specs.Parts.{is_dot, parts_of, IsFirstPart}

-- all bytes are digits, also by the general word for it
pub digits-all : (xs : List ℕ) → list_all is_ascii_digit xs ≡ all_ascii_digits xs
digits-all [] = refl
digits-all (x ∷ xs) = ap (λ b. is_ascii_digit x && b) (digits-all xs)

pub digit-range : (c : ℕ) → is_ascii_digit c ≡ true → (48 ≤ c) × (c ≤ 57)
digit-range c h = let both = and_parts _ _ h in (leb-true 48 c both.0, leb-true c 57 both.1)

digit-value : (c : ℕ) → 48 ≤ c → c ≤ 57 → digit_value c ≡ c - 48
digit-value c a b = rw (le-ltb c 48 a, lt-ltb c 58 (omega arith)) refl

pub digit-at : (xs : List ℕ) (i : ℕ) → all_ascii_digits xs ≡ true → i < length xs → (48 ≤ get_or xs i 0) × (get_or xs i 0 ≤ 57)
digit-at xs i h lt = digit-range (get_or xs i 0) (and_at all_ascii_digits is_ascii_digit refl (λ _ _. refl) xs i 0 lt h)

-- the value so far is below the power of ten of as many digits
pub value-more : (xs : List ℕ) (i v : ℕ) → all_ascii_digits xs ≡ true → i < length xs → length xs ≤ 9 → v ≡ digits_value 10 (take i xs) → v < 10 ^ i → (v * 10 + (get_or xs i 0 - 48) ≡ digits_value 10 (take (i + 1) xs)) × (v * 10 + (get_or xs i 0 - 48) < 10 ^ (i + 1))
value-more xs i v h lt short is below =
    let d = digit-at xs i h lt in (
      ap (λ n. n * 10 + (get_or xs i 0 - 48)) is ∙ ap (λ n. digits_value 10 (take i xs) * 10 + n) (sym (digit-value (get_or xs i 0) d.0 d.1)) ∙ sym (digits_value_more 10 xs i lt),
      rw (pow_more 10 i) (omega (arith, d.0, d.1, below)),
    )

-- one more digit still fits
pub digit-fits : (i v d : ℕ) → i < 9 → v < 10 ^ i → d ≤ 9 → v * 10 + d < 10 ^ 9
digit-fits i v d lt below small =
    let top : 10 ^ i ≤ 10 ^ 8 = pow-le-pow_right (omega arith) {i = i} {j = 8} (omega arith) in
    omega arith

-- where no byte is a dot there is one part
pub split-whole : (xs : List ℕ) → length xs ≤ position_or_len is_dot xs → slice_split is_dot xs ≡ xs ∷ []
split-whole [] h = refl
split-whole (x ∷ xs) h = split-step x xs (x == 46) refl (split-whole xs) h where
  split-step : (y : ℕ) (ys : List ℕ) (b : Bool) → (y == 46) ≡ b → (length ys ≤ position_or_len is_dot ys → slice_split is_dot ys ≡ ys ∷ []) → length (y ∷ ys) ≤ position_or_len is_dot (y ∷ ys) → slice_split is_dot (y ∷ ys) ≡ (y ∷ ys) ∷ []
  split-step y ys true e rest le = let f : length (y ∷ ys) ≤ 0 = rw e at le in absurd (omega arith)
  split-step y ys false e rest le = let f : length (y ∷ ys) ≤ 1 + position_or_len is_dot ys = rw e at le in rw e (ap (λ parts. onto_first y parts) (rest (omega arith)))

-- the first dot ends the first part
pub split-first : (xs : List ℕ) (at : ℕ) → at ≡ position_or_len is_dot xs → at < length xs → slice_split is_dot xs ≡ take at xs ∷ slice_split is_dot (drop 1 (drop at xs))
split-first xs at is lt =
    let lt' : position_or_len is_dot xs < length xs = omega arith in
    slice_split_first is_dot xs 0 lt' ∙ rw (drop-drop 1 at xs) (rw is refl)

-- a space in front is passed over, and no other byte
pub spaces-next : (xs : List ℕ) (i : ℕ) → i < length xs → get_or xs i 0 ≡ 32 → without_spaces (drop (i + 1) xs) ≡ without_spaces (drop i xs)
spaces-next xs i lt is = rw (drop_more xs i 0 lt) (rw is refl)

pub spaces-end : (xs : List ℕ) (i : ℕ) → i < length xs → (get_or xs i 0 == 32) ≡ false → without_spaces (drop i xs) ≡ drop i xs
spaces-end xs i lt ne = rw (drop_more xs i 0 lt) (rw ne refl)

-- where a first dot was found, and where none was
found-step : (p n at : ℕ) → (p < n) ⊎ (n ≤ p) → cond (nat_lt p n) (Some p) None ≡ Some at → (at ≡ p) × (at < n)
found-step p n at (inl l) e = let f : Some p ≡ Some at = rw (lt-ltb p n l) at e in (cc, subst (λ k. k < n) (same_Some p at f) l)
found-step p n at (inr l) e = let f : None ≡ Some at = rw (le-ltb p n l) at e in absurd (none-some at f)

missing-step : (p n : ℕ) → (p < n) ⊎ (n ≤ p) → cond (nat_lt p n) (Some p) None ≡ None → n ≤ p
missing-step p n (inl l) e = let f : Some p ≡ None = rw (lt-ltb p n l) at e in absurd (none-some p (sym f))
missing-step p n (inr l) e = l

pub dot-found : (xs : List ℕ) (at : ℕ) → position is_dot xs ≡ Some at → (at ≡ position_or_len is_dot xs) × (at < length xs)
dot-found xs at e = found-step (position_or_len is_dot xs) (length xs) at (cases_lt (position_or_len is_dot xs) (length xs)) e

pub no-dot : (xs : List ℕ) → position is_dot xs ≡ None → length xs ≤ position_or_len is_dot xs
no-dot xs e = missing-step (position_or_len is_dot xs) (length xs) (cases_lt (position_or_len is_dot xs) (length xs)) e

pub more-parts : (text part : List ℕ) (rest : Option (List ℕ)) (after : List ℕ) (n : ℕ) → IsFirstPart text part rest → rest ≡ Some after → number_of part ≡ Some n → parts_of text ≡ Some n ∷ parts_of after
more-parts text part rest after n first is number =
    let split : slice_split is_dot text ≡ part ∷ slice_split is_dot after = subst (λ r. IsFirstPart text part r) is first in
    ap (λ ps. map number_of ps) split ∙ ap (λ o. o ∷ parts_of after) number

pub last-part : (text part : List ℕ) (rest : Option (List ℕ)) (n : ℕ) → IsFirstPart text part rest → rest ≡ None → number_of part ≡ Some n → parts_of text ≡ Some n ∷ []
last-part text part rest n first is number =
    let split : slice_split is_dot text ≡ part ∷ [] = subst (λ r. IsFirstPart text part r) is first in
    ap (λ ps. map number_of ps) split ∙ ap (λ o. o ∷ []) number

pub bad-part : (text part : List ℕ) (rest : Option (List ℕ)) → IsFirstPart text part rest → number_of part ≡ None → (others : List (Option ℕ)) × (parts_of text ≡ None ∷ others)
bad-part text part None first number = ([], ap (λ ps. map number_of ps) first ∙ ap (λ o. o ∷ []) number)
bad-part text part (Some rest) first number = (parts_of rest, ap (λ ps. map number_of ps) first ∙ ap (λ o. o ∷ parts_of rest) number)

part-step : (x : ℕ) (xs : List ℕ) (b : Bool) → (x == 46) ≡ b → (p : List ℕ) × (ps : List (List ℕ)) × (slice_split is_dot xs ≡ p ∷ ps) → (p : List ℕ) × (ps : List (List ℕ)) × (slice_split is_dot (x ∷ xs) ≡ p ∷ ps)
part-step x xs true e h = ([], slice_split is_dot xs, rw e refl)
part-step x xs false e h = (x ∷ h.0, h.1, rw e (ap (λ parts. onto_first x parts) h.2))

-- a text has a part
pub some-part : (text : List ℕ) → (p : List ℕ) × (ps : List (List ℕ)) × (slice_split is_dot text ≡ p ∷ ps)
some-part [] = ([], [], refl)
some-part (x ∷ xs) = part-step x xs (x == 46) refl (some-part xs)

-- what a number's text is
pub number-digits : (text : List ℕ) → IsTrue (is_number text) → (all_ascii_digits text ≡ true) × (length text ≤ 9)
number-digits text h =
    let a = and_parts _ _ h in
    let b = and_parts _ _ a.1 in
    let d = and_parts _ _ b.1 in
    (a.0, leb-true (length text) 9 d.0)

-- more than three parts are no version
pub four-parts : (a b c : ℕ) (text : List ℕ) → version_of_parts (Some a ∷ Some b ∷ Some c ∷ parts_of text) ≡ None
four-parts a b c text = let part = some-part text in rw part.2 refl
