-- A number is read from its decimal digits.
use Rattle.std.proofs.Common.{◌≡◌, ℕ, suc, ◌+◌, ◌-◌, ◌*◌, ◌/◌, ◌%◌, ◌^◌, ◌<◌, ◌≤◌, Bool, true, false, ◌&&◌, ◌||◌, eqb, IsTrue, List, [], ◌∷◌, ◌++◌, Option, Some, None, option_and_then, option_map, ℤ, pos, neg_ℤ, ◌⊎◌, inl, inr, refl, sym, ap, ◌∙◌, arith, le-leb}
use Rattle.std.proofs.lemmas.Bool.{and_left, or_from, or_parts, ne_eqb, cases_lt}
use Rattle.std.proofs.lemmas.Fmt.{decimal_by_steps, decimal_digit}
use Rattle.std.specs.Fmt.{decimal}
use Rattle.std.specs.Prelude.{negsuc}
use Rattle.yaml_spec.specs.declared.tree.Tree.TheVariants as tree
use Rattle.yaml_spec.specs.Line.{may_begin, is_sign, is_mark, number_or_text, has, has_pair, ends_in, begins, is_plain, digit, digits, decimal_to, at_most, number, meaning}

digit_of : (d : ℕ) → d < 10 → digit (48 + d) ≡ Some d
digit_of d lt = let value : 48 + d - 48 ≡ d = omega arith in rw (le-leb 48 (48 + d) (omega arith), le-leb (48 + d) 57 (omega arith), value) refl

digits_push : (ds : List ℕ) (m n c d : ℕ) → digits digit 10 m ds ≡ Some n → digit c ≡ Some d → digits digit 10 m (ds ++ c ∷ []) ≡ Some (n * 10 + d)
digits_push [] m n c d e is = let same : m ≡ n = cc in rw (is, same) refl
digits_push (x ∷ ds) m n c d e is = go (digit x) e (λ k e. digits_push ds (m * 10 + k) n c d e is)
  where
    go : (o : Option ℕ) → option_and_then (λ k. digits digit 10 (m * 10 + k) ds) o ≡ Some n → ((k : ℕ) → digits digit 10 (m * 10 + k) ds ≡ Some n → digits digit 10 (m * 10 + k) (ds ++ c ∷ []) ≡ Some (n * 10 + d)) → option_and_then (λ k. digits digit 10 (m * 10 + k) (ds ++ c ∷ [])) o ≡ Some (n * 10 + d)
    go None e again = absurd cc
    go (Some k) e again = again k e

-- digits alone
abbrev pub AreDigits : List ℕ → Type 0
AreDigits [] = Unit {0}
AreDigits (c ∷ s) = (48 ≤ c) × (c ≤ 57) × AreDigits s

are_push : (ds : List ℕ) (c : ℕ) → AreDigits ds → 48 ≤ c → c ≤ 57 → AreDigits (ds ++ c ∷ [])
are_push [] c q low high = (low, high, tt)
are_push (x ∷ ds) c q low high = (q.0, q.1, are_push ds c q.2 low high)

record Digits (n : ℕ) (ds : List ℕ) : Type 0 where
  value : digits digit 10 0 ds ≡ Some n
  are : AreDigits ds
  first : 0 < n → (c : ℕ) × (s : List ℕ) × (ds ≡ c ∷ s) × (49 ≤ c) × (c ≤ 57)
  long : 10 ≤ n → (c : ℕ) × (d : ℕ) × (s : List ℕ) × (ds ≡ c ∷ d ∷ s)

digits_one : (n : ℕ) → n < 10 → Digits n ((48 + n) ∷ [])
digits_one n lt = record {
  value = let zero_is : 0 * 10 + n ≡ n = omega arith in rw (digit_of n lt) (ap (λ (z : ℕ). Some z) zero_is);
  are = (omega arith, omega arith, tt);
  first = λ some. (48 + n, [], refl, omega arith, omega arith);
  long = λ ten. absurd (omega arith);
}

digits_more : (n : ℕ) (ds : List ℕ) → 10 ≤ n → Digits (n / 10) ds → Digits n (ds ++ ((48 + n % 10) ∷ []))
digits_more n ds ten q =
    let small : n % 10 < 10 = omega arith in
    let whole : n / 10 * 10 + n % 10 ≡ n = omega arith in
    let begun = q.first (omega arith) in
    record {
      value = digits_push ds 0 (n / 10) (48 + n % 10) (n % 10) q.value (digit_of (n % 10) small) ∙ ap (λ (z : ℕ). Some z) whole;
      are = are_push ds (48 + n % 10) q.are (omega arith) (omega arith);
      first = λ some. (begun.0, begun.1 ++ (48 + n % 10) ∷ [], ap (λ (z : List ℕ). z ++ (48 + n % 10) ∷ []) begun.2, begun.3, begun.4);
      long = λ ten. two begun.0 begun.1 begun.2;
    }
  where
    two : (c : ℕ) (s : List ℕ) → ds ≡ c ∷ s → (c : ℕ) × (d : ℕ) × (s : List ℕ) × (ds ++ (48 + n % 10) ∷ [] ≡ c ∷ d ∷ s)
    two c [] e = (c, 48 + n % 10, [], ap (λ (z : List ℕ). z ++ (48 + n % 10) ∷ []) e)
    two c (d ∷ s) e = (c, d, s ++ (48 + n % 10) ∷ [], ap (λ (z : List ℕ). z ++ (48 + n % 10) ∷ []) e)

decimal_digits : (n : ℕ) → n < 2 ^ 64 → Digits n (decimal n)
decimal_digits n lt = decimal_by_steps Digits digits_one digits_more n lt

no_zero : (limit n c : ℕ) (s : List ℕ) → 49 ≤ c → digits digit 10 0 (c ∷ s) ≡ Some n → n ≤ limit → decimal_to limit (c ∷ s) ≡ Some n
no_zero limit n c s large e le = rw (ne_eqb c 48 (λ is. omega arith)) (ap (at_most limit) e ∙ rw (le-leb n limit le) refl)

number_small : (n : ℕ) → n < 10 → number ((48 + n) ∷ []) ≡ Some (pos n)
number_small n lt = rw (digit_of n lt) refl

number_large : (n c d : ℕ) (s : List ℕ) → n < 2 ^ 64 → 49 ≤ c → c ≤ 57 → digits digit 10 0 (c ∷ d ∷ s) ≡ Some n → number (c ∷ d ∷ s) ≡ Some (pos n)
number_large n c d s lt low high e =
    rw (ne_eqb c 45 (λ is. omega arith), and_left (eqb c 48) (eqb d 120) (ne_eqb c 48 (λ is. omega arith))) (ap (option_map pos) (no_zero (2 ^ 64 - 1) n c (d ∷ s) low e (omega arith)))

number_pos : (n : ℕ) → n < 2 ^ 64 → number (decimal n) ≡ Some (pos n)
number_pos n lt = elim (cases_lt n 10) [
  | inl small ↦ ap number (decimal_digit n small) ∙ number_small n small
  | inr large ↦ (let q = decimal_digits n lt in let first = q.first (omega arith) in let long = q.long large in
      let same : first.0 ≡ long.0 = head_same first.0 long.0 first.1 (long.1 ∷ long.2) (sym first.2 ∙ long.3) in
      ap number long.3 ∙ number_large n long.0 long.1 long.2 lt (omega (arith, first.3, same)) (omega (arith, first.4, same)) (ap (digits digit 10 0) (sym long.3) ∙ q.value))
]
  where
    head_same : (a b : ℕ) (s t : List ℕ) → a ∷ s ≡ b ∷ t → a ≡ b
    head_same a b s t e = cc

number_neg : (n c : ℕ) (s : List ℕ) → n < 2 ^ 63 → 49 ≤ c → digits digit 10 0 (c ∷ s) ≡ Some (suc n) → number (45 ∷ c ∷ s) ≡ Some (negsuc n)
number_neg n c s lt low e = ap (option_map (λ n. neg_ℤ (pos n))) (no_zero (2 ^ 63) (suc n) c s low e (omega arith))

-- ---- they are plain scalars

has_none : (a : ℕ) (ds : List ℕ) → AreDigits ds → (a < 48) ⊎ (57 < a) → has a ds ≡ false
has_none a [] q out = refl
has_none a (c ∷ s) q out = or_from (eqb c a) (has a s) (ne_eqb c a (λ is. differs out is)) (has_none a s q.2 out)
  where
    differs : (a < 48) ⊎ (57 < a) → c ≡ a → ⊥
    differs (inl low) is = let one = q.0 in omega arith
    differs (inr high) is = let one = q.1 in omega arith

pub pair_none : (a b : ℕ) (s : List ℕ) → has a s ≡ false → has_pair a b s ≡ false
pair_none a b [] e = refl
pair_none a b (c ∷ s) e = let parts = or_parts (eqb c a) (has a s) e in or_from (eqb c a && begins b s) (has_pair a b s) (and_left (eqb c a) (begins b s) parts.0) (pair_none a b s parts.1)

pub ends_none : (a : ℕ) (s : List ℕ) → has a s ≡ false → ends_in a s ≡ false
ends_none a [] e = refl
ends_none a (c ∷ []) e = (or_parts (eqb c a) false e).0
ends_none a (c ∷ d ∷ s) e = ends_none a (d ∷ s) (or_parts (eqb c a) (has a (d ∷ s)) e).1

-- no byte of these is a tab, a colon or a space
record Unmarked (s : List ℕ) : Type 0 where
  tab : has 9 s ≡ false
  colon : has 58 s ≡ false
  space : has 32 s ≡ false

plain_unmarked : (s : List ℕ) → may_begin s [] ≡ true → Unmarked s → IsTrue (is_plain s [])
plain_unmarked s begun q = rw (begun, q.tab, pair_none 58 32 s q.colon, pair_none 32 35 s q.space, ends_none 32 s q.space, ends_none 58 s q.colon) refl

-- a digit is no sign and no mark
sign_out : (c a : ℕ) → 48 ≤ c → c ≤ 57 → (a < 48) ⊎ (57 < a) → eqb c a ≡ false
sign_out c a low high (inl out) = ne_eqb c a (λ is. omega arith)
sign_out c a low high (inr out) = ne_eqb c a (λ is. omega arith)

no_sign : (c : ℕ) → 48 ≤ c → c ≤ 57 → is_sign c ≡ false
no_sign c low high =
    rw (
      sign_out c 44 low high (inl (omega arith)),
      sign_out c 91 low high (inr (omega arith)),
      sign_out c 93 low high (inr (omega arith)),
      sign_out c 123 low high (inr (omega arith)),
      sign_out c 125 low high (inr (omega arith)),
      sign_out c 35 low high (inl (omega arith)),
      sign_out c 38 low high (inl (omega arith)),
      sign_out c 42 low high (inl (omega arith)),
      sign_out c 33 low high (inl (omega arith)),
      sign_out c 124 low high (inr (omega arith)),
      sign_out c 62 low high (inr (omega arith)),
      sign_out c 39 low high (inl (omega arith)),
      sign_out c 34 low high (inl (omega arith)),
      sign_out c 37 low high (inl (omega arith)),
      sign_out c 64 low high (inr (omega arith)),
      sign_out c 96 low high (inr (omega arith)),
    ) refl

no_mark : (c : ℕ) → 48 ≤ c → c ≤ 57 → is_mark c ≡ false
no_mark c low high = rw (sign_out c 45 low high (inl (omega arith)), sign_out c 63 low high (inr (omega arith)), sign_out c 58 low high (inr (omega arith))) refl

digits_begin : (c : ℕ) (s : List ℕ) → 48 ≤ c → c ≤ 57 → may_begin (c ∷ s) [] ≡ true
digits_begin c [] low high = rw (no_sign c low high, sign_out c 32 low high (inl (omega arith)), no_mark c low high) refl
digits_begin c (d ∷ s) low high = rw (no_sign c low high, sign_out c 32 low high (inl (omega arith)), no_mark c low high) refl

digits_unmarked : (ds : List ℕ) → AreDigits ds → Unmarked ds
digits_unmarked ds q = record { tab = has_none 9 ds q (inl (omega arith)); colon = has_none 58 ds q (inr (omega arith)); space = has_none 32 ds q (inl (omega arith)) }

-- it begins with `--` or `..`
abbrev pub begins_twice : List ℕ → Bool
begins_twice [] = false
begins_twice (c ∷ s) = (eqb c 45 && begins 45 s) || (eqb c 46 && begins 46 s)

-- what is written of a number
pub record Written (s : List ℕ) (z : ℤ) : Type 0 where
  pub once : begins_twice s ≡ false
  pub first : begins 32 s ≡ false
  pub plain : IsTrue (is_plain s [])
  pub means : meaning s ≡ tree.Int z
  pub no_feed : has 10 s ≡ false
  pub no_return : has 13 s ≡ false

means_number : (c : ℕ) (s : List ℕ) (z : ℤ) → c ≤ 57 → number (c ∷ s) ≡ Some z → meaning (c ∷ s) ≡ tree.Int z
means_number c s z high e =
    rw (ne_eqb c 110 (λ is. omega arith), ne_eqb c 126 (λ is. omega arith), ne_eqb c 116 (λ is. omega arith), ne_eqb c 102 (λ is. omega arith)) (ap (number_or_text (c ∷ s)) e)

pub natural_written : (n : ℕ) → n < 2 ^ 64 → Written (decimal n) (pos n)
natural_written n lt = go (decimal n) (decimal_digits n lt) (number_pos n lt)
  where
    go : (ds : List ℕ) → Digits n ds → number ds ≡ Some (pos n) → Written ds (pos n)
    go [] q e = absurd cc
    go (c ∷ s) q e = record {
      once = rw (sign_out c 45 q.are.0 q.are.1 (inl (omega arith)), sign_out c 46 q.are.0 q.are.1 (inl (omega arith))) refl;
      first = sign_out c 32 q.are.0 q.are.1 (inl (omega arith));
      plain = plain_unmarked (c ∷ s) (digits_begin c s q.are.0 q.are.1) (digits_unmarked (c ∷ s) q.are);
      means = means_number c s (pos n) q.are.1 e;
      no_feed = has_none 10 (c ∷ s) q.are (inl (omega arith));
      no_return = has_none 13 (c ∷ s) q.are (inl (omega arith));
    }

pub negative_written : (n : ℕ) → n < 2 ^ 63 → Written (45 ∷ decimal (suc n)) (negsuc n)
negative_written n lt = go (decimal (suc n)) (decimal_digits (suc n) (omega arith))
  where
    go : (ds : List ℕ) → Digits (suc n) ds → Written (45 ∷ ds) (negsuc n)
    go ds q =
        let first = q.first (omega arith) in
        more ds first.0 first.1 first.2 first.3 first.4 q
      where
        more : (ds : List ℕ) (c : ℕ) (s : List ℕ) → ds ≡ c ∷ s → 49 ≤ c → c ≤ 57 → Digits (suc n) ds → Written (45 ∷ ds) (negsuc n)
        more [] c s is low high q = absurd cc
        more (d ∷ ds) c s is low high q =
            let same : d ≡ c = cc in
            let below : 49 ≤ d = omega arith in
            let unmarked = digits_unmarked (d ∷ ds) q.are in
            record {
              once = rw (sign_out d 45 q.are.0 q.are.1 (inl (omega arith))) refl;
              first = refl;
              plain = plain_unmarked (45 ∷ d ∷ ds) (rw (sign_out d 32 q.are.0 q.are.1 (inl (omega arith))) refl) (record { tab = unmarked.tab; colon = unmarked.colon; space = unmarked.space });
              means = means_number 45 (d ∷ ds) (negsuc n) (omega arith) (number_neg n d ds lt below q.value);
              no_feed = has_none 10 (d ∷ ds) q.are (inl (omega arith));
              no_return = has_none 13 (d ∷ ds) q.are (inl (omega arith));
            }
