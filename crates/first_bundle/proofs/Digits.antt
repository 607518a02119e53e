-- A number that is printed is read back.
use Rattle.std.proofs.Common.{◌≡◌, ℕ, ◌<◌, ◌≤◌, ◌+◌, ◌*◌, ◌/◌, ◌%◌, ◌^◌, true, false, cond, List, [], ◌∷◌, ◌++◌, ap, sym, ◌∙◌, arith, append_assoc, decimal}
use Rattle.std.proofs.lemmas.Bool.Decides.{nat_tests}
use Rattle.std.proofs.lemmas.Fmt.{decimal_by_steps}
use Rattle.first_spec.specs.Alphabets.{is_digit}
use Rattle.first_bundle.specs.Statements.{read_digits, with_digit}

digit_more : (m r : ℕ) → r < 10 → m * 10 + r < 2 ^ 32 → with_digit m (48 + r) ≡ m * 10 + r
digit_more m r l s = omega arith

digit_so : (d : ℕ) → d < 10 → is_digit (48 + d) ≡ true
digit_so d l = grind (arith, nat_tests)

digit_read : (m d n : ℕ) (rest : List ℕ) → d < 10 → n ≡ m * 10 + d → n < 2 ^ 32 → read_digits m ((48 + d) ∷ rest) ≡ read_digits n rest
digit_read m d n rest l e s =
    ap (λ t. cond t (read_digits (with_digit m (48 + d)) rest) (m, (48 + d) ∷ rest)) (digit_so d l)
    ∙ ap (λ k. read_digits k rest) (digit_more m d l (omega (arith, e, s)) ∙ sym e)

abbrev Read : ℕ → List ℕ → Type 0
Read n ds = (rest : List ℕ) → n < 2 ^ 32 → read_digits 0 (ds ++ rest) ≡ read_digits n rest

read_one : (n : ℕ) → n < 10 → Read n ((48 + n) ∷ [])
read_one n l rest s = digit_read 0 n n rest l (omega arith) s

read_more : (n : ℕ) (ds : List ℕ) → 10 ≤ n → Read (n / 10) ds → Read n (ds ++ ((48 + n % 10) ∷ []))
read_more n ds l h rest s =
    ap (read_digits 0) (append_assoc ds ((48 + n % 10) ∷ []) rest)
    ∙ (h ((48 + n % 10) ∷ rest) (omega arith)
    ∙ digit_read (n / 10) (n % 10) n rest (omega arith) (omega arith) s)

read_on : (n : ℕ) → n < 2 ^ 64 → Read n (decimal n)
read_on = decimal_by_steps Read read_one read_more

read_stop : (n b : ℕ) (bs : List ℕ) → is_digit b ≡ false → read_digits n (b ∷ bs) ≡ (n, b ∷ bs)
read_stop n b bs e = ap (λ t. cond t (read_digits (with_digit n b) bs) (n, b ∷ bs)) e

-- up to the first byte that is no digit
pub read_decimal : (n b : ℕ) (bs : List ℕ) → n < 2 ^ 32 → is_digit b ≡ false → read_digits 0 (decimal n ++ b ∷ bs) ≡ (n, b ∷ bs)
read_decimal n b bs s e = read_on n (omega arith) (b ∷ bs) s ∙ read_stop n b bs e
