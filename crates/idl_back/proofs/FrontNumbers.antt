-- Numbers and sized numbers in front, and what they stand for.
use Rattle.std.proofs.Common.{◌≡◌, ℕ, suc, ◌+◌, ◌<◌, ◌^◌, ◌==◌, Bool, true, false, not, ◌&&◌, List, [], ◌∷◌, ◌++◌, length, take, drop, refl, sym, ap, ◌∙◌, subst, cond, arith, one-add, zero-add, decimal, append_assoc, append-nil, length-append}
use Rattle.std.specs.Char.{is_digit, digit_value}
use Rattle.std.specs.List.{list_all, position_or_len, before_first, after_first}
use Rattle.std.specs.Str.Parse.{digits_value, AllDigits}
use Rattle.std.proofs.lemmas.Bool.{and_parts, and_from, and_right, not-true, not_from_true, not_from_false, ltb-true, lt-ltb, false_from_ne_true, both_ways}
use Rattle.std.proofs.lemmas.Bool.Decides.{nat_tests}
use Rattle.std.proofs.lemmas.Fmt.{decimal_is_IsNumeral_wide}
use Rattle.std.proofs.Math.Seq.{take-append_seam, drop-append_seam, drop-append-add}
use Rattle.idl_token.specs.declared.kinds.TokenKind.{TokenKind}
use Rattle.idl_token.specs.declared.kinds.TokenKind.TheVariants as k
use Rattle.idl_token.specs.declared.front.Front.TheVariants.{Token}
use Rattle.idl_token.specs.Numbers.{SizedParts, Number, Parameter, begins, begins_digit, base_of, mark_of, is_marked, is_quote, number_value, sized_parts, past_signed, literal_value, width_of}
use Rattle.idl_token.specs.Values.{IsWord}
use Rattle.idl_token.specs.Front as f
use Rattle.idl_tree.specs.Print.{quote_word}
use Rattle.idl_token.specs.Symbol.{number, sized, symbol_by, sized_symbol}
use Rattle.idl_back.specs.Piece.{token, flagged, Sits, ends_before}
use Rattle.idl_back.proofs.FrontBytes.{differs_from, stops, prefix_ends, taken_ends, other_number, no_tail, keeps, sits_token}
use Rattle.idl_back.proofs.FrontWords.{ends_word, ends_word_from, word_other, word_tail}

-- ---- digits

digit_word : (c : ℕ) → digit_value c < 36 → f.is_word_byte c ≡ true
digit_word c h = grind (arith, nat_tests)

digits_pass : (x : List ℕ) → AllDigits 10 x → list_all (λ c. is_digit c 10) x ≡ true
digits_pass [] h = refl
digits_pass (c ∷ x) h = and_from (is_digit c 10) (list_all (λ c. is_digit c 10) x) (lt-ltb (digit_value c) 10 h.0) (digits_pass x h.1)

pub digits_words : (x : List ℕ) → AllDigits 10 x → list_all f.is_word_byte x ≡ true
digits_words [] h = refl
digits_words (c ∷ x) h = let low = h.0 in and_from (f.is_word_byte c) (list_all f.is_word_byte x) (digit_word c (omega arith)) (digits_words x h.1)

digits_stop : (s : List ℕ) → ends_word s ≡ true → stops (λ c. is_digit c 10) s ≡ true
digits_stop [] e = refl
digits_stop (c ∷ s) e =
    let other = not-true (f.is_word_byte c) (and_parts (not (f.is_word_byte c)) (not (c == 63)) e).0 in
    not_from_false (is_digit c 10) (false_from_ne_true (is_digit c 10) (λ d. let low = ltb-true (digit_value c) 10 d in both_ways (f.is_word_byte c) other (digit_word c (omega arith))))

digits_whole : (x s : List ℕ) → AllDigits 10 x → ends_word s ≡ true → f.digits_of 10 (x ++ s) ≡ x
digits_whole x s all e = taken_ends (λ c. is_digit c 10) x s (digits_pass x all) (digits_stop s e)

number_is : (x : List ℕ) → 0 < length x → digits_value 10 x < 2 ^ 128 → f.is_number 10 x ≡ true
number_is [] some small = absurd (omega arith)
number_is (c ∷ x) some small = lt-ltb (digits_value 10 (c ∷ x)) (2 ^ 128) small

-- ---- the base

-- a letter that is no digit doesn't come second
first_not : (l : ℕ) (s : List ℕ) → f.is_word_byte l ≡ true → ends_word s ≡ true → begins l s ≡ false
first_not l [] h e = refl
first_not l (c ∷ s) h e = differs_from (λ (y : ℕ). not (f.is_word_byte y)) l c (not_from_true (f.is_word_byte l) h) (and_parts (not (f.is_word_byte c)) (not (c == 63)) e).0

second_not : (l : ℕ) (x s : List ℕ) → is_digit l 10 ≡ false → f.is_word_byte l ≡ true → AllDigits 10 x → 0 < length x → ends_word s ≡ true → begins l (drop 1 (x ++ s)) ≡ false
second_not l [] s d h all some e = absurd (omega arith)
second_not l (c ∷ []) s d h all some e = first_not l s h e
second_not l (c ∷ a ∷ x) s d h all some e = differs_from (λ (y : ℕ). is_digit y 10) l a d (lt-ltb (digit_value a) 10 all.1.0)

marked_not : (l b : ℕ) (t : List ℕ) → begins l (drop 1 t) ≡ false → is_marked l b t ≡ false
marked_not l b t h = ap (λ (x : Bool). begins 48 t && (x && begins_digit b (drop 2 t))) h ∙ and_right (begins 48 t) false refl

base_ten : (x s : List ℕ) → AllDigits 10 x → 0 < length x → ends_word s ≡ true → base_of (x ++ s) ≡ 10
base_ten x s all some e =
    ap (λ (a : Bool). cond a 16 (cond (is_marked 98 2 (x ++ s)) 2 10)) (marked_not 120 16 (x ++ s) (second_not 120 x s refl refl all some e))
    ∙ ap (λ (a : Bool). cond a 2 10) (marked_not 98 2 (x ++ s) (second_not 98 x s refl refl all some e))

-- ---- numbers

number_length : (x s : List ℕ) → AllDigits 10 x → 0 < length x → digits_value 10 x < 2 ^ 128 → ends_word s ≡ true → f.number_at (x ++ s) ≡ length x
number_length x s all some small e =
    ap (λ (b : ℕ). f.number_in b (x ++ s)) (base_ten x s all some e)
    ∙ ap (λ (ds : List ℕ). cond (f.is_number 10 ds) (0 + length ds) 0) (digits_whole x s all e)
    ∙ ap (λ (b : Bool). cond b (0 + length x) 0) (number_is x some small)
    ∙ zero-add (length x)

-- digits in front, with the tail that stands behind them
number_tail : (w : Bool) (x s : List ℕ) → AllDigits 10 x → 0 < length x → digits_value 10 x < 2 ^ 128 → ends_word s ≡ true → f.front_at (flagged w) (x ++ s) ≡ f.with_tail k.Number (length x) (f.tail_at s)
number_tail w [] s all some small e = absurd (omega arith)
number_tail w (c ∷ x) s all some small e =
    word_other w c x s (digits_words (c ∷ x) all) e
    ∙ other_number w c (x ++ s) (lt-ltb (digit_value c) 10 all.0)
    ∙ ap (λ (n : ℕ). f.numbered n (c ∷ (x ++ s))) (number_length (c ∷ x) s all some small e)
    ∙ ap (λ (r : List ℕ). f.with_tail k.Number (length (c ∷ x)) (f.tail_at r)) (drop-append_seam (c ∷ x) s)

-- what the digits of a number are
pub record IsDecimal (x : List ℕ) (n : ℕ) : Type 0 where
  pub all : AllDigits 10 x
  pub some : 0 < length x
  pub small : digits_value 10 x < 2 ^ 128
  pub value : digits_value 10 x ≡ n

pub decimal_is : (n : ℕ) → n < 2 ^ 128 → IsDecimal (decimal n) n
decimal_is n h =
    let q = decimal_is_IsNumeral_wide n (omega arith) in
    record { all = q.0.1; some = q.0.0; small = subst (λ (m : ℕ). m < 2 ^ 128) (sym q.1) h; value = q.1 }

decimal_tail : (w : Bool) (n : ℕ) (s : List ℕ) → n < 2 ^ 128 → ends_word s ≡ true → f.front_at (flagged w) (decimal n ++ s) ≡ f.with_tail k.Number (length (decimal n)) (f.tail_at s)
decimal_tail w n s h e = let q = decimal_is n h in number_tail w (decimal n) s q.all q.some q.small e

pub number_sits : (w : Bool) (n : ℕ) (s : List ℕ) → n < 2 ^ 128 → ends_before s ≡ true → Sits w (token k.Number (decimal n) ∷ []) s w
number_sits w n s h e =
    sits_token w w k.Number (decimal n) s (decimal_tail w n s h (ends_word_from s e) ∙ ap (λ (m : ℕ). f.with_tail k.Number (length (decimal n)) m) (no_tail s e)) (keeps w k.Number refl)

decimal_value : (x : List ℕ) (n : ℕ) → IsDecimal x n → number_value x ≡ n
unfolding number_value
decimal_value x n q =
    let ten : base_of x ≡ 10 = ap base_of (sym (append-nil x)) ∙ base_ten x [] q.all q.some refl in
    ap (λ (b : ℕ). digits_value b (drop (mark_of b) x)) ten ∙ q.value

pub value_of_decimal : (n : ℕ) → n < 2 ^ 128 → number_value (decimal n) ≡ n
value_of_decimal n h = decimal_value (decimal n) n (decimal_is n h)

pub number_symbol : (n : ℕ) → n < 2 ^ 128 → symbol_by k.Number (decimal n) ≡ number n
number_symbol n h = ap (λ (m : ℕ). number m) (value_of_decimal n h)

-- ---- the tail of a sized number

quote_ends : (u : Bool) (t : List ℕ) → ends_word (quote_word u ++ t) ≡ true
quote_ends true t = refl
quote_ends false t = refl

literal_length : (y s : List ℕ) → AllDigits 10 y → 0 < length y → digits_value 10 y < 2 ^ 128 → ends_word s ≡ true → f.literal_at (100 ∷ (y ++ s)) ≡ suc (length y)
literal_length y s all some small e =
    ap (λ (ds : List ℕ). cond (f.is_number 10 ds) (1 + length ds) 0) (digits_whole y s all e)
    ∙ ap (λ (b : Bool). cond b (1 + length y) 0) (number_is y some small)
    ∙ one-add (length y)

tail_length : (u : Bool) (y s : List ℕ) → AllDigits 10 y → 0 < length y → digits_value 10 y < 2 ^ 128 → ends_word s ≡ true → f.tail_at (quote_word u ++ (y ++ s)) ≡ length (quote_word u ++ y)
tail_length true y s all some small e = ap (λ (m : ℕ). f.behind 2 m) (literal_length y s all some small e) ∙ omega arith
tail_length false y s all some small e = ap (λ (m : ℕ). f.behind 1 m) (literal_length y s all some small e) ∙ omega arith

tail_token : (x : TokenKind) (n : ℕ) (u : Bool) (y : List ℕ) → f.with_tail x n (length (quote_word u ++ y)) ≡ Token k.Sized (n + length (quote_word u ++ y))
tail_token x n true y = refl
tail_token x n false y = refl

sized_front : (w u : Bool) (t : TokenKind) (x y s : List ℕ) → ((r : List ℕ) → ends_word r ≡ true → f.front_at (flagged w) (x ++ r) ≡ f.with_tail t (length x) (f.tail_at r)) → AllDigits 10 y → 0 < length y → digits_value 10 y < 2 ^ 128
    → ends_before s ≡ true → f.front_at (flagged w) (x ++ quote_word u ++ y ++ s) ≡ Token k.Sized (length (x ++ quote_word u ++ y))
sized_front w u t x y s front all some small e =
    ap (λ (r : List ℕ). f.front_at (flagged w) r) (append_assoc (x ++ quote_word u) y s ∙ append_assoc x (quote_word u) (y ++ s))
    ∙ front (quote_word u ++ (y ++ s)) (quote_ends u (y ++ s))
    ∙ ap (λ (m : ℕ). f.with_tail t (length x) m) (tail_length u y s all some small (ends_word_from s e))
    ∙ tail_token t (length x) u y
    ∙ ap (λ (m : ℕ). Token k.Sized m) (sym (ap (λ (r : List ℕ). length r) (append_assoc x (quote_word u) y) ∙ length-append x (quote_word u ++ y)))

-- a width that is a number
pub sized_number_sits : (w u : Bool) (n v : ℕ) (s : List ℕ) → n < 2 ^ 128 → v < 2 ^ 128 → ends_before s ≡ true → Sits w (token k.Sized (decimal n ++ quote_word u ++ decimal v) ∷ []) s w
sized_number_sits w u n v s small below e =
    let q = decimal_is v below in
    sits_token w w k.Sized (decimal n ++ quote_word u ++ decimal v) s
    (sized_front w u k.Number (decimal n) (decimal v) s (λ r last. decimal_tail w n r small last) q.all q.some q.small e)
    (keeps w k.Sized refl)

-- a width that is the name of a parameter
pub sized_word_sits : (w u : Bool) (x : List ℕ) (v : ℕ) (s : List ℕ) → IsWord x → 0 < length x → v < 2 ^ 128 → ends_before s ≡ true → Sits w (token k.Sized (x ++ quote_word u ++ decimal v) ∷ []) s w
sized_word_sits w u x v s h some below e =
    let q = decimal_is v below in
    sits_token w w k.Sized (x ++ quote_word u ++ decimal v) s
    (sized_front w u k.Word x (decimal v) s (λ r last. word_tail w x r h some last) q.all q.some q.small e)
    (keeps w k.Sized refl)

-- ---- what a sized number says

pub no_quotes : (x : List ℕ) → list_all f.is_word_byte x ≡ true → list_all (λ c. not (is_quote c)) x ≡ true
no_quotes [] h = refl
no_quotes (c ∷ x) h =
    let parts = and_parts (f.is_word_byte c) (list_all f.is_word_byte x) h in
    and_from (not (is_quote c)) (list_all (λ c. not (is_quote c)) x) (not_from_false (c == 39) (differs_from f.is_word_byte 39 c refl parts.0)) (no_quotes x parts.1)

quote_first : (u : Bool) (t : List ℕ) → stops (λ c. not (is_quote c)) (quote_word u ++ t) ≡ true
quote_first true t = refl
quote_first false t = refl

abbrev parts_by : List ℕ → List ℕ → SizedParts
parts_by x a = record { width = width_of x; is_signed = begins 115 a; value = literal_value (past_signed a) }

tail_parts : (u : Bool) (x y : List ℕ) → parts_by x (drop 1 (quote_word u ++ y)) ≡ record { width = width_of x; is_signed = u; value = digits_value 10 y }
tail_parts true x y = refl
tail_parts false x y = refl

whole_parts : (u : Bool) (x y : List ℕ) → list_all f.is_word_byte x ≡ true → sized_parts (x ++ quote_word u ++ y) ≡ record { width = width_of x; is_signed = u; value = digits_value 10 y }
unfolding sized_parts
whole_parts u x y h =
    let t = x ++ (quote_word u ++ y) in
    let at : position_or_len is_quote (x ++ (quote_word u ++ y)) ≡ length x = prefix_ends (λ c. not (is_quote c)) x (quote_word u ++ y) (no_quotes x h) (quote_first u y) in
    let before : before_first is_quote (x ++ (quote_word u ++ y)) ≡ x = ap (λ (i : ℕ). take i (x ++ (quote_word u ++ y))) at ∙ take-append_seam x (quote_word u ++ y) in
    let past : after_first is_quote (x ++ (quote_word u ++ y)) ≡ drop 1 (quote_word u ++ y) = ap (λ (i : ℕ). drop (i + 1) (x ++ (quote_word u ++ y))) at ∙ drop-append-add x (quote_word u ++ y) 1 in
    ap (λ (r : List ℕ). parts_by (before_first is_quote r) (after_first is_quote r)) (append_assoc x (quote_word u) y)
    ∙ ap (λ (b : List ℕ). parts_by b (after_first is_quote (x ++ (quote_word u ++ y)))) before
    ∙ ap (λ (a : List ℕ). parts_by x a) past
    ∙ tail_parts u x y

digit_first : (x : List ℕ) → AllDigits 10 x → 0 < length x → begins_digit 10 x ≡ true
digit_first [] all some = absurd (omega arith)
digit_first (c ∷ x) all some = lt-ltb (digit_value c) 10 all.0

pub sized_number_symbol : (u : Bool) (n v : ℕ) → n < 2 ^ 128 → v < 2 ^ 128 → symbol_by k.Sized (decimal n ++ quote_word u ++ decimal v) ≡ sized (Number n) u v
sized_number_symbol u n v small below =
    let q = decimal_is n small in
    let z = decimal_is v below in
    ap (λ (p : SizedParts). sized_symbol p) (whole_parts u (decimal n) (decimal v) (digits_words (decimal n) q.all))
    ∙ ap (λ (m : ℕ). sized (width_of (decimal n)) u m) z.value
    ∙ ap (λ (b : Bool). sized (cond b (Number (number_value (decimal n))) (Parameter (decimal n))) u v) (digit_first (decimal n) q.all q.some)
    ∙ ap (λ (m : ℕ). sized (Number m) u v) (value_of_decimal n small)

pub sized_word_symbol : (u : Bool) (x : List ℕ) (v : ℕ) → IsWord x → v < 2 ^ 128 → symbol_by k.Sized (x ++ quote_word u ++ decimal v) ≡ sized (Parameter x) u v
sized_word_symbol u x v h below =
    let z = decimal_is v below in
    ap (λ (p : SizedParts). sized_symbol p) (whole_parts u x (decimal v) h.bytes)
    ∙ ap (λ (m : ℕ). sized (width_of x) u m) z.value
    ∙ ap (λ (b : Bool). sized (cond b (Number (number_value x)) (Parameter x)) u v) h.first
