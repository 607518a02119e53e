-- The numbers in a token's text are those that were read in front.
use Rattle.std.proofs.Common.{◌≡◌, ◌⊎◌, inl, inr, ℕ, zero, suc, ◌+◌, ◌-◌, ◌<◌, ◌≤◌, ◌^◌, ◌==◌, nat_eq, nat_lt, Bool, true, false, ◌&&◌, List, [], ◌∷◌, ◌++◌, length, get_or, take, drop, Option, Some, None, All, refl, sym, ap, ◌∙◌, subst, cond, arith, one-add, add-zero, length-append}
use Rattle.std.specs.Char.{is_digit, digit_value}
use Rattle.std.specs.List.{starts_with, list_all, prefix_len, position_or_len, before_first, after_first}
use Rattle.std.specs.Str.Parse.{digits_value}
use Rattle.std.proofs.lemmas.Bool.{cases_lt, and_parts, and_from, not-false, ltb-true, eqb-true, le-ltb, false_from_ne_true, both_ways, cond_both}
use Rattle.std.proofs.lemmas.Bool.Decides.{nat_tests, Decides-eqb}
use Rattle.std.proofs.lemmas.Slice.Eq.{starts_is, bytes_eq-Decides}
use Rattle.std.proofs.Math.Seq.{take-append_seam}
use Rattle.std.specs.Str.{bytes_eq, IsUtf8, IsCharBoundary}
use Rattle.std.proofs.lemmas.Str.{IsCharBoundary-after_ascii}
use Rattle.idl_token.specs.Spelling.{reserved_text, special_text, sign_text, reserved_words, special_words, signs}
use Rattle.std.proofs.lemmas.List.{get_or-drop, get_or-take, length-take-le, length-take, drop-take, drop-drop, take-take, take_more}
use Rattle.std.proofs.lemmas.List.Sums.{prefix_len-le-length, prefix_len_passes, prefix_len_stops, position_or_len_is, passes_at_first}
use Rattle.std.proofs.lemmas.List.Elements.{All-nil, All-cons}
use Rattle.idl_token.specs.declared.kinds.TokenKind.{TokenKind}
use Rattle.idl_token.specs.declared.kinds.TokenKind.TheVariants as k
use Rattle.idl_token.specs.declared.before.Before.{Before}
use Rattle.idl_token.specs.declared.front.Front.{Front}
use Rattle.idl_token.specs.declared.front.Front.TheVariants.{Token, Nothing}
use Rattle.idl_token.specs.Numbers.{Number, Parameter, begins, begins_digit, base_of, mark_of, letter_base, is_marked, is_quote, number_value, sized_parts, past_signed, text_value, width_of}
use Rattle.idl_token.specs.Lexeme.{Lexeme, lexeme}
use Rattle.idl_token.specs.Front as f
use Rattle.idl_token.specs.Rows.{Reads, done, gap, token, IsRow}
use Rattle.idl_token.specs.declared.kinds.Sign.TheVariants as g
use Rattle.idl_token.proofs.CutLemmas.{find-holds, number-ends}
use Rattle.idl_token.specs.Values.{IsQuoted, IsSpelled, IsLiteral, IsSmallWidth, IsSpelledToken}

-- ---- the base of a front

marks-take : (l b n : ℕ) (s : List ℕ) → is_marked l b (take n s) ≡ true → is_marked l b s ≡ true
marks-take l b zero s h = cc
marks-take l b (suc n) [] h = cc
marks-take l b (suc zero) (c ∷ s) h = let q = (and_parts (c == 48) (begins l [] && begins_digit b []) h).1 in cc
marks-take l b (suc (suc n)) (c ∷ []) h = h
marks-take l b (suc (suc zero)) (c ∷ d ∷ s) h = let q = (and_parts (d == l) (begins_digit b []) (and_parts (c == 48) ((d == l) && begins_digit b []) h).1).1 in cc
marks-take l b (suc (suc (suc n))) (c ∷ d ∷ []) h = h
marks-take l b (suc (suc (suc n))) (c ∷ d ∷ e ∷ s) h = h

marks-stay : (l b n : ℕ) (s : List ℕ) → 3 ≤ n → is_marked l b s ≡ true → is_marked l b (take n s) ≡ true
marks-stay l b zero s le h = absurd (omega arith)
marks-stay l b (suc zero) s le h = absurd (omega arith)
marks-stay l b (suc (suc zero)) s le h = absurd (omega arith)
marks-stay l b (suc (suc (suc n))) [] le h = h
marks-stay l b (suc (suc (suc n))) (c ∷ []) le h = h
marks-stay l b (suc (suc (suc n))) (c ∷ d ∷ []) le h = h
marks-stay l b (suc (suc (suc n))) (c ∷ d ∷ e ∷ s) le h = h

marks-same : (l b n : ℕ) (s : List ℕ) → (is_marked l b s ≡ true → 3 ≤ n) → is_marked l b (take n s) ≡ is_marked l b s
marks-same l b n s long = by_mark (is_marked l b s) refl where
  by_mark : (x : Bool) → is_marked l b s ≡ x → is_marked l b (take n s) ≡ x
  by_mark true e = marks-stay l b n s (long e) e
  by_mark false e = false_from_ne_true (is_marked l b (take n s)) (λ h. both_ways (is_marked l b s) e (marks-take l b n s h))

abbrev base_by : Bool → Bool → ℕ
base_by x y = cond x 16 (cond y 2 10)

sixteen : (x y : Bool) → x ≡ true → base_by x y ≡ 10 → ⊥
sixteen true y e q = absurd (omega arith)
sixteen false y e q = cc

not-ten : (x y : Bool) → y ≡ true → base_by x y ≡ 10 → ⊥
not-ten true y e q = absurd (omega arith)
not-ten false true e q = absurd (omega arith)
not-ten false false e q = cc

pub base-same : (n : ℕ) (s : List ℕ) → ((base_of s ≡ 10 → ⊥) → 3 ≤ n) → base_of (take n s) ≡ base_of s
base-same n s long =
    let x = marks-same 120 16 n s (λ e. long (sixteen (is_marked 120 16 s) (is_marked 98 2 s) e)) in
    let y = marks-same 98 2 n s (λ e. long (not-ten (is_marked 120 16 s) (is_marked 98 2 s) e)) in
    ap (λ b. base_by b (is_marked 98 2 (take n s))) x ∙ ap (λ b. base_by (is_marked 120 16 s) b) y

-- ---- the value of a front

digits-whole : (base : ℕ) (t : List ℕ) → take (length (f.digits_of base t)) t ≡ f.digits_of base t
digits-whole base t =
    let p : ℕ → Bool = λ c. is_digit c base in
    ap (λ n. take n t) (length-take-le (prefix_len p t) t (prefix_len-le-length p t))

pub number-some : (base : ℕ) (ds : List ℕ) → f.is_number base ds ≡ true → 0 < length ds
number-some base [] h = cc
number-some base (c ∷ ds) h = omega arith

number-below : (base : ℕ) (ds : List ℕ) → f.is_number base ds ≡ true → digits_value base ds < 2 ^ 128
number-below base [] h = cc
number-below base (c ∷ ds) h = ltb-true (digits_value base (c ∷ ds)) (2 ^ 128) h

abbrev len_by : Bool → ℕ
len_by b = cond b 0 2

pub mark-long : (base : ℕ) → (base ≡ 10 → ⊥) → mark_of base ≡ 2
mark-long base ne = by_ten (base == 10) refl where
  by_ten : (b : Bool) → (base == 10) ≡ b → len_by b ≡ 2
  by_ten true e = absurd (ne (eqb-true base 10 e))
  by_ten false e = refl

number-value : (s : List ℕ) → f.is_number (base_of s) (f.digits_of (base_of s) (drop (mark_of (base_of s)) s)) ≡ true
    → number_value (take (mark_of (base_of s) + length (f.digits_of (base_of s) (drop (mark_of (base_of s)) s))) s) ≡ digits_value (base_of s) (f.digits_of (base_of s) (drop (mark_of (base_of s)) s))
unfolding number_value
number-value s h =
    let base = base_of s in
    let ds = f.digits_of base (drop (mark_of base) s) in
    let n = mark_of base + length ds in
    let some = number-some base ds h in
    let same = base-same n s (λ ne. let two = mark-long base ne in omega arith) in
    ap (λ b. digits_value b (drop (mark_of b) (take n s))) same
    ∙ ap (digits_value base) (drop-take (mark_of base) (length ds) s ∙ digits-whole base (drop (mark_of base) s))

number-small : (s : List ℕ) → 0 < f.number_at s → number_value (take (f.number_at s) s) < 2 ^ 128
number-small s = by_test (f.is_number (base_of s) (f.digits_of (base_of s) (drop (mark_of (base_of s)) s))) refl where
  by_test : (b : Bool) → f.is_number (base_of s) (f.digits_of (base_of s) (drop (mark_of (base_of s)) s)) ≡ b
      → 0 < cond b (mark_of (base_of s) + length (f.digits_of (base_of s) (drop (mark_of (base_of s)) s))) 0
      → number_value (take (cond b (mark_of (base_of s) + length (f.digits_of (base_of s) (drop (mark_of (base_of s)) s))) 0) s) < 2 ^ 128
  by_test true e h = subst (λ v. v < 2 ^ 128) (sym (number-value s e)) (number-below (base_of s) (f.digits_of (base_of s) (drop (mark_of (base_of s)) s)) e)
  by_test false e h = absurd (omega arith)

-- ---- the value of a literal

-- no byte is a digit of base 0
no-digit : (t : List ℕ) → f.digits_of 0 t ≡ []
no-digit [] = refl
no-digit (c ∷ t) = ap (λ b. take (cond b (1 + prefix_len (λ x. is_digit x 0) t) 0) (c ∷ t)) (le-ltb (digit_value c) 0 (omega arith))

some-base : (base : ℕ) (t : List ℕ) → f.is_number base (f.digits_of base t) ≡ true → 0 < base
some-base zero t h = let none : f.is_number 0 [] ≡ true = subst (λ ds. f.is_number 0 ds ≡ true) (no-digit t) h in cc
some-base (suc base) t h = omega arith

literal-small : (q : List ℕ) → 0 < f.literal_at q → IsLiteral (take (f.literal_at q) q)
literal-small [] h = absurd (omega arith)
literal-small (c ∷ t) h = by_test (f.is_number (letter_base (c ∷ t)) (f.digits_of (letter_base (c ∷ t)) t)) refl h where
  by_test : (b : Bool) → f.is_number (letter_base (c ∷ t)) (f.digits_of (letter_base (c ∷ t)) t) ≡ b → 0 < cond b (1 + length (f.digits_of (letter_base (c ∷ t)) t)) 0
      → IsLiteral (take (cond b (1 + length (f.digits_of (letter_base (c ∷ t)) t)) 0) (c ∷ t))
  by_test true e q =
      let front : take (1 + length (f.digits_of (letter_base (c ∷ t)) t)) (c ∷ t) ≡ c ∷ f.digits_of (letter_base (c ∷ t)) t = ap (λ n. take n (c ∷ t)) (one-add _) ∙ ap (λ r. c ∷ r) (digits-whole (letter_base (c ∷ t)) t) in
      let is : IsLiteral (c ∷ f.digits_of (letter_base (c ∷ t)) t) = record { letter = some-base (letter_base (c ∷ t)) t e; value = number-below (letter_base (c ∷ t)) (f.digits_of (letter_base (c ∷ t)) t) e } in
      subst IsLiteral (sym front) is
  by_test false e q = absurd (omega arith)

pub begins-take : (a n : ℕ) (x : List ℕ) → begins a (take (suc n) x) ≡ begins a x
begins-take a n [] = refl
begins-take a n (c ∷ x) = refl

-- what follows the quote of a tail of suc n bytes
pub record IsTail (r : List ℕ) (n : ℕ) : Type 0 where
  pub quote : begins 39 r ≡ true
  pub value : IsLiteral (past_signed (take n (drop 1 r)))

tail-signed : (r : List ℕ) (n l : ℕ) → begins 115 (drop 1 r) ≡ true → l ≡ f.literal_at (drop 2 r) → f.behind 2 l ≡ suc n → IsLiteral (past_signed (take n (drop 1 r)))
tail-signed r n zero signed is e = cc
tail-signed r n (suc l) signed is e =
    let size : n ≡ 1 + suc l = omega arith in
    let some : 0 < f.literal_at (drop 2 r) = omega arith in
    let sign : begins 115 (take (1 + suc l) (drop 1 r)) ≡ true = ap (λ m. begins 115 (take m (drop 1 r))) (one-add (suc l)) ∙ begins-take 115 (suc l) (drop 1 r) ∙ signed in
    let rest : past_signed (take (1 + suc l) (drop 1 r)) ≡ take (f.literal_at (drop 2 r)) (drop 2 r)
    = ap (λ b. drop (cond b 1 0) (take (1 + suc l) (drop 1 r))) sign ∙ drop-take 1 (suc l) (drop 1 r) ∙ ap (take (suc l)) (drop-drop 1 1 r) ∙ ap (λ m. take m (drop 2 r)) is in
    subst (λ m. IsLiteral (past_signed (take m (drop 1 r)))) (sym size) (subst (λ x. IsLiteral x) (sym rest) (literal-small (drop 2 r) some))

tail-plain : (r : List ℕ) (n l : ℕ) → begins 115 (drop 1 r) ≡ false → l ≡ f.literal_at (drop 1 r) → f.behind 1 l ≡ suc n → IsLiteral (past_signed (take n (drop 1 r)))
tail-plain r n zero signed is e = cc
tail-plain r n (suc l) signed is e =
    let size : n ≡ suc l = omega arith in
    let some : 0 < f.literal_at (drop 1 r) = omega arith in
    let sign : begins 115 (take (suc l) (drop 1 r)) ≡ false = begins-take 115 l (drop 1 r) ∙ signed in
    let rest : past_signed (take (suc l) (drop 1 r)) ≡ take (f.literal_at (drop 1 r)) (drop 1 r)
    = ap (λ b. drop (cond b 1 0) (take (suc l) (drop 1 r))) sign ∙ ap (λ m. take m (drop 1 r)) is in
    subst (λ m. IsLiteral (past_signed (take m (drop 1 r)))) (sym size) (subst (λ x. IsLiteral x) (sym rest) (literal-small (drop 1 r) some))

tail-small : (r : List ℕ) (n : ℕ) → f.tail_at r ≡ suc n → IsTail r n
tail-small r n = by_quote (begins 39 r) refl where
  by_sign : (b : Bool) → begins 115 (drop 1 r) ≡ b → cond b (f.behind 2 (f.literal_at (drop 2 r))) (f.behind 1 (f.literal_at (drop 1 r))) ≡ suc n → IsLiteral (past_signed (take n (drop 1 r)))
  by_sign true s e = tail-signed r n (f.literal_at (drop 2 r)) s refl e
  by_sign false s e = tail-plain r n (f.literal_at (drop 1 r)) s refl e

  by_quote : (b : Bool) → begins 39 r ≡ b → cond b (cond (begins 115 (drop 1 r)) (f.behind 2 (f.literal_at (drop 2 r))) (f.behind 1 (f.literal_at (drop 1 r)))) 0 ≡ suc n → IsTail r n
  by_quote true q e = record { quote = q; value = by_sign (begins 115 (drop 1 r)) refl e }
  by_quote false q e = cc

-- ---- sized numbers

-- every byte of the first n may stand in a word
abbrev AreWord : ℕ → List ℕ → Type 0
AreWord n s = (i : ℕ) → i < n → f.is_word_byte (get_or s i 0) ≡ true

word-no-quote : (c : ℕ) → f.is_word_byte c ≡ true → is_quote c ≡ false
word-no-quote c h = grind (arith, nat_tests)

quote-head : (r : List ℕ) → begins 39 r ≡ true → is_quote (get_or r 0 0) ≡ true
quote-head [] h = cc
quote-head (c ∷ r) h = h

-- where a front of word bytes meets a quote
quote-place : (n m : ℕ) (s : List ℕ) → n ≤ length s → AreWord n s → begins 39 (drop n s) ≡ true → position_or_len is_quote (take (n + suc m) s) ≡ n
quote-place n m s within word quote =
    let len = length-take (n + suc m) s in
    position_or_len_is is_quote (take (n + suc m) s) n 0 (omega arith)
    (λ i lt. ap is_quote (get_or-take (n + suc m) s i 0 (omega arith)) ∙ word-no-quote (get_or s i 0) (word i lt))
    (λ lt. ap is_quote (get_or-take (n + suc m) s n 0 (omega arith)) ∙ ap is_quote (ap (λ i. get_or s i 0) (sym (add-zero n)) ∙ sym (get_or-drop n s 0 0)) ∙ quote-head (drop n s) quote)

sized-small : (n m : ℕ) (s : List ℕ) → n ≤ length s → AreWord n s → IsSmallWidth (width_of (take n s)) → IsTail (drop n s) m → IsSpelled k.Sized (take (n + suc m) s)
unfolding sized_parts
sized-small n m s within word width tail =
    let x = take (n + suc m) s in
    let at = quote-place n m s within word tail.quote in
    let before : before_first is_quote x ≡ take n s = ap (λ i. take i x) at ∙ take-take n (n + suc m) s (omega arith) in
    let past : after_first is_quote x ≡ take m (drop 1 (drop n s))
    = ap (λ i. drop (i + 1) x) at ∙ ap (λ i. drop (n + 1) (take i s)) (split n m) ∙ drop-take (n + 1) m s ∙ ap (take m) (sym (drop-drop 1 n s)) in
    (subst (λ y. IsSmallWidth (width_of y)) (sym before) width, subst (λ y. IsLiteral (past_signed y)) (sym past) tail.value)
  where
    split : (a b : ℕ) → a + suc b ≡ a + 1 + b
    split a b = omega arith

-- ---- the bytes of a number

digit-word : (c : ℕ) → digit_value c < 36 → f.is_word_byte c ≡ true
digit-word c h = grind (arith, nat_tests)

AreWord-join : (a b : ℕ) (s : List ℕ) → AreWord a s → AreWord b (drop a s) → AreWord (a + b) s
AreWord-join a b s front back = λ i lt. by_side i lt (cases_lt i a) where
  by_side : (i : ℕ) → i < a + b → (i < a) ⊎ (a ≤ i) → f.is_word_byte (get_or s i 0) ≡ true
  by_side i lt (inl l) = front i l
  by_side i lt (inr g) =
      let place : a + (i - a) ≡ i = omega arith in
      ap f.is_word_byte (ap (λ j. get_or s j 0) (sym place) ∙ sym (get_or-drop a s (i - a) 0)) ∙ back (i - a) (omega arith)

mark-word : (l b : ℕ) (s : List ℕ) → f.is_word_byte l ≡ true → is_marked l b s ≡ true → AreWord 2 s
mark-word l b [] letter h = cc
mark-word l b (c ∷ []) letter h = let q = (and_parts (c == 48) (begins l [] && begins_digit b []) h).1 in cc
mark-word l b (c ∷ d ∷ s) letter h =
    let first = and_parts (c == 48) ((d == l) && begins_digit b s) h in
    let second = and_parts (d == l) (begins_digit b s) first.1 in
    λ i lt. at i lt (eqb-true c 48 first.0) (eqb-true d l second.0)
  where
    at : (i : ℕ) → i < 2 → c ≡ 48 → d ≡ l → f.is_word_byte (get_or (c ∷ d ∷ s) i 0) ≡ true
    at zero lt e q = ap f.is_word_byte e
    at (suc zero) lt e q = ap f.is_word_byte q ∙ letter
    at (suc (suc i)) lt e q = absurd (omega arith)

base-word : (s : List ℕ) → AreWord (mark_of (base_of s)) s
base-word s = by_marks (is_marked 120 16 s) (is_marked 98 2 s) (mark-word 120 16 s refl) (mark-word 98 2 s refl) where
  by_marks : (x y : Bool) → (x ≡ true → AreWord 2 s) → (y ≡ true → AreWord 2 s) → AreWord (mark_of (base_by x y)) s
  by_marks true y h q = h refl
  by_marks false true h q = q refl
  by_marks false false h q = λ i lt. absurd (omega arith)

base-small : (s : List ℕ) → base_of s ≤ 36
base-small s = by_marks (is_marked 120 16 s) (is_marked 98 2 s) where
  by_marks : (x y : Bool) → base_by x y ≤ 36
  by_marks true y = omega arith
  by_marks false true = omega arith
  by_marks false false = omega arith

digits-word : (base : ℕ) (t : List ℕ) → base ≤ 36 → AreWord (length (f.digits_of base t)) t
digits-word base t small = λ i lt.
    let p : ℕ → Bool = λ c. is_digit c base in
    let len : length (f.digits_of base t) ≡ prefix_len p t = length-take-le (prefix_len p t) t (prefix_len-le-length p t) in
    let passes = prefix_len_passes p t i 0 (omega arith) in
    let below = ltb-true (digit_value (get_or t i 0)) base passes in
    digit-word (get_or t i 0) (omega arith)

number-word : (s : List ℕ) → 0 < f.number_at s → AreWord (f.number_at s) s
number-word s = by_test (f.is_number (base_of s) (f.digits_of (base_of s) (drop (mark_of (base_of s)) s))) where
  by_test : (b : Bool) → 0 < cond b (mark_of (base_of s) + length (f.digits_of (base_of s) (drop (mark_of (base_of s)) s))) 0 → AreWord (cond b (mark_of (base_of s) + length (f.digits_of (base_of s) (drop (mark_of (base_of s)) s))) 0) s
  by_test true h = AreWord-join (mark_of (base_of s)) (length (f.digits_of (base_of s) (drop (mark_of (base_of s)) s))) s (base-word s) (digits-word (base_of s) (drop (mark_of (base_of s)) s) (base-small s))
  by_test false h = absurd (omega arith)

number-width : (x : List ℕ) → number_value x < 2 ^ 128 → IsSmallWidth (width_of x)
number-width x h = cond_both (begins_digit 10 x) (Number (number_value x)) (Parameter x) IsSmallWidth (λ _. h) (λ _. tt)

begins_digit-take : (b n : ℕ) (s : List ℕ) → begins_digit b (take n s) ≡ true → begins_digit b s ≡ true
begins_digit-take b zero s h = cc
begins_digit-take b (suc n) [] h = h
begins_digit-take b (suc n) (c ∷ s) h = h

word-width : (n : ℕ) (s : List ℕ) → begins_digit 10 s ≡ false → IsSmallWidth (width_of (take n s))
word-width n s h = cond_both (begins_digit 10 (take n s)) (Number (number_value (take n s))) (Parameter (take n s)) IsSmallWidth (λ e. absurd (both_ways (begins_digit 10 s) h (begins_digit-take 10 n s e))) (λ _. tt)

-- ---- fronts

-- the bytes of a front that pass, all pass
front-passes : (p : ℕ → Bool) (s : List ℕ) → list_all p (take (prefix_len p s) s) ≡ true
front-passes p [] = refl
front-passes p (c ∷ s) = by_test (p c) refl (front-passes p s) where
  by_test : (b : Bool) → p c ≡ b → list_all p (take (prefix_len p s) s) ≡ true → list_all p (take (cond b (1 + prefix_len p s) 0) (c ∷ s)) ≡ true
  by_test true e rest = ap (λ m. list_all p (take m (c ∷ s))) (one-add (prefix_len p s)) ∙ and_from (p c) (list_all p (take (prefix_len p s) s)) e rest
  by_test false e rest = refl

abbrev pub IsSpelledFront : List ℕ → Front → Type 0
IsSpelledFront s (Token t n) = IsSpelled t (take n s)
IsSpelledFront s _ = Unit {0}

tail-front : (t : TokenKind) (n m : ℕ) (s : List ℕ) → m ≡ f.tail_at (drop n s) → n ≤ length s → AreWord n s → IsSmallWidth (width_of (take n s)) → IsSpelled t (take n s) → IsSpelledFront s (f.with_tail t n m)
tail-front t n zero s is within word width small = small
tail-front t n (suc m) s is within word width small = sized-small n m s within word width (tail-small (drop n s) m (sym is))

numbered-small : (n : ℕ) (s : List ℕ) → (0 < n → (n ≤ length s) × AreWord n s × (number_value (take n s) < 2 ^ 128)) → IsSpelledFront s (f.numbered n s)
numbered-small zero s h = tt
numbered-small (suc n) s h =
    let q = h (omega arith) in
    tail-front k.Number (suc n) (f.tail_at (drop (suc n) s)) s refl q.0 q.1 (number-width (take (suc n) s) q.2) q.2

word-front : (s : List ℕ) → begins_digit 10 s ≡ false → IsSpelledFront s (f.word_at s)
word-front s h = by_word (f.reserved_of (take (prefix_len f.is_word_byte s) s)) refl where
  by_word : (o : Option _) → f.reserved_of (take (prefix_len f.is_word_byte s) s) ≡ o → IsSpelledFront s (f.worded o (prefix_len f.is_word_byte s) s)
  by_word (Some w) e = (bytes_eq-Decides (take (prefix_len f.is_word_byte s) s) (reserved_text w)).0 (find-holds (λ v. bytes_eq (take (prefix_len f.is_word_byte s) s) (reserved_text v)) reserved_words w e)
  by_word None e =
      let n = prefix_len f.is_word_byte s in
      tail-front k.Word n (f.tail_at (drop n s)) s refl (prefix_len-le-length f.is_word_byte s) (λ i lt. prefix_len_passes f.is_word_byte s i 0 lt) (word-width n s h)
      record { bytes = front-passes f.is_word_byte s; first = false_from_ne_true (begins_digit 10 (take n s)) (λ q. both_ways (begins_digit 10 s) h (begins_digit-take 10 n s q)); plain = e }

-- a word in front is the front of its length
spelled-front : (s x : List ℕ) → starts_with nat_eq s x ≡ true → take (length x) s ≡ x
spelled-front s x h = let split = (starts_is Decides-eqb s x (starts_with nat_eq s x) refl).0 h in ap (take (length x)) split ∙ take-append_seam x (drop (length x) s)

sign-front : (in_width : Bool) (s : List ℕ) → IsSpelledFront s (f.sign_at in_width s)
sign-front in_width s = by_width (in_width && begins 62 s) refl where
  alone : (t : List ℕ) → begins 62 t ≡ true → take 1 t ≡ sign_text g.Greater
  alone [] h = cc
  alone (c ∷ t) h = ap (λ d. d ∷ []) (eqb-true c 62 h)

  by_sign : (o : Option _) → f.sign_of s ≡ o → IsSpelledFront s (f.signed o)
  by_sign None e = tt
  by_sign (Some w) e = spelled-front s (sign_text w) (find-holds (λ v. starts_with nat_eq s (sign_text v)) signs w e)

  by_width : (b : Bool) → (in_width && begins 62 s) ≡ b → IsSpelledFront s (cond b (Token (k.Sign g.Greater) 1) (f.signed (f.sign_of s)))
  by_width true e = alone s (and_parts in_width (begins 62 s) e).1
  by_width false e = by_sign (f.sign_of s) refl

-- a quote, bytes up to the next one, and that one
quoted-front : (c : ℕ) (t : List ℕ) (n : ℕ) → c ≡ 34 → n ≡ prefix_len f.is_no_quote t → n < length t → IsQuoted (take (n + 2) (c ∷ t))
quoted-front c t n is e lt =
    let last : get_or t n 0 ≡ 34 = ap (λ i. get_or t i 0) e ∙ eqb-true (get_or t (prefix_len f.is_no_quote t) 0) 34 (not-false _ (prefix_len_stops f.is_no_quote t 0 (subst (λ i. i < length t) e lt))) in
    let whole : take (n + 2) (c ∷ t) ≡ 34 ∷ take n t ++ 34 ∷ [] = ap (λ m. take m (c ∷ t)) (two_more n) ∙ ap (λ d. d ∷ take (n + 1) t) is ∙ ap (λ r. 34 ∷ r) (take_more t n 0 lt ∙ ap (λ d. take n t ++ d ∷ []) last) in
    let front : text_value (take (n + 2) (c ∷ t)) ≡ take n t = ap text_value whole ∙ between (take n t) in
    record { quotes = whole ∙ ap (λ r. 34 ∷ r ++ 34 ∷ []) (sym front); inside = ap (list_all f.is_no_quote) (front ∙ ap (λ m. take m t) e) ∙ front-passes f.is_no_quote t }
  where
    two_more : (m : ℕ) → m + 2 ≡ suc (m + 1)
    two_more m = omega arith

    between : (x : List ℕ) → text_value (34 ∷ x ++ 34 ∷ []) ≡ x
    between x =
        let size = length-append x (34 ∷ []) in
        let less : suc (length (x ++ 34 ∷ [])) - 2 ≡ length x = omega arith in
        ap (λ m. take m (x ++ 34 ∷ [])) less ∙ take-append_seam x (34 ∷ [])

text-front : (s : List ℕ) → begins 34 s ≡ true → IsSpelledFront s (f.text_at s)
text-front [] h = cc
text-front (c ∷ t) h = by_end (nat_lt (prefix_len f.is_no_quote t) (length t)) refl where
  by_end : (b : Bool) → nat_lt (prefix_len f.is_no_quote t) (length t) ≡ b → IsSpelledFront (c ∷ t) (cond b (Token k.Text (prefix_len f.is_no_quote t + 2)) Nothing)
  by_end true e = quoted-front c t (prefix_len f.is_no_quote t) (eqb-true c 34 h) refl (ltb-true (prefix_len f.is_no_quote t) (length t) e)
  by_end false e = tt

other-front : (in_width : Bool) (s : List ℕ) → IsSpelledFront s (f.other_at in_width s)
other-front in_width s = cond_both (begins_digit 10 s) (f.numbered (f.number_at s) s) (cond (f.begins_word s) (f.word_at s) (cond (begins 34 s) (f.text_at s) (f.sign_at in_width s))) (IsSpelledFront s)
    (λ _. numbered-small (f.number_at s) s (λ some. ((number-ends s some).within, number-word s some, number-small s some)))
    (λ h. cond_both (f.begins_word s) (f.word_at s) (cond (begins 34 s) (f.text_at s) (f.sign_at in_width s)) (IsSpelledFront s)
    (λ _. word-front s h)
    (λ _. cond_both (begins 34 s) (f.text_at s) (f.sign_at in_width s) (IsSpelledFront s) (text-front s) (λ _. sign-front in_width s)))

plain-front : (in_width : Bool) (s : List ℕ) → IsSpelledFront s (f.plain_at in_width s)
plain-front in_width s = by_gap (f.gap_at s) where
  by_special : (o : Option _) → f.special_of s ≡ o → IsSpelledFront s (f.special_or o in_width s)
  by_special (Some w) e = spelled-front s (special_text w) (find-holds (λ v. starts_with nat_eq s (special_text v)) special_words w e)
  by_special None e = other-front in_width s

  by_gap : (n : ℕ) → IsSpelledFront s (f.gap_or n in_width s)
  by_gap zero = by_special (f.special_of s) refl
  by_gap (suc n) = tt

front-spelled : (b : Before) (s : List ℕ) → IsSpelledFront s (f.front_at b s)
unfolding f.front_at
front-spelled b s = cond_both b.in_description (f.description_or (prefix_len f.is_no_brace s) b.in_width s) (f.plain_at b.in_width s) (IsSpelledFront s) (λ _. by_len (prefix_len f.is_no_brace s) (front-passes f.is_no_brace s)) (λ _. plain-front b.in_width s) where
  by_len : (n : ℕ) → list_all f.is_no_brace (take n s) ≡ true → IsSpelledFront s (f.description_or n b.in_width s)
  by_len zero h = plain-front b.in_width s
  by_len (suc n) h = h

Reads-spelled : {b c : Before} {n m : ℕ} {s t : List ℕ} {ts : List Lexeme} → Reads b n s ts c m t → All IsSpelledToken ts
Reads-spelled done = All-nil IsSpelledToken
Reads-spelled (gap e p) = Reads-spelled p
Reads-spelled {b} {c} {n} {m} {s} (token {i = i} {ts = ts} {x = x} e p) = All-cons IsSpelledToken (lexeme x (take i s) n) ts (subst (IsSpelledFront s) e (front-spelled b s)) (Reads-spelled p)

pub row-spelled : (source : List ℕ) (ts : List Lexeme) → IsRow source ts → All IsSpelledToken ts
row-spelled source ts p = Reads-spelled p.2

-- ---- where the code cuts

pub quote-boundary : (s : List ℕ) (n : ℕ) → n ≡ position_or_len is_quote s → n ≤ length s → IsCharBoundary s n
quote-boundary s n e le = (
  le,
  λ lt high.
      let first : position_or_len is_quote s < length s = omega arith in
      let here = eqb-true (get_or s (position_or_len is_quote s) 0) 39 (passes_at_first is_quote s 0 first) in
      let same : get_or s n 0 ≡ 39 = ap (λ i. get_or s i 0) e ∙ here in
      absurd (omega arith),
)

pub quoted-first : (s : List ℕ) → IsUtf8 s → IsQuoted s → IsCharBoundary s 1
quoted-first [] utf8 q = let len = ap length q.quotes in absurd (omega arith)
quoted-first (c ∷ s) utf8 q = let is : c ≡ 34 = let e = q.quotes in cc in IsCharBoundary-after_ascii (c ∷ s) 0 utf8 (omega arith) (omega arith)
