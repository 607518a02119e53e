-- The symbols of a row's tokens are spelled, the widths of sized numbers among them.
use Rattle.std.proofs.Common.{◌≡◌, ◌⊎◌, inl, inr, ℕ, zero, suc, ◌+◌, ◌<◌, ◌^◌, nat_lt, Bool, true, false, not, ◌&&◌, List, [], ◌∷◌, ◌++◌, length, take, drop, Option, Some, None, All, refl, sym, ap, ◌∙◌, subst, cond, arith, one-add, true≢false}
use Rattle.std.specs.Char.{is_digit}
use Rattle.std.specs.List.{prefix_len, list_all, before_first}
use Rattle.std.proofs.lemmas.Bool.{and_from, cond_both, cond-true, cond-false}
use Rattle.std.proofs.lemmas.List.Elements.{All-head, All-tail}
use Rattle.std.proofs.lemmas.List.Folds.{length-prefix_len}
use Rattle.std.proofs.Math.Seq.{take-append_seam, take-add}
use Rattle.idl_token.specs.declared.kinds.Reserved.{Reserved}
use Rattle.idl_token.specs.declared.kinds.Special.{Special}
use Rattle.idl_token.specs.declared.kinds.Sign.{Sign}
use Rattle.idl_token.specs.declared.kinds.Sign.TheVariants as g
use Rattle.idl_token.specs.declared.kinds.TokenKind.{TokenKind}
use Rattle.idl_token.specs.declared.kinds.TokenKind.TheVariants as k
use Rattle.idl_token.specs.declared.before.Before.{Before}
use Rattle.idl_token.specs.declared.front.Front.{Front}
use Rattle.idl_token.specs.declared.front.Front.TheVariants.{Token, Nothing}
use Rattle.idl_token.specs.Numbers.{Number, Parameter, SizedWidth, begins, begins_digit, is_quote, number_value, sized_parts, width_of}
use Rattle.idl_token.specs.Values.{IsWord, IsSpelled, IsSpelledToken, IsSmallWidth}
use Rattle.idl_token.specs.Lexeme.{Lexeme}
use Rattle.idl_token.specs.Front as f
use Rattle.idl_token.specs.Rows.{Reads, done, gap, token, IsRow, IsSlice}
use Rattle.idl_token.proofs.RowLemmas.{row-slices}
use Rattle.idl_token.proofs.ValueLemmas.{row-spelled, begins-take}
use Rattle.idl_token.specs.Symbol.{sized, symbols, symbol_by}
use Rattle.idl_back.specs.Spelled.{IsSpelledSymbol, AreSpelled}
use Rattle.idl_back.proofs.FrontBytes.{differs_from, stops, prefix_ends}
use Rattle.idl_back.proofs.FrontNumbers.{no_quotes}

-- ---- what stands before the quote of a sized number

-- a number or a word
abbrev IsSizedWidth : List ℕ → Type 0
IsSizedWidth x = (begins_digit 10 x ≡ true) ⊎ (IsWord x × (0 < length x))

abbrev HasWidth : TokenKind → List ℕ → Type 0
HasWidth k.Sized x = IsSizedWidth (before_first is_quote x)
HasWidth _ x = Unit {0}

abbrev WidthFront : List ℕ → Front → Type 0
WidthFront s (Token t n) = HasWidth t (take n s)
WidthFront s _ = Unit {0}

quote_stops : (r : List ℕ) → begins 39 r ≡ true → stops (λ c. not (is_quote c)) r ≡ true
quote_stops [] q = refl
quote_stops (c ∷ r) q = ap (λ (b : Bool). not (not b)) q

before_whole : (x r : List ℕ) → list_all f.is_word_byte x ≡ true → begins 39 r ≡ true → before_first is_quote (x ++ r) ≡ x
before_whole x r h q = ap (λ (i : ℕ). take i (x ++ r)) (prefix_ends (λ c. not (is_quote c)) x r (no_quotes x h) (quote_stops r q)) ∙ take-append_seam x r

tail_quote : (r : List ℕ) (m : ℕ) → f.tail_at r ≡ suc m → begins 39 r ≡ true
tail_quote r m = by_quote (begins 39 r) refl where
  by_quote : (b : Bool) → begins 39 r ≡ b → cond b (cond (begins 115 (drop 1 r)) (f.behind 2 (f.literal_at (drop 2 r))) (f.behind 1 (f.literal_at (drop 1 r)))) 0 ≡ suc m → begins 39 r ≡ true
  by_quote true q e = q
  by_quote false q e = absurd (omega arith)

digit_width : (s : List ℕ) (n : ℕ) → begins_digit 10 s ≡ true → 0 < n → begins_digit 10 (before_first is_quote (take n s)) ≡ true
digit_width [] n h some = absurd (true≢false (sym h))
digit_width (c ∷ s) zero h some = absurd (omega arith)
digit_width (c ∷ s) (suc n) h some =
    ap (λ (b : Bool). begins_digit 10 (take (cond (not b) (1 + prefix_len (λ x. not (is_quote x)) (take n s)) 0) (c ∷ take n s))) (differs_from (λ (y : ℕ). is_digit y 10) 39 c refl h)
    ∙ ap (λ (m : ℕ). begins_digit 10 (take m (c ∷ take n s))) (one-add (prefix_len (λ x. not (is_quote x)) (take n s)))
    ∙ h

-- ---- words in front

prefix_passes : (p : ℕ → Bool) (s : List ℕ) → list_all p (take (prefix_len p s) s) ≡ true
prefix_passes p [] = refl
prefix_passes p (c ∷ s) = by_test (p c) refl (prefix_passes p s) where
  by_test : (b : Bool) → p c ≡ b → list_all p (take (prefix_len p s) s) ≡ true → list_all p (take (cond b (1 + prefix_len p s) 0) (c ∷ s)) ≡ true
  by_test true e rest = ap (λ (m : ℕ). list_all p (take m (c ∷ s))) (one-add (prefix_len p s)) ∙ and_from (p c) (list_all p (take (prefix_len p s) s)) e rest
  by_test false e rest = refl

no_digit_taken : (n : ℕ) (s : List ℕ) → begins_digit 10 s ≡ false → begins_digit 10 (take n s) ≡ false
no_digit_taken zero s h = refl
no_digit_taken (suc n) [] h = refl
no_digit_taken (suc n) (c ∷ s) h = h

word_some : (s : List ℕ) → f.begins_word s ≡ true → 0 < prefix_len f.is_word_byte s
word_some [] h = absurd (true≢false (sym h))
word_some (c ∷ s) h = rw h (omega arith)

word_front_width : (s : List ℕ) → f.begins_word s ≡ true → begins_digit 10 s ≡ false → WidthFront s (f.word_at s)
word_front_width s h d = by_word (f.reserved_of (take (prefix_len f.is_word_byte s) s)) refl where
  by_tail : (m : ℕ) → f.tail_at (drop (prefix_len f.is_word_byte s) s) ≡ m → f.reserved_of (take (prefix_len f.is_word_byte s) s) ≡ None → WidthFront s (f.with_tail k.Word (prefix_len f.is_word_byte s) m)
  by_tail zero e plain = tt
  by_tail (suc m) e plain =
      let passes = prefix_passes f.is_word_byte s in
      let front : before_first is_quote (take (prefix_len f.is_word_byte s + suc m) s) ≡ take (prefix_len f.is_word_byte s) s
      = ap (λ (r : List ℕ). before_first is_quote r) (take-add (prefix_len f.is_word_byte s) (suc m) s)
      ∙ before_whole (take (prefix_len f.is_word_byte s) s) (take (suc m) (drop (prefix_len f.is_word_byte s) s)) passes (begins-take 39 m (drop (prefix_len f.is_word_byte s) s) ∙ tail_quote (drop (prefix_len f.is_word_byte s) s) m e) in
      let is : IsWord (take (prefix_len f.is_word_byte s) s) = record { bytes = passes; first = no_digit_taken (prefix_len f.is_word_byte s) s d; plain = plain } in
      let some : 0 < length (take (prefix_len f.is_word_byte s) s) = subst (λ (m : ℕ). 0 < m) (sym (length-prefix_len f.is_word_byte s)) (word_some s h) in
      subst (λ (r : List ℕ). IsSizedWidth r) (sym front) (inr (is, some))

  by_word : (o : Option Reserved) → f.reserved_of (take (prefix_len f.is_word_byte s) s) ≡ o → WidthFront s (f.worded o (prefix_len f.is_word_byte s) s)
  by_word (Some w) e = tt
  by_word None e = by_tail (f.tail_at (drop (prefix_len f.is_word_byte s) s)) refl e

-- ---- all fronts

number_front_width : (s : List ℕ) (n : ℕ) → begins_digit 10 s ≡ true → WidthFront s (f.numbered n s)
number_front_width s zero h = tt
number_front_width s (suc n) h = by_tail (f.tail_at (drop (suc n) s)) where
  by_tail : (m : ℕ) → WidthFront s (f.with_tail k.Number (suc n) m)
  by_tail zero = tt
  by_tail (suc m) = inl (digit_width s (suc n + suc m) h (omega arith))

text_front_width : (s : List ℕ) → WidthFront s (f.text_at s)
text_front_width s = by_end (nat_lt (prefix_len f.is_no_quote (drop 1 s)) (length (drop 1 s))) where
  by_end : (b : Bool) → WidthFront s (cond b (Token k.Text (prefix_len f.is_no_quote (drop 1 s) + 2)) Nothing)
  by_end true = tt
  by_end false = tt

sign_front_width : (w : Bool) (s : List ℕ) → WidthFront s (f.sign_at w s)
sign_front_width w s = by_width (w && begins 62 s) (f.sign_of s) where
  by_width : (b : Bool) (o : Option Sign) → WidthFront s (cond b (Token (k.Sign g.Greater) 1) (f.signed o))
  by_width true o = tt
  by_width false None = tt
  by_width false (Some x) = tt

other_front_width : (w : Bool) (s : List ℕ) → WidthFront s (f.other_at w s)
other_front_width w s = cond_both (begins_digit 10 s) (f.numbered (f.number_at s) s) (cond (f.begins_word s) (f.word_at s) (cond (begins 34 s) (f.text_at s) (f.sign_at w s))) (WidthFront s)
    (λ h. number_front_width s (f.number_at s) h)
    (λ d. cond_both (f.begins_word s) (f.word_at s) (cond (begins 34 s) (f.text_at s) (f.sign_at w s)) (WidthFront s)
    (λ h. word_front_width s h d)
    (λ _. cond_both (begins 34 s) (f.text_at s) (f.sign_at w s) (WidthFront s) (λ _. text_front_width s) (λ _. sign_front_width w s)))

plain_front_width : (w : Bool) (s : List ℕ) → WidthFront s (f.plain_at w s)
plain_front_width w s = by_gap (f.gap_at s) where
  by_special : (o : Option Special) → WidthFront s (f.special_or o w s)
  by_special None = other_front_width w s
  by_special (Some x) = tt

  by_gap : (n : ℕ) → WidthFront s (f.gap_or n w s)
  by_gap zero = by_special (f.special_of s)
  by_gap (suc n) = tt

front_width : (b : Before) (s : List ℕ) → WidthFront s (f.front_at b s)
unfolding f.front_at
front_width b s = cond_both b.in_description (f.description_or (prefix_len f.is_no_brace s) b.in_width s) (f.plain_at b.in_width s) (WidthFront s) (λ _. by_len (prefix_len f.is_no_brace s)) (λ _. plain_front_width b.in_width s) where
  by_len : (n : ℕ) → WidthFront s (f.description_or n b.in_width s)
  by_len zero = plain_front_width b.in_width s
  by_len (suc n) = tt

-- ---- rows

abbrev HaveWidths : List Lexeme → Type 0
HaveWidths [] = Unit {0}
HaveWidths (t ∷ ts) = HasWidth t.kind t.text × HaveWidths ts

reads_widths : {b c : Before} {n m : ℕ} {s t : List ℕ} {ts : List Lexeme} → Reads b n s ts c m t → HaveWidths ts
reads_widths done = tt
reads_widths (gap e p) = reads_widths p
reads_widths {b} {c} {n} {m} {s} (token e p) = (subst (WidthFront s) e (front_width b s), reads_widths p)

sized_spelled : (x : List ℕ) (u : Bool) (v : ℕ) → IsSmallWidth (width_of x) → v < 2 ^ 128 → IsSizedWidth x → IsSpelledSymbol (sized (width_of x) u v)
sized_spelled x u v small below (inl d) =
    let is : width_of x ≡ Number (number_value x) = cond-true (begins_digit 10 x) (Number (number_value x)) (Parameter x) d in
    let low : IsSmallWidth (Number (number_value x)) = subst (λ (z : SizedWidth). IsSmallWidth z) is small in
    subst (λ (z : SizedWidth). IsSpelledSymbol (sized z u v)) (sym is) (low, below)
sized_spelled x u v small below (inr h) =
    let is : width_of x ≡ Parameter x = cond-false (begins_digit 10 x) (Number (number_value x)) (Parameter x) h.0.first in
    subst (λ (z : SizedWidth). IsSpelledSymbol (sized z u v)) (sym is) (h.0, h.1, below)

symbol_spelled : (t : TokenKind) (x : List ℕ) → IsSpelled t x → 0 < length x → HasWidth t x → IsSpelledSymbol (symbol_by t x)
unfolding sized_parts
symbol_spelled k.Word x h some w = (h, some)
symbol_spelled (k.Reserved r) x h some w = tt
symbol_spelled (k.Special p) x h some w = tt
symbol_spelled k.Number x h some w = h
symbol_spelled k.Sized x h some w = sized_spelled (before_first is_quote x) (sized_parts x).is_signed (sized_parts x).value h.0 h.1.value w
symbol_spelled k.Text x h some w = h.inside
symbol_spelled k.Description x h some w = tt
symbol_spelled (k.Sign y) x h some w = tt

all_spelled : (source : List ℕ) (ts : List Lexeme) → All IsSpelledToken ts → All (IsSlice source) ts → HaveWidths ts → AreSpelled (symbols ts)
all_spelled source [] h slices widths = tt
all_spelled source (t ∷ ts) h slices widths = (
  symbol_spelled t.kind t.text (All-head IsSpelledToken t ts h) (All-head (IsSlice source) t ts slices).some widths.0,
  all_spelled source ts (All-tail IsSpelledToken t ts h) (All-tail (IsSlice source) t ts slices) widths.1,
)

pub row_symbols : (source : List ℕ) (ts : List Lexeme) → IsRow source ts → AreSpelled (symbols ts)
row_symbols source ts p = all_spelled source ts (row-spelled source ts p) (row-slices source ts p) (reads_widths p.2)
