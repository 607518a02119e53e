-- Signs in front, and what opens and closes a width.
use Rattle.std.proofs.Common.{◌≡◌, ℕ, ◌==◌, nat_eq, Bool, true, false, not, ◌&&◌, ◌||◌, List, [], ◌∷◌, ◌++◌, length, Option, Some, refl, sym, ap, ◌∙◌, cond, true≢false, append-nil}
use Rattle.std.specs.Char.{is_digit}
use Rattle.std.specs.List.{starts_with, list_all}
use Rattle.std.proofs.lemmas.Bool.{and_parts, and_right, not-true, not_from_false, or_from}
use Rattle.idl_token.specs.declared.kinds.Reserved.{Reserved}
use Rattle.idl_token.specs.declared.kinds.Special.{Special}
use Rattle.idl_token.specs.declared.kinds.Sign.{Sign}
use Rattle.idl_token.specs.declared.kinds.Sign.TheVariants as g
use Rattle.idl_token.specs.declared.kinds.TokenKind.{TokenKind}
use Rattle.idl_token.specs.declared.kinds.TokenKind.TheVariants as k
use Rattle.idl_token.specs.declared.front.Front.TheVariants.{Token}
use Rattle.idl_token.specs.Spelling.{reserved_text, special_text, sign_text, signs}
use Rattle.idl_token.specs.Numbers.{begins}
use Rattle.idl_token.specs.Front as f
use Rattle.idl_token.proofs.SignLemmas.{sign-itself}
use Rattle.idl_back.specs.Piece.{token, flagged, Sits, is_sign_more, ends_sign, is_part_byte, begins_part, goes_on}
use Rattle.idl_back.proofs.FrontBytes.{found_passes, differs, differs_from, no_gap, no_special, other_first, plain_front, plain_other, other_sign, keeps, opens_width, closes_width, sits_token}
use Rattle.idl_back.proofs.FrontWords.{reserved_front, special_front}

-- ---- all signs

each_sign : (q : Sign → Bool) → list_all q signs ≡ true → (x : Sign) → q x ≡ true
each_sign q all x = found_passes (λ v. starts_with nat_eq (sign_text x) (sign_text v)) q signs x all (sign-itself x)

-- a byte with which no separator, number, word, text or special word begins
abbrev is_first : ℕ → Bool
is_first c = (not (is_digit c 10) && not (f.is_word_byte c)) && (not (c == 32) && (not (c == 10) && (not (c == 34) && (not (c == 35) && not (c == 36)))))

abbrev starts : List ℕ → Bool
starts [] = false
starts (c ∷ s) = is_first c

all_start : list_all (λ (x : Sign). starts (sign_text x)) signs ≡ true
unfolding signs
all_start = refl

all_apart : list_all (λ (x : Sign). begins 62 (sign_text x) || not (f.is_greater (k.Sign x))) signs ≡ true
unfolding signs
all_apart = refl

sign_starts : (x : Sign) → starts (sign_text x) ≡ true
sign_starts x = each_sign (λ (y : Sign). starts (sign_text y)) all_start x

-- ---- where a sign is looked for

sign_plain : (w : Bool) (y s : List ℕ) → starts y ≡ true → f.plain_at w (y ++ s) ≡ f.sign_at w (y ++ s)
sign_plain w [] s h = absurd (true≢false (sym h))
sign_plain w (c ∷ y) s h =
    let kind = and_parts (not (is_digit c 10)) (not (f.is_word_byte c)) (and_parts (not (is_digit c 10) && not (f.is_word_byte c)) (not (c == 32) && (not (c == 10) && (not (c == 34) && (not (c == 35) && not (c == 36))))) h).0 in
    plain_other w (c ∷ (y ++ s)) (no_gap c (y ++ s) (differs_from is_first 32 c refl h) (differs_from is_first 10 c refl h) (differs_from is_first 35 c refl h))
    (no_special (c ∷ (y ++ s)) (other_first c (y ++ s) (differs is_first 105 c refl h) (differs is_first 36 c refl h)))
    ∙ other_sign w c (y ++ s) (not-true (is_digit c 10) kind.0) (not-true (f.is_word_byte c) kind.1) (differs_from is_first 34 c refl h)

begins_same : (a : ℕ) (y s : List ℕ) → starts y ≡ true → begins a (y ++ s) ≡ begins a y
begins_same a [] s h = absurd (true≢false (sym h))
begins_same a (c ∷ y) s h = refl

pub sign_front : (w : Bool) (x : Sign) (s : List ℕ) → (w && begins 62 (sign_text x)) ≡ false → f.sign_of (sign_text x ++ s) ≡ Some x → f.plain_at w (sign_text x ++ s) ≡ Token (k.Sign x) (length (sign_text x))
sign_front w x s h e =
    sign_plain w (sign_text x) s (sign_starts x)
    ∙ ap (λ (b : Bool). cond (w && b) (Token (k.Sign g.Greater) 1) (f.signed (f.sign_of (sign_text x ++ s)))) (begins_same 62 (sign_text x) s (sign_starts x))
    ∙ ap (λ (b : Bool). cond b (Token (k.Sign g.Greater) 1) (f.signed (f.sign_of (sign_text x ++ s)))) h
    ∙ ap (λ (o : Option Sign). f.signed o) e

-- ---- which sign it is

pub sign_alone : (x : Sign) (s : List ℕ) → goes_on x ≡ false → f.sign_of (sign_text x ++ s) ≡ Some x
unfolding signs
sign_alone g.OpenParen s e = refl
sign_alone g.CloseParen s e = refl
sign_alone g.OpenBracket s e = refl
sign_alone g.CloseBracket s e = refl
sign_alone g.OpenBrace s e = refl
sign_alone g.CloseBrace s e = refl
sign_alone g.Less s e = absurd (true≢false e)
sign_alone g.Greater s e = absurd (true≢false e)
sign_alone g.Comma s e = refl
sign_alone g.Semicolon s e = refl
sign_alone g.Colon s e = absurd (true≢false e)
sign_alone g.Dot s e = refl
sign_alone g.Path s e = refl
sign_alone g.Question s e = refl
sign_alone g.Assign s e = absurd (true≢false e)
sign_alone g.Equal s e = refl
sign_alone g.NotEqual s e = refl
sign_alone g.AtMost s e = refl
sign_alone g.AtLeast s e = refl
sign_alone g.Left s e = refl
sign_alone g.Right s e = absurd (true≢false e)
sign_alone g.RightSigned s e = refl
sign_alone g.WideLeft s e = refl
sign_alone g.WidePlus s e = refl
sign_alone g.WideMinus s e = refl
sign_alone g.WideTimes s e = refl
sign_alone g.Plus s e = absurd (true≢false e)
sign_alone g.Minus s e = refl
sign_alone g.Times s e = refl
sign_alone g.Divide s e = refl
sign_alone g.Remainder s e = refl
sign_alone g.Ampersand s e = absurd (true≢false e)
sign_alone g.Bar s e = absurd (true≢false e)
sign_alone g.Caret s e = refl
sign_alone g.Tilde s e = refl
sign_alone g.Not s e = absurd (true≢false e)
sign_alone g.And s e = refl
sign_alone g.Or s e = refl
sign_alone g.Increment s e = refl

unlike : (a c : ℕ) → not (is_sign_more a) ≡ false → not (is_sign_more c) ≡ true → (a == c) ≡ false
unlike a c off on = differs (λ (x : ℕ). not (is_sign_more x)) a c off on

sign_before : (x : Sign) (c : ℕ) (s : List ℕ) → not (is_sign_more c) ≡ true → f.sign_of (sign_text x ++ (c ∷ s)) ≡ Some x
unfolding signs
sign_before g.Less c s h = rw (unlike 61 c refl h, unlike 60 c refl h) refl
sign_before g.Greater c s h = rw (unlike 62 c refl h, unlike 61 c refl h) refl
sign_before g.Colon c s h = rw (unlike 58 c refl h) refl
sign_before g.Assign c s h = rw (unlike 61 c refl h) refl
sign_before g.Not c s h = rw (unlike 61 c refl h) refl
sign_before g.Plus c s h = rw (unlike 43 c refl h) refl
sign_before g.Ampersand c s h = rw (unlike 38 c refl h) refl
sign_before g.Bar c s h = rw (unlike 124 c refl h) refl
sign_before g.Right c s h = rw (unlike 62 c refl h) refl
sign_before g.OpenParen c s h = sign_alone g.OpenParen (c ∷ s) refl
sign_before g.CloseParen c s h = sign_alone g.CloseParen (c ∷ s) refl
sign_before g.OpenBracket c s h = sign_alone g.OpenBracket (c ∷ s) refl
sign_before g.CloseBracket c s h = sign_alone g.CloseBracket (c ∷ s) refl
sign_before g.OpenBrace c s h = sign_alone g.OpenBrace (c ∷ s) refl
sign_before g.CloseBrace c s h = sign_alone g.CloseBrace (c ∷ s) refl
sign_before g.Comma c s h = sign_alone g.Comma (c ∷ s) refl
sign_before g.Semicolon c s h = sign_alone g.Semicolon (c ∷ s) refl
sign_before g.Dot c s h = sign_alone g.Dot (c ∷ s) refl
sign_before g.Path c s h = sign_alone g.Path (c ∷ s) refl
sign_before g.Question c s h = sign_alone g.Question (c ∷ s) refl
sign_before g.Equal c s h = sign_alone g.Equal (c ∷ s) refl
sign_before g.NotEqual c s h = sign_alone g.NotEqual (c ∷ s) refl
sign_before g.AtMost c s h = sign_alone g.AtMost (c ∷ s) refl
sign_before g.AtLeast c s h = sign_alone g.AtLeast (c ∷ s) refl
sign_before g.Left c s h = sign_alone g.Left (c ∷ s) refl
sign_before g.RightSigned c s h = sign_alone g.RightSigned (c ∷ s) refl
sign_before g.WideLeft c s h = sign_alone g.WideLeft (c ∷ s) refl
sign_before g.WidePlus c s h = sign_alone g.WidePlus (c ∷ s) refl
sign_before g.WideMinus c s h = sign_alone g.WideMinus (c ∷ s) refl
sign_before g.WideTimes c s h = sign_alone g.WideTimes (c ∷ s) refl
sign_before g.Minus c s h = sign_alone g.Minus (c ∷ s) refl
sign_before g.Times c s h = sign_alone g.Times (c ∷ s) refl
sign_before g.Divide c s h = sign_alone g.Divide (c ∷ s) refl
sign_before g.Remainder c s h = sign_alone g.Remainder (c ∷ s) refl
sign_before g.Caret c s h = sign_alone g.Caret (c ∷ s) refl
sign_before g.Tilde c s h = sign_alone g.Tilde (c ∷ s) refl
sign_before g.And c s h = sign_alone g.And (c ∷ s) refl
sign_before g.Or c s h = sign_alone g.Or (c ∷ s) refl
sign_before g.Increment c s h = sign_alone g.Increment (c ∷ s) refl

pub sign_ends : (x : Sign) (s : List ℕ) → ends_sign s ≡ true → f.sign_of (sign_text x ++ s) ≡ Some x
sign_ends x [] e = ap (λ (t : List ℕ). f.sign_of t) (append-nil (sign_text x)) ∙ sign-itself x
sign_ends x (c ∷ s) e = sign_before x c s e

-- an operand goes on no sign
pub part_ends : (s : List ℕ) → begins_part s ≡ true → ends_sign s ≡ true
part_ends [] h = refl
part_ends (c ∷ s) h =
    not_from_false (is_sign_more c)
    (or_from (61 == c) _ (differs is_part_byte 61 c refl h)
    (or_from (62 == c) _ (differs is_part_byte 62 c refl h)
    (or_from (60 == c) _ (differs is_part_byte 60 c refl h)
    (or_from (58 == c) _ (differs is_part_byte 58 c refl h)
    (or_from (43 == c) _ (differs is_part_byte 43 c refl h)
    (or_from (38 == c) (124 == c) (differs is_part_byte 38 c refl h) (differs is_part_byte 124 c refl h)))))))

-- ---- pieces

sign_leaves : (w : Bool) (x : Sign) → (w && begins 62 (sign_text x)) ≡ false → f.after (flagged w) (k.Sign x) ≡ flagged w
sign_leaves false x h = refl
sign_leaves true x h = keeps true (k.Sign x) (ap (λ (b : Bool). b || not (f.is_greater (k.Sign x))) (sym h) ∙ each_sign (λ (y : Sign). begins 62 (sign_text y) || not (f.is_greater (k.Sign y))) all_apart x)

-- In a width a `>` stands alone, so there no sign that begins with one.
pub sign_sits : (w : Bool) (x : Sign) (s : List ℕ) → (w && begins 62 (sign_text x)) ≡ false → ends_sign s ≡ true → Sits w (token (k.Sign x) (sign_text x) ∷ []) s w
sign_sits w x s h e = sits_token w w (k.Sign x) (sign_text x) s (plain_front w (sign_text x ++ s) ∙ sign_front w x s h (sign_ends x s e)) (sign_leaves w x h)

-- a sign with which no longer one begins, before any text
pub alone_sits : (w : Bool) (x : Sign) (s : List ℕ) → (w && begins 62 (sign_text x)) ≡ false → goes_on x ≡ false → Sits w (token (k.Sign x) (sign_text x) ∷ []) s w
alone_sits w x s h e = sits_token w w (k.Sign x) (sign_text x) s (plain_front w (sign_text x ++ s) ∙ sign_front w x s h (sign_alone x s e)) (sign_leaves w x h)

pub closing_sits : (s : List ℕ) → Sits true (token (k.Sign g.Greater) (sign_text g.Greater) ∷ []) s false
closing_sits s = sits_token true false (k.Sign g.Greater) (sign_text g.Greater) s (plain_front true (62 ∷ s) ∙ sign_plain true (62 ∷ []) s refl) closes_width

-- what stands in front behind one token
plain_behind : (w : Bool) (x : TokenKind) (s : List ℕ) → f.front_at (f.after (flagged w) x) s ≡ f.plain_at (f.after (flagged w) x).in_width s
unfolding f.front_at
plain_behind w x s = refl

less_behind : (w : Bool) (x : TokenKind) (s : List ℕ) → ends_sign s ≡ true → f.front_at (f.after (flagged w) x) (60 ∷ s) ≡ Token (k.Sign g.Less) 1
less_behind w x s e =
    plain_behind w x (60 ∷ s)
    ∙ sign_front (f.after (flagged w) x).in_width g.Less s (and_right (f.after (flagged w) x).in_width false refl) (sign_ends g.Less s e)

-- a word that takes a width, and the sign behind it
pub opening_sits : (w : Bool) (x : TokenKind) (y s : List ℕ) → f.takes_width x ≡ true → f.front_at (flagged w) (y ++ (60 ∷ s)) ≡ Token x (length y) → ends_sign s ≡ true
    → Sits w (token x y ∷ token (k.Sign g.Less) (sign_text g.Less) ∷ []) s true
opening_sits w x y s h front e = record { stands = (front, (less_behind w x s e, tt)); leaves = opens_width w x h }

pub reserved_opens : (w : Bool) (r : Reserved) (s : List ℕ) → f.takes_width (k.Reserved r) ≡ true → ends_sign s ≡ true → Sits w (token (k.Reserved r) (reserved_text r) ∷ token (k.Sign g.Less) (sign_text g.Less) ∷ []) s true
reserved_opens w r s h e = opening_sits w (k.Reserved r) (reserved_text r) s h (reserved_front w r (60 ∷ s) refl) e

pub special_opens : (w : Bool) (x : Special) (s : List ℕ) → f.takes_width (k.Special x) ≡ true → ends_sign s ≡ true → Sits w (token (k.Special x) (special_text x) ∷ token (k.Sign g.Less) (sign_text g.Less) ∷ []) s true
special_opens w x s h e = opening_sits w (k.Special x) (special_text x) s h (special_front w x (60 ∷ s)) e
