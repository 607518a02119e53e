-- Words, words of the language and special words in front.
use Rattle.std.proofs.Common.{◌≡◌, ℕ, ◌<◌, ◌==◌, nat_eq, nat_lt, Bool, true, false, not, ◌&&◌, List, [], ◌∷◌, ◌++◌, length, Option, refl, ap, ◌∙◌, arith, codes}
use Rattle.std.specs.List.{starts_with, list_all}
use Rattle.std.specs.Str.{bytes_eq}
use Rattle.std.proofs.lemmas.Bool.{and_parts, and_from, and_left, and_right, not-true, not_from_true, ltb-true}
use Rattle.std.proofs.Math.Seq.{take-append_seam, drop-append_seam}
use Rattle.idl_token.specs.declared.kinds.Reserved.{Reserved}
use Rattle.idl_token.specs.declared.kinds.TokenKind.TheVariants as k
use Rattle.idl_token.specs.declared.kinds.Special.{Special}
use Rattle.idl_token.specs.declared.kinds.Special.TheVariants as p
use Rattle.idl_token.specs.declared.front.Front.TheVariants.{Token}
use Rattle.idl_token.specs.Spelling.{reserved_text, special_text, reserved_words, special_words}
use Rattle.idl_token.specs.Numbers.{begins_digit}
use Rattle.idl_token.specs.Values.{IsWord}
use Rattle.idl_token.specs.Front as f
use Rattle.idl_token.proofs.SignLemmas.{reserved-itself}
use Rattle.idl_grammar.specs.Tables.{mxlen, sw_read, sw_write}
use Rattle.idl_back.specs.Piece.{token, flagged, Sits, ends_before, keeps_flag}
use Rattle.idl_back.proofs.FrontBytes.{found_passes, differs, differs_from, turned, stops, prefix_ends, no_gap, no_special, plain_front, plain_other, other_word, no_tail, keeps, sits_token}

-- a word doesn't go on, also not to a special word
abbrev pub ends_word : List ℕ → Bool
ends_word [] = true
ends_word (c ∷ s) = not (f.is_word_byte c) && not (c == 63)

pub ends_word_from : (s : List ℕ) → ends_before s ≡ true → ends_word s ≡ true
ends_word_from [] e = refl
ends_word_from (c ∷ s) e =
    let one = and_parts (not (f.is_word_byte c)) (not (c == 39) && not (c == 63)) e in
    and_from (not (f.is_word_byte c)) (not (c == 63)) one.0 (and_parts (not (c == 39)) (not (c == 63)) one.1).1

pub word_stops : (s : List ℕ) → ends_word s ≡ true → stops f.is_word_byte s ≡ true
word_stops [] e = refl
word_stops (c ∷ s) e = (and_parts (not (f.is_word_byte c)) (not (c == 63)) e).0

-- bytes of a word behind which none comes begin no text of such bytes with a question mark behind
no_mark : (x s y : List ℕ) → list_all f.is_word_byte x ≡ true → ends_word s ≡ true → list_all f.is_word_byte y ≡ true → starts_with nat_eq (x ++ s) (y ++ 63 ∷ []) ≡ false
no_mark [] [] [] hx e hy = refl
no_mark [] [] (d ∷ y) hx e hy = refl
no_mark [] (c ∷ s) [] hx e hy = and_left (63 == c) _ (turned c 63 (not-true (c == 63) (and_parts (not (f.is_word_byte c)) (not (c == 63)) e).1))
no_mark [] (c ∷ s) (d ∷ y) hx e hy =
    let here = (and_parts (not (f.is_word_byte c)) (not (c == 63)) e).0 in
    let there = (and_parts (f.is_word_byte d) (list_all f.is_word_byte y) hy).0 in
    and_left (d == c) _ (differs (λ (x : ℕ). not (f.is_word_byte x)) d c (not_from_true (f.is_word_byte d) there) here)
no_mark (c ∷ x) s [] hx e hy = and_left (63 == c) _ (differs f.is_word_byte 63 c refl (and_parts (f.is_word_byte c) (list_all f.is_word_byte x) hx).0)
no_mark (c ∷ x) s (d ∷ y) hx e hy = and_right (d == c) _ (no_mark x s y (and_parts (f.is_word_byte c) (list_all f.is_word_byte x) hx).1 e (and_parts (f.is_word_byte d) (list_all f.is_word_byte y) hy).1)

word_special : (c : ℕ) (x s : List ℕ) → list_all f.is_word_byte (c ∷ x) ≡ true → ends_word s ≡ true → (w : Special) → starts_with nat_eq (c ∷ (x ++ s)) (special_text w) ≡ false
word_special c x s h e p.Implemented = no_mark (c ∷ x) s (codes "implemented") h e refl
word_special c x s h e p.ImplementedVersion = no_mark (c ∷ x) s (codes "implemented_version") h e refl
word_special c x s h e p.AsSigned = and_left (36 == c) _ (differs f.is_word_byte 36 c refl (and_parts (f.is_word_byte c) (list_all f.is_word_byte x) h).0)
word_special c x s h e p.Resize = and_left (36 == c) _ (differs f.is_word_byte 36 c refl (and_parts (f.is_word_byte c) (list_all f.is_word_byte x) h).0)
word_special c x s h e p.WidthOf = and_left (36 == c) _ (differs f.is_word_byte 36 c refl (and_parts (f.is_word_byte c) (list_all f.is_word_byte x) h).0)
word_special c x s h e p.Pc = and_left (36 == c) _ (differs f.is_word_byte 36 c refl (and_parts (f.is_word_byte c) (list_all f.is_word_byte x) h).0)
word_special c x s h e p.Encoding = and_left (36 == c) _ (differs f.is_word_byte 36 c refl (and_parts (f.is_word_byte c) (list_all f.is_word_byte x) h).0)

word_no_gap : (c : ℕ) (t : List ℕ) → f.is_word_byte c ≡ true → f.gap_at (c ∷ t) ≡ 0
word_no_gap c t h = no_gap c t (differs_from f.is_word_byte 32 c refl h) (differs_from f.is_word_byte 10 c refl h) (differs_from f.is_word_byte 35 c refl h)

-- bytes of a word in front are no separator and no special word
pub word_other : (w : Bool) (c : ℕ) (x s : List ℕ) → list_all f.is_word_byte (c ∷ x) ≡ true → ends_word s ≡ true → f.front_at (flagged w) (c ∷ (x ++ s)) ≡ f.other_at w (c ∷ (x ++ s))
word_other w c x s h e =
    plain_front w (c ∷ (x ++ s))
    ∙ plain_other w (c ∷ (x ++ s)) (word_no_gap c (x ++ s) (and_parts (f.is_word_byte c) (list_all f.is_word_byte x) h).0) (no_special (c ∷ (x ++ s)) (word_special c x s h e))

pub word_front : (w : Bool) (x s : List ℕ) → list_all f.is_word_byte x ≡ true → begins_digit 10 x ≡ false → 0 < length x → ends_word s ≡ true → f.front_at (flagged w) (x ++ s) ≡ f.worded (f.reserved_of x) (length x) (x ++ s)
word_front w [] s h d some e = absurd (omega arith)
word_front w (c ∷ x) s h d some e =
    word_other w c x s h e
    ∙ other_word w c (x ++ s) d (and_parts (f.is_word_byte c) (list_all f.is_word_byte x) h).0
    ∙ ap (λ (n : ℕ). f.word_in n (c ∷ (x ++ s))) (prefix_ends f.is_word_byte (c ∷ x) s h (word_stops s e))
    ∙ ap (λ (y : List ℕ). f.worded (f.reserved_of y) (length (c ∷ x)) (c ∷ (x ++ s))) (take-append_seam (c ∷ x) s)

-- ---- words

-- a word that is none of the language's, with the tail that stands behind it
pub word_tail : (w : Bool) (x s : List ℕ) → IsWord x → 0 < length x → ends_word s ≡ true → f.front_at (flagged w) (x ++ s) ≡ f.with_tail k.Word (length x) (f.tail_at s)
word_tail w x s h some e =
    word_front w x s h.bytes h.first some e
    ∙ ap (λ (o : Option Reserved). f.worded o (length x) (x ++ s)) h.plain
    ∙ ap (λ (r : List ℕ). f.with_tail k.Word (length x) (f.tail_at r)) (drop-append_seam x s)

pub word_sits : (w : Bool) (x s : List ℕ) → IsWord x → 0 < length x → ends_before s ≡ true → Sits w (token k.Word x ∷ []) s w
word_sits w x s h some e =
    sits_token w w k.Word x s (word_tail w x s h some (ends_word_from s e) ∙ ap (λ (n : ℕ). f.with_tail k.Word (length x) n) (no_tail s e)) (keeps w k.Word refl)

-- ---- words of the language

abbrev pub is_fit : List ℕ → Bool
is_fit x = list_all f.is_word_byte x && (not (begins_digit 10 x) && nat_lt 0 (length x))

all_fit : list_all (λ (w : Reserved). is_fit (reserved_text w)) reserved_words ≡ true
unfolding reserved_words
all_fit = refl

pub reserved_fit : (r : Reserved) → is_fit (reserved_text r) ≡ true
reserved_fit r = found_passes (λ v. bytes_eq (reserved_text r) (reserved_text v)) (λ v. is_fit (reserved_text v)) reserved_words r all_fit (reserved-itself r)

pub reserved_front : (w : Bool) (r : Reserved) (s : List ℕ) → ends_before s ≡ true → f.front_at (flagged w) (reserved_text r ++ s) ≡ Token (k.Reserved r) (length (reserved_text r))
reserved_front w r s e =
    let x = reserved_text r in
    let one = and_parts (list_all f.is_word_byte (reserved_text r)) (not (begins_digit 10 (reserved_text r)) && nat_lt 0 (length (reserved_text r))) (reserved_fit r) in
    let two = and_parts (not (begins_digit 10 (reserved_text r))) (nat_lt 0 (length (reserved_text r))) one.1 in
    word_front w (reserved_text r) s one.0 (not-true (begins_digit 10 (reserved_text r)) two.0) (ltb-true 0 (length (reserved_text r)) two.1) (ends_word_from s e)
    ∙ ap (λ (o : Option Reserved). f.worded o (length (reserved_text r)) (reserved_text r ++ s)) (reserved-itself r)

pub reserved_sits : (w : Bool) (r : Reserved) (s : List ℕ) → keeps_flag (k.Reserved r) ≡ true → ends_before s ≡ true → Sits w (token (k.Reserved r) (reserved_text r) ∷ []) s w
reserved_sits w r s h e = sits_token w w (k.Reserved r) (reserved_text r) s (reserved_front w r s e) (keeps w (k.Reserved r) h)

-- ---- special words

pub special_front : (w : Bool) (x : Special) (s : List ℕ) → f.front_at (flagged w) (special_text x ++ s) ≡ Token (k.Special x) (length (special_text x))
unfolding f.front_at special_words
special_front w p.Implemented s = refl
special_front w p.ImplementedVersion s = refl
special_front w p.AsSigned s = refl
special_front w p.Resize s = refl
special_front w p.WidthOf s = refl
special_front w p.Pc s = refl
special_front w p.Encoding s = refl

pub special_sits : (w : Bool) (x : Special) (s : List ℕ) → keeps_flag (k.Special x) ≡ true → Sits w (token (k.Special x) (special_text x) ∷ []) s w
special_sits w x s h = sits_token w w (k.Special x) (special_text x) s (special_front w x s) (keeps w (k.Special x) h)

-- ---- the words that the grammar names

pub mxlen_word : IsWord mxlen
unfolding reserved_words
mxlen_word = record { bytes = refl; first = refl; plain = refl }

pub sw_read_word : IsWord sw_read
unfolding reserved_words
sw_read_word = record { bytes = refl; first = refl; plain = refl }

pub sw_write_word : IsWord sw_write
unfolding reserved_words
sw_write_word = record { bytes = refl; first = refl; plain = refl }
