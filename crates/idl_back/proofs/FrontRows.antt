-- Rows of signs, words of the language, special words and separators, by a test of their texts.
use Rattle.std.proofs.Common.{◌≡◌, inl, inr, ℕ, ◌==◌, ◌<◌, ◌^◌, Bool, true, false, not, ◌&&◌, ◌||◌, List, [], ◌∷◌, ◌++◌, length, refl, sym, subst, true≢false, bytes_eq, decimal}
use Rattle.std.specs.List.{list_all}
use Rattle.std.proofs.lemmas.Bool.{and_parts, not-true, or_cases}
use Rattle.std.proofs.lemmas.Slice.Eq.{bytes_eq-Decides}
use Rattle.idl_token.specs.declared.kinds.Sign.{Sign}
use Rattle.idl_token.specs.declared.kinds.TokenKind.TheVariants as k
use Rattle.idl_token.specs.Spelling.{reserved_text, special_text, sign_text}
use Rattle.idl_token.specs.Numbers.{begins}
use Rattle.idl_token.specs.Values.{IsWord}
use Rattle.idl_token.specs.Front.{is_no_quote}
use Rattle.idl_back.specs.Piece.{Piece, token, gap, text_of, Sits, ends_before, ends_sign, keeps_flag, goes_on, between_quotes}
use Rattle.idl_back.proofs.Pieces.{sits_none, sits_append}
use Rattle.idl_back.proofs.FrontBytes.{sits_gap}
use Rattle.idl_back.proofs.FrontWords.{word_sits, reserved_sits, special_sits}
use Rattle.idl_back.proofs.FrontSigns.{sign_sits, alone_sits}
use Rattle.idl_back.proofs.FrontNumbers.{number_sits}
use Rattle.idl_back.proofs.FrontTexts.{text_sits}

-- the premise of signs with its parts turned, so that it computes where the flag is a variable
turned_about : (a b : Bool) → (a && b) ≡ false → (b && a) ≡ false
turned_about true true h = h
turned_about true false h = refl
turned_about false true h = refl
turned_about false false h = refl

pub sign_within : (w : Bool) (x : Sign) (s : List ℕ) → (begins 62 (sign_text x) && w) ≡ false → ends_sign s ≡ true → Sits w (token (k.Sign x) (sign_text x) ∷ []) s w
sign_within w x s h e = sign_sits w x s (turned_about (begins 62 (sign_text x)) w h) e

-- outside a width
pub sign_outside : (x : Sign) (s : List ℕ) → ends_sign s ≡ true → Sits false (token (k.Sign x) (sign_text x) ∷ []) s false
sign_outside x s e = sign_sits false x s refl e

-- whether the piece is such a token or byte and stands before the text
abbrev pub piece_stands : Bool → Piece → List ℕ → Bool
piece_stands w (gap c) s = (c == 32) || (c == 10)
piece_stands w (token (k.Sign x) y) s = bytes_eq y (sign_text x) && (not (begins 62 (sign_text x) && w) && (not (goes_on x) || ends_sign s))
piece_stands w (token (k.Reserved x) y) s = bytes_eq y (reserved_text x) && (keeps_flag (k.Reserved x) && ends_before s)
piece_stands w (token (k.Special p) y) s = bytes_eq y (special_text p) && keeps_flag (k.Special p)
piece_stands w (token _ y) s = false

abbrev pub row_stands : Bool → List Piece → List ℕ → Bool
row_stands w [] s = true
row_stands w (p ∷ ps) s = piece_stands w p (text_of ps ++ s) && row_stands w ps s

same_text : (x y : List ℕ) → bytes_eq x y ≡ true → y ≡ x
same_text x y h = sym ((bytes_eq-Decides x y).0 h)

piece_sits : (w : Bool) (p : Piece) (s : List ℕ) → piece_stands w p s ≡ true → Sits w (p ∷ []) s w
piece_sits w (gap c) s h = sits_gap w c s h
piece_sits w (token (k.Sign x) y) s h =
    let one = and_parts (bytes_eq y (sign_text x)) (not (begins 62 (sign_text x) && w) && (not (goes_on x) || ends_sign s)) h in
    let two = and_parts (not (begins 62 (sign_text x) && w)) (not (goes_on x) || ends_sign s) one.1 in
    let apart = turned_about (begins 62 (sign_text x)) w (not-true (begins 62 (sign_text x) && w) two.0) in
    subst (λ (z : List ℕ). Sits w (token (k.Sign x) z ∷ []) s w) (same_text y (sign_text x) one.0)
    (elim (or_cases (not (goes_on x)) (ends_sign s) two.1) [ inl q ↦ alone_sits w x s apart (not-true (goes_on x) q) | inr q ↦ sign_sits w x s apart q ])
piece_sits w (token (k.Reserved x) y) s h =
    let one = and_parts (bytes_eq y (reserved_text x)) (keeps_flag (k.Reserved x) && ends_before s) h in
    let two = and_parts (keeps_flag (k.Reserved x)) (ends_before s) one.1 in
    subst (λ (z : List ℕ). Sits w (token (k.Reserved x) z ∷ []) s w) (same_text y (reserved_text x) one.0) (reserved_sits w x s two.0 two.1)
piece_sits w (token (k.Special p) y) s h =
    let one = and_parts (bytes_eq y (special_text p)) (keeps_flag (k.Special p)) h in
    subst (λ (z : List ℕ). Sits w (token (k.Special p) z ∷ []) s w) (same_text y (special_text p) one.0) (special_sits w p s one.1)
piece_sits w (token k.Word y) s h = absurd (true≢false (sym h))
piece_sits w (token k.Number y) s h = absurd (true≢false (sym h))
piece_sits w (token k.Sized y) s h = absurd (true≢false (sym h))
piece_sits w (token k.Text y) s h = absurd (true≢false (sym h))
piece_sits w (token k.Description y) s h = absurd (true≢false (sym h))

-- by `refl` where all is written out, and what follows is too as far as the last piece asks
pub row_sits : (w : Bool) (ps : List Piece) (s : List ℕ) → row_stands w ps s ≡ true → Sits w ps s w
row_sits w [] s h = sits_none w s
row_sits w (p ∷ ps) s h =
    let one = and_parts (piece_stands w p (text_of ps ++ s)) (row_stands w ps s) h in
    sits_append w w w (p ∷ []) ps s (piece_sits w p (text_of ps ++ s) one.0) (row_sits w ps s one.1)

-- a sign between two spaces
pub spaced_sits : (x : Sign) (s : List ℕ) → Sits false (gap 32 ∷ token (k.Sign x) (sign_text x) ∷ gap 32 ∷ []) s false
spaced_sits x s =
    sits_append false false false (gap 32 ∷ []) (token (k.Sign x) (sign_text x) ∷ gap 32 ∷ []) s (sits_gap false 32 (text_of (token (k.Sign x) (sign_text x) ∷ gap 32 ∷ []) ++ s) refl)
    (sits_append false false false (token (k.Sign x) (sign_text x) ∷ []) (gap 32 ∷ []) s (sign_outside x (32 ∷ s) refl) (sits_gap false 32 s refl))

-- ---- with words, numbers and texts among them

abbrev pub PieceStands : Bool → Piece → List ℕ → Type 0
PieceStands w (token k.Word y) s = IsWord y × (0 < length y) × (ends_before s ≡ true)
PieceStands w (token k.Number y) s = (n : ℕ) × (n < 2 ^ 128) × (y ≡ decimal n) × (ends_before s ≡ true)
PieceStands w (token k.Text y) s = (x : List ℕ) × (list_all is_no_quote x ≡ true) × (y ≡ between_quotes x)
PieceStands w (token k.Sized y) s = Sits w (token k.Sized y ∷ []) s w
PieceStands w p s = piece_stands w p s ≡ true

abbrev pub RowStands : Bool → List Piece → List ℕ → Type 0
RowStands w [] s = Unit {0}
RowStands w (p ∷ ps) s = PieceStands w p (text_of ps ++ s) × RowStands w ps s

mixed_piece : (w : Bool) (p : Piece) (s : List ℕ) → PieceStands w p s → Sits w (p ∷ []) s w
mixed_piece w (gap c) s h = piece_sits w (gap c) s h
mixed_piece w (token k.Word y) s h = word_sits w y s h.0 h.1 h.2
mixed_piece w (token k.Number y) s h = subst (λ (z : List ℕ). Sits w (token k.Number z ∷ []) s w) (sym h.2) (number_sits w h.0 s h.1 h.3)
mixed_piece w (token k.Text y) s h = subst (λ (z : List ℕ). Sits w (token k.Text z ∷ []) s w) (sym h.2) (text_sits w h.0 s h.1)
mixed_piece w (token k.Sized y) s h = h
mixed_piece w (token (k.Sign x) y) s h = piece_sits w (token (k.Sign x) y) s h
mixed_piece w (token (k.Reserved x) y) s h = piece_sits w (token (k.Reserved x) y) s h
mixed_piece w (token (k.Special x) y) s h = piece_sits w (token (k.Special x) y) s h
mixed_piece w (token k.Description y) s h = piece_sits w (token k.Description y) s h

pub mixed_sits : (w : Bool) (ps : List Piece) (s : List ℕ) → RowStands w ps s → Sits w ps s w
mixed_sits w [] s h = sits_none w s
mixed_sits w (p ∷ ps) s h = sits_append w w w (p ∷ []) ps s (mixed_piece w p (text_of ps ++ s) h.0) (mixed_sits w ps s h.1)
