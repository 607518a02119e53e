-- Fronts by their first bytes, and the flags that tokens leave.
use Rattle.std.proofs.Common.{◌≡◌, ℕ, ◌+◌, ◌==◌, nat_eq, Bool, true, false, not, ◌&&◌, ◌||◌, List, [], ◌∷◌, ◌++◌, length, take, drop, Option, Some, None, refl, sym, ap, ◌∙◌, subst, cond, one-add}
use Rattle.std.specs.Char.{is_digit}
use Rattle.std.specs.List.{find, prefix_len, starts_with, list_all}
use Rattle.std.proofs.lemmas.Bool.{and_parts, and_left, and_right, not-true, eqb-true, eqb-false, false_from_ne_true, both_ways, cond-true, cond-false}
use Rattle.std.proofs.Math.Seq.{take-append_seam}
use Rattle.idl_token.specs.declared.kinds.TokenKind.{TokenKind}
use Rattle.idl_token.specs.declared.kinds.TokenKind.TheVariants as k
use Rattle.idl_token.specs.declared.kinds.Special.{Special}
use Rattle.idl_token.specs.declared.kinds.Special.TheVariants as p
use Rattle.idl_token.specs.declared.kinds.Sign.TheVariants as g
use Rattle.idl_token.specs.declared.before.Before.{Before}
use Rattle.idl_token.specs.declared.front.Front.TheVariants.{Token}
use Rattle.idl_token.specs.Spelling.{special_text, special_words}
use Rattle.idl_token.specs.Numbers.{begins}
use Rattle.idl_token.specs.Front as f
use Rattle.idl_back.specs.Piece.{token, gap, flagged, Sits, ends_before, keeps_flag}

-- ---- bytes that differ by a test

pub differs : (p : ℕ → Bool) (a c : ℕ) → p a ≡ false → p c ≡ true → (a == c) ≡ false
differs p a c off on = false_from_ne_true (a == c) (λ e. both_ways (p c) (subst (λ (x : ℕ). p x ≡ false) (eqb-true a c e) off) on)

pub turned : (a b : ℕ) → (a == b) ≡ false → (b == a) ≡ false
turned a b h = false_from_ne_true (b == a) (λ e. eqb-false a b h (sym (eqb-true b a e)))

pub differs_from : (p : ℕ → Bool) (a c : ℕ) → p a ≡ false → p c ≡ true → (c == a) ≡ false
differs_from p a c off on = turned a c (differs p a c off on)

-- ---- how far a test is passed

abbrev pub stops : (ℕ → Bool) → List ℕ → Bool
stops p [] = true
stops p (c ∷ s) = not (p c)

pub prefix_ends : (p : ℕ → Bool) (x s : List ℕ) → list_all p x ≡ true → stops p s ≡ true → prefix_len p (x ++ s) ≡ length x
prefix_ends p [] [] h e = refl
prefix_ends p [] (c ∷ s) h e = ap (λ (b : Bool). cond b (1 + prefix_len p s) 0) (not-true (p c) e)
prefix_ends p (c ∷ x) s h e =
    let parts = and_parts (p c) (list_all p x) h in
    ap (λ (b : Bool). cond b (1 + prefix_len p (x ++ s)) 0) parts.0 ∙ ap (λ (n : ℕ). 1 + n) (prefix_ends p x s parts.1 e) ∙ one-add (length x)

pub taken_ends : (p : ℕ → Bool) (x s : List ℕ) → list_all p x ≡ true → stops p s ≡ true → take (prefix_len p (x ++ s)) (x ++ s) ≡ x
taken_ends p x s h e = ap (λ (n : ℕ). take n (x ++ s)) (prefix_ends p x s h e) ∙ take-append_seam x s

-- ---- no separator and no special word in front

pub no_gap : (c : ℕ) (t : List ℕ) → (c == 32) ≡ false → (c == 10) ≡ false → (c == 35) ≡ false → f.gap_at (c ∷ t) ≡ 0
no_gap c t a b d =
    ap (λ (x : Bool). cond (x || (c == 10)) 1 (cond (c == 35) (prefix_len f.is_no_line_feed (c ∷ t)) 0)) a
    ∙ ap (λ (x : Bool). cond x 1 (cond (c == 35) (prefix_len f.is_no_line_feed (c ∷ t)) 0)) b
    ∙ ap (λ (x : Bool). cond x (prefix_len f.is_no_line_feed (c ∷ t)) 0) d

pub find_nothing : {X : Type 0} (q : X → Bool) (xs : List X) → ((x : X) → q x ≡ false) → find q xs ≡ None
find_nothing q [] off = refl
find_nothing q (x ∷ xs) off = ap (λ (b : Bool). cond b (Some x) (find q xs)) (off x) ∙ find_nothing q xs off

-- what was found passes each test that all pass
pub found_passes : {X : Type 0} (p q : X → Bool) (xs : List X) (w : X) → list_all q xs ≡ true → find p xs ≡ Some w → q w ≡ true
found_passes p q [] w all h = cc
found_passes {X} p q (x ∷ xs) w all h = by_test (p x) (found_passes p q xs w (and_parts _ _ all).1) h where
  by_test : (b : Bool) → (find p xs ≡ Some w → q w ≡ true) → cond b (Some x) (find p xs) ≡ Some w → q w ≡ true
  by_test true later e = let same : x ≡ w = cc in subst (λ (y : X). q y ≡ true) same (and_parts _ _ all).0
  by_test false later e = later e

pub no_special : (s : List ℕ) → ((w : Special) → starts_with nat_eq s (special_text w) ≡ false) → f.special_of s ≡ None
no_special s off = find_nothing (λ w. starts_with nat_eq s (special_text w)) special_words off

-- a text that begins with neither `i` nor `$`
pub other_first : (c : ℕ) (t : List ℕ) → (105 == c) ≡ false → (36 == c) ≡ false → (w : Special) → starts_with nat_eq (c ∷ t) (special_text w) ≡ false
other_first c t i d p.Implemented = and_left (105 == c) _ i
other_first c t i d p.ImplementedVersion = and_left (105 == c) _ i
other_first c t i d p.AsSigned = and_left (36 == c) _ d
other_first c t i d p.Resize = and_left (36 == c) _ d
other_first c t i d p.WidthOf = and_left (36 == c) _ d
other_first c t i d p.Pc = and_left (36 == c) _ d
other_first c t i d p.Encoding = and_left (36 == c) _ d

-- ---- what stands in front where it is neither

pub plain_front : (w : Bool) (s : List ℕ) → f.front_at (flagged w) s ≡ f.plain_at w s
unfolding f.front_at
plain_front w s = refl

pub plain_other : (w : Bool) (s : List ℕ) → f.gap_at s ≡ 0 → f.special_of s ≡ None → f.plain_at w s ≡ f.other_at w s
plain_other w s none other = ap (λ (n : ℕ). f.gap_or n w s) none ∙ ap (λ (o : Option Special). f.special_or o w s) other

pub other_number : (w : Bool) (c : ℕ) (t : List ℕ) → is_digit c 10 ≡ true → f.other_at w (c ∷ t) ≡ f.numbered (f.number_at (c ∷ t)) (c ∷ t)
other_number w c t d = cond-true (is_digit c 10) (f.numbered (f.number_at (c ∷ t)) (c ∷ t)) (cond (f.is_word_byte c) (f.word_at (c ∷ t)) (cond (c == 34) (f.text_at (c ∷ t)) (f.sign_at w (c ∷ t)))) d

other_no_digit : (w : Bool) (c : ℕ) (t : List ℕ) → is_digit c 10 ≡ false → f.other_at w (c ∷ t) ≡ cond (f.is_word_byte c) (f.word_at (c ∷ t)) (cond (c == 34) (f.text_at (c ∷ t)) (f.sign_at w (c ∷ t)))
other_no_digit w c t d = cond-false (is_digit c 10) (f.numbered (f.number_at (c ∷ t)) (c ∷ t)) (cond (f.is_word_byte c) (f.word_at (c ∷ t)) (cond (c == 34) (f.text_at (c ∷ t)) (f.sign_at w (c ∷ t)))) d

pub other_word : (w : Bool) (c : ℕ) (t : List ℕ) → is_digit c 10 ≡ false → f.is_word_byte c ≡ true → f.other_at w (c ∷ t) ≡ f.word_at (c ∷ t)
other_word w c t d h = other_no_digit w c t d ∙ cond-true (f.is_word_byte c) (f.word_at (c ∷ t)) (cond (c == 34) (f.text_at (c ∷ t)) (f.sign_at w (c ∷ t))) h

pub other_sign : (w : Bool) (c : ℕ) (t : List ℕ) → is_digit c 10 ≡ false → f.is_word_byte c ≡ false → (c == 34) ≡ false → f.other_at w (c ∷ t) ≡ f.sign_at w (c ∷ t)
other_sign w c t d h q =
    other_no_digit w c t d
    ∙ cond-false (f.is_word_byte c) (f.word_at (c ∷ t)) (cond (c == 34) (f.text_at (c ∷ t)) (f.sign_at w (c ∷ t))) h
    ∙ cond-false (c == 34) (f.text_at (c ∷ t)) (f.sign_at w (c ∷ t)) q

-- ---- nothing that makes a number or a word a sized number

pub no_tail : (s : List ℕ) → ends_before s ≡ true → f.tail_at s ≡ 0
no_tail [] e = refl
no_tail (c ∷ s) e =
    let here = (and_parts (not (c == 39)) (not (c == 63)) (and_parts (not (f.is_word_byte c)) (not (c == 39) && not (c == 63)) e).1).0 in
    cond-false (c == 39) (cond (begins 115 s) (f.behind 2 (f.literal_at (drop 1 s))) (f.behind 1 (f.literal_at s))) 0 (not-true (c == 39) here)

-- ---- the flags that tokens leave

abbrev pub placed : Bool → Bool → Bool → Bool → Before
placed a b c d = record { takes_width = a; in_width = b; describes = c; in_description = d }

pub keeps : (w : Bool) (x : TokenKind) → keeps_flag x ≡ true → f.after (flagged w) x ≡ flagged w
keeps w x h =
    let p = and_parts (not (f.takes_width x)) (not (f.is_description x) && not (f.is_greater x)) h in
    let q = and_parts (not (f.is_description x)) (not (f.is_greater x)) p.1 in
    ap (λ (a : Bool). placed a (w && not (f.is_greater x)) (f.is_description x) false) (not-true (f.takes_width x) p.0)
    ∙ ap (λ (c : Bool). placed false (w && not (f.is_greater x)) c false) (not-true (f.is_description x) q.0)
    ∙ ap (λ (b : Bool). placed false b false false) (stays w (not (f.is_greater x)) q.1)
  where
    stays : (v b : Bool) → b ≡ true → (v && b) ≡ v
    stays true b e = e
    stays false b e = refl

-- outside a width even a `>` leaves none
pub keeps_none : (x : TokenKind) → f.takes_width x ≡ false → f.is_description x ≡ false → f.after (flagged false) x ≡ flagged false
keeps_none x t d =
    ap (λ (a : Bool). placed a false (f.is_description x) false) t
    ∙ ap (λ (c : Bool). placed false false c false) d

pub opens_width : (w : Bool) (x : TokenKind) → f.takes_width x ≡ true → f.after (f.after (flagged w) x) (k.Sign g.Less) ≡ flagged true
opens_width w x h =
    ap (λ (a : Bool). placed false ((a && true) || ((w && not (f.is_greater x)) && true)) false (f.is_description x && false)) h
    ∙ ap (λ (d : Bool). placed false true false d) (and_right (f.is_description x) false refl)

pub closes_width : f.after (flagged true) (k.Sign g.Greater) ≡ flagged false
closes_width = refl

-- ---- single pieces

pub sits_token : (w v : Bool) (x : TokenKind) (y s : List ℕ) → f.front_at (flagged w) (y ++ s) ≡ Token x (length y) → f.after (flagged w) x ≡ flagged v → Sits w (token x y ∷ []) s v
sits_token w v x y s front leaves = record { stands = (front, tt); leaves = leaves }

pub sits_gap : (w : Bool) (c : ℕ) (s : List ℕ) → ((c == 32) || (c == 10)) ≡ true → Sits w (gap c ∷ []) s w
sits_gap w c s h = record {
  stands = (plain_front w (c ∷ s) ∙ ap (λ (x : Bool). f.gap_or (cond x 1 (cond (c == 35) (prefix_len f.is_no_line_feed (c ∷ s)) 0)) w (c ∷ s)) h, tt);
  leaves = refl;
}
