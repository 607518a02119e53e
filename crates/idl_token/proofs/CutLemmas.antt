-- What stands in front isn't empty and ends where the text may be cut.
use Rattle.std.proofs.Common.{◌≡◌, ◌⊎◌, inl, inr, ⊎_elim, ℕ, zero, suc, ◌+◌, ◌-◌, ◌<◌, ◌≤◌, ◌==◌, nat_eq, nat_lt, Bool, true, false, ◌&&◌, ◌||◌, List, [], ◌∷◌, length, get_or, take, drop, Option, Some, None, refl, sym, ap, ◌∙◌, subst, cond, arith}
use Rattle.std.specs.Char.{is_digit, digit_value}
use Rattle.std.specs.List.{find, prefix_len, starts_with, list_all}
use Rattle.std.specs.Str.{IsUtf8, IsCharBoundary}
use Rattle.std.proofs.lemmas.Bool.{cases_lt, and_parts, or_cases, ltb-true, le-ltb, eqb-true, not-false, cond_both}
use Rattle.std.proofs.lemmas.List.{get_or-drop, length-drop, length-take-le}
use Rattle.std.proofs.lemmas.List.Sums.{prefix_len-le-length, prefix_len_passes, prefix_len_stops}
use Rattle.std.proofs.lemmas.List.Prefix.{front_reads, front_fits}
use Rattle.std.proofs.lemmas.Slice.Eq.{starts_is}
use Rattle.std.proofs.lemmas.Bool.Decides.{nat_tests, Decides-eqb}
use Rattle.std.proofs.lemmas.Str.{IsCharBoundary-end, IsCharBoundary-before_ascii, IsCharBoundary-after_ascii}
use Rattle.idl_token.specs.declared.kinds.TokenKind.{TokenKind}
use Rattle.idl_token.specs.declared.kinds.TokenKind.TheVariants as k
use Rattle.idl_token.specs.declared.kinds.Sign.TheVariants as g
use Rattle.idl_token.specs.declared.before.Before.{Before}
use Rattle.idl_token.specs.declared.front.Front.{Front}
use Rattle.idl_token.specs.declared.front.Front.TheVariants.{Gap, Token, Nothing}
use Rattle.idl_token.specs.Spelling.{special_text, sign_text, special_words, signs}
use Rattle.idl_token.specs.Numbers.{begins, begins_digit, base_of, mark_of, letter_base, is_marked}
use Rattle.idl_token.specs.Front as f

pub record Ends (s : List ℕ) (n : ℕ) : Type 0 where
  pub some : 0 < n
  pub within : n ≤ length s
  pub cut : (get_or s (n - 1) 0 < 128) ⊎ ((n ≡ length s) ⊎ (get_or s n 0 < 128))

-- ---- bytes below 128

in_range-ascii : (low high c : ℕ) → high < 128 → (nat_lt c low ≡ false → ⊥) ⊎ (c ≤ high) → c ≤ high → c < 128
in_range-ascii low high c h _ le = omega arith

word-ascii : (c : ℕ) → f.is_word_byte c ≡ true → c < 128
word-ascii c h = grind (arith, nat_tests)

high-digit : (c : ℕ) → 123 ≤ c → digit_value c ≡ 36
high-digit c h = rw (le-ltb c 48 (omega arith), le-ltb c 58 (omega arith), le-ltb c 65 (omega arith), le-ltb c 91 (omega arith), le-ltb c 97 (omega arith), le-ltb c 123 h) refl

digit-ascii : (base c : ℕ) → base ≤ 36 → is_digit c base ≡ true → c < 128
digit-ascii base c small h = by_size (cases_lt c 123) where
  by_size : (c < 123) ⊎ (123 ≤ c) → c < 128
  by_size (inl lt) = omega arith
  by_size (inr ge) = let below = ltb-true (digit_value c) base h in absurd (omega (arith, high-digit c ge, below))

-- ---- fronts that pass a test

passing-ascii : (p : ℕ → Bool) (s : List ℕ) → ((c : ℕ) → p c ≡ true → c < 128) → 0 < prefix_len p s → Ends s (prefix_len p s)
passing-ascii p s ascii some = record {
  some = some;
  within = prefix_len-le-length p s;
  cut = inl (ascii (get_or s (prefix_len p s - 1) 0) (prefix_len_passes p s (prefix_len p s - 1) 0 (omega arith)));
}

stopping-ascii : (p : ℕ → Bool) (s : List ℕ) → ((c : ℕ) → p c ≡ false → c < 128) → 0 < prefix_len p s → Ends s (prefix_len p s)
stopping-ascii p s ascii some = record {
  some = some;
  within = prefix_len-le-length p s;
  cut = inr (at_end (cases_lt (prefix_len p s) (length s)));
} where
  at_end : (prefix_len p s < length s) ⊎ (length s ≤ prefix_len p s) → (prefix_len p s ≡ length s) ⊎ (get_or s (prefix_len p s) 0 < 128)
  at_end (inl lt) = inr (ascii (get_or s (prefix_len p s) 0) (prefix_len_stops p s 0 lt))
  at_end (inr le) = let le2 = prefix_len-le-length p s in inl (omega arith)

-- behind a front of k bytes
pub Ends-behind : (k n : ℕ) (s : List ℕ) → Ends (drop k s) n → Ends s (k + n)
Ends-behind k n s e =
    let some = e.some in
    let len = length-drop k s in
    let within = e.within in
    let back : k + (n - 1) ≡ k + n - 1 = omega arith in
    let at_last = get_or-drop k s (n - 1) 0 in
    let at_next = get_or-drop k s n 0 in
    record {
      some = omega arith;
      within = omega arith;
      cut = elim e.cut [ inl h ↦ inl (subst (λ i. get_or s i 0 < 128) back (subst (λ x. x < 128) at_last h)) | inr h ↦ inr (elim h [ inl q ↦ inl (omega arith) | inr q ↦ inr (subst (λ x. x < 128) at_next q) ]) ];
    }

-- ---- spelled words

-- a text of ASCII in front
ascii-at : (x : List ℕ) (i : ℕ) → list_all (λ c. nat_lt c 128) x ≡ true → i < length x → get_or x i 0 < 128
ascii-at [] i h lt = absurd (omega arith)
ascii-at (c ∷ x) zero h lt = ltb-true c 128 (and_parts _ _ h).0
ascii-at (c ∷ x) (suc i) h lt = ascii-at x i (and_parts _ _ h).1 (omega arith)

abbrev is_plain : List ℕ → Bool
is_plain x = nat_lt 0 (length x) && list_all (λ c. nat_lt c 128) x

spelled : (s x : List ℕ) → starts_with nat_eq s x ≡ true → is_plain x ≡ true → Ends s (length x)
spelled s x h plain =
    let parts = and_parts _ _ plain in
    let some = ltb-true 0 (length x) parts.0 in
    let split = (starts_is Decides-eqb s x (starts_with nat_eq s x) refl).0 h in
    record {
      some = some;
      within = front_fits s x (drop (length x) s) split;
      cut = inl (rw (front_reads 0 s x (drop (length x) s) split (length x - 1) (omega arith)) (ascii-at x (length x - 1) parts.1 (omega arith)));
    }

-- what was found passes its test, and each test that all elements pass
pub find-holds : {X : Type 0} (p : X → Bool) (xs : List X) (w : X) → find p xs ≡ Some w → p w ≡ true
find-holds p [] w h = cc
find-holds {X} p (x ∷ xs) w h = by_test (p x) refl (find-holds p xs w) h where
  by_test : (b : Bool) → p x ≡ b → (find p xs ≡ Some w → p w ≡ true) → cond b (Some x) (find p xs) ≡ Some w → p w ≡ true
  by_test true e later q = let same : x ≡ w = cc in subst (λ y. p y ≡ true) same e
  by_test false e later q = later q

find-passes : {X : Type 0} (p q : X → Bool) (xs : List X) (w : X) → list_all q xs ≡ true → find p xs ≡ Some w → q w ≡ true
find-passes p q [] w all h = cc
find-passes {X} p q (x ∷ xs) w all h = by_test (p x) (find-passes p q xs w (and_parts _ _ all).1) h where
  by_test : (b : Bool) → (find p xs ≡ Some w → q w ≡ true) → cond b (Some x) (find p xs) ≡ Some w → q w ≡ true
  by_test true later e = let same : x ≡ w = cc in subst (λ y. q y ≡ true) same (and_parts _ _ all).0
  by_test false later e = later e

all-special : list_all (λ w. is_plain (special_text w)) special_words ≡ true
unfolding special_words
all-special = refl

all-signs : list_all (λ w. is_plain (sign_text w)) signs ≡ true
unfolding signs
all-signs = refl

-- ---- fronts

abbrev pub EndsFront : List ℕ → Front → Type 0
EndsFront s (Gap n) = Ends s n
EndsFront s (Token t n) = Ends s n
EndsFront s Nothing = Unit {0}

number-some : (base : ℕ) (ds : List ℕ) → f.is_number base ds ≡ true → 0 < length ds
number-some base [] h = cc
number-some base (c ∷ ds) h = omega arith

-- digits behind k bytes
digits-end : (base k : ℕ) (s : List ℕ) → base ≤ 36 → (b : Bool) → f.is_number base (f.digits_of base (drop k s)) ≡ b → 0 < cond b (k + length (f.digits_of base (drop k s))) 0 → Ends s (cond b (k + length (f.digits_of base (drop k s))) 0)
digits-end base k s small false e h = absurd (omega arith)
digits-end base k s small true e h =
    let p : ℕ → Bool = λ c. is_digit c base in
    let len : length (f.digits_of base (drop k s)) ≡ prefix_len p (drop k s) = length-take-le (prefix_len p (drop k s)) (drop k s) (prefix_len-le-length p (drop k s)) in
    let some = number-some base (f.digits_of base (drop k s)) e in
    let ends = Ends-behind k (prefix_len p (drop k s)) s (passing-ascii p (drop k s) (λ c. digit-ascii base c small) (omega arith)) in
    subst (λ n. Ends s (k + n)) (sym len) ends

base-small : (s : List ℕ) → base_of s ≤ 36
base-small s = cond_both (is_marked 120 16 s) 16 (cond (is_marked 98 2 s) 2 10) (λ n. n ≤ 36) (λ _. omega arith) (λ _. cond_both (is_marked 98 2 s) 2 10 (λ n. n ≤ 36) (λ _. omega arith) (λ _. omega arith))

letter-small : (s : List ℕ) → letter_base s ≤ 36
letter-small [] = omega arith
letter-small (c ∷ s) = cond_both (c == 100) 10 (cond (c == 104) 16 (cond (c == 98) 2 0)) (λ n. n ≤ 36) (λ _. omega arith) (λ _. cond_both (c == 104) 16 (cond (c == 98) 2 0) (λ n. n ≤ 36) (λ _. omega arith) (λ _. cond_both (c == 98) 2 0 (λ n. n ≤ 36) (λ _. omega arith) (λ _. omega arith)))

pub number-ends : (s : List ℕ) → 0 < f.number_at s → Ends s (f.number_at s)
number-ends s h = digits-end (base_of s) (mark_of (base_of s)) s (base-small s) (f.is_number (base_of s) (f.digits_of (base_of s) (drop (mark_of (base_of s)) s))) refl h

literal-ends : (s : List ℕ) → 0 < f.literal_at s → Ends s (f.literal_at s)
literal-ends s h = digits-end (letter_base s) 1 s (letter-small s) (f.is_number (letter_base s) (f.digits_of (letter_base s) (drop 1 s))) refl h

behind-ends : (k n : ℕ) (s : List ℕ) → (0 < n → Ends (drop k s) n) → 0 < f.behind k n → Ends s (f.behind k n)
behind-ends k zero s e h = absurd (omega arith)
behind-ends k (suc n) s e h = Ends-behind k (suc n) s (e (omega arith))

tail-ends : (s : List ℕ) → 0 < f.tail_at s → Ends s (f.tail_at s)
tail-ends s = by_quote (begins 39 s) where
  by_sign : (b : Bool) → 0 < cond b (f.behind 2 (f.literal_at (drop 2 s))) (f.behind 1 (f.literal_at (drop 1 s))) → Ends s (cond b (f.behind 2 (f.literal_at (drop 2 s))) (f.behind 1 (f.literal_at (drop 1 s))))
  by_sign true h = behind-ends 2 (f.literal_at (drop 2 s)) s (literal-ends (drop 2 s)) h
  by_sign false h = behind-ends 1 (f.literal_at (drop 1 s)) s (literal-ends (drop 1 s)) h

  by_quote : (b : Bool) → 0 < cond b (cond (begins 115 (drop 1 s)) (f.behind 2 (f.literal_at (drop 2 s))) (f.behind 1 (f.literal_at (drop 1 s)))) 0
      → Ends s (cond b (cond (begins 115 (drop 1 s)) (f.behind 2 (f.literal_at (drop 2 s))) (f.behind 1 (f.literal_at (drop 1 s)))) 0)
  by_quote true h = by_sign (begins 115 (drop 1 s)) h
  by_quote false h = absurd (omega arith)

with_tail-ends : (t : TokenKind) (n m : ℕ) (s : List ℕ) → Ends s n → (0 < m → Ends (drop n s) m) → EndsFront s (f.with_tail t n m)
with_tail-ends t n zero s e h = e
with_tail-ends t n (suc m) s e h = Ends-behind n (suc m) s (h (omega arith))

numbered-ends : (n : ℕ) (s : List ℕ) → (0 < n → Ends s n) → EndsFront s (f.numbered n s)
numbered-ends zero s h = tt
numbered-ends (suc n) s h = with_tail-ends k.Number (suc n) (f.tail_at (drop (suc n) s)) s (h (omega arith)) (tail-ends (drop (suc n) s))

word-ends : (n : ℕ) (s : List ℕ) → Ends s n → EndsFront s (f.word_in n s)
word-ends n s e = by_word (f.reserved_of (take n s)) where
  by_word : (o : Option _) → EndsFront s (f.worded o n s)
  by_word (Some w) = e
  by_word None = with_tail-ends k.Word n (f.tail_at (drop n s)) s e (tail-ends (drop n s))

first-passes : (p : ℕ → Bool) (s : List ℕ) → f.begins_word s ≡ true → 0 < prefix_len f.is_word_byte s
first-passes p [] h = cc
first-passes p (c ∷ s) h = rw h (omega arith)

quoted-ends : (c n : ℕ) (s : List ℕ) → n ≡ prefix_len f.is_no_quote s → EndsFront (c ∷ s) (f.quoted n s)
quoted-ends c n s e = by_size (nat_lt n (length s)) refl where
  by_size : (b : Bool) → nat_lt n (length s) ≡ b → EndsFront (c ∷ s) (cond b (Token k.Text (n + 2)) Nothing)
  by_size false q = tt
  by_size true q =
      let lt = ltb-true n (length s) q in
      let lt2 : prefix_len f.is_no_quote s < length s = omega arith in
      let is = eqb-true (get_or s (prefix_len f.is_no_quote s) 0) 34 (not-false _ (prefix_len_stops f.is_no_quote s 0 lt2)) in
      let here : get_or s n 0 ≡ 34 = ap (λ i. get_or s i 0) e ∙ is in
      let moved = get_or-drop 1 (c ∷ s) n 0 in
      let place : 1 + n ≡ n + 2 - 1 = omega arith in
      let last : get_or (c ∷ s) (n + 2 - 1) 0 ≡ 34 = ap (λ i. get_or (c ∷ s) i 0) (sym place) ∙ sym moved ∙ here in
      record { some = omega arith; within = omega arith; cut = inl (omega arith) }

text-ends : (s : List ℕ) → begins 34 s ≡ true → EndsFront s (f.text_at s)
text-ends [] h = cc
text-ends (c ∷ s) h = quoted-ends c (prefix_len f.is_no_quote s) s refl

sign-ends : (in_width : Bool) (s : List ℕ) → EndsFront s (f.sign_at in_width s)
sign-ends in_width s = by_width (in_width && begins 62 s) refl where
  alone : (t : List ℕ) → begins 62 t ≡ true → Ends t 1
  alone [] h = cc
  alone (c ∷ t) h = let is = eqb-true c 62 h in record { some = omega arith; within = omega arith; cut = inl (omega arith) }

  by_sign : (o : Option _) → f.sign_of s ≡ o → EndsFront s (f.signed o)
  by_sign None e = tt
  by_sign (Some w) e = spelled s (sign_text w) (find-holds (λ v. starts_with nat_eq s (sign_text v)) signs w e) (find-passes (λ v. starts_with nat_eq s (sign_text v)) (λ v. is_plain (sign_text v)) signs w all-signs e)

  by_width : (b : Bool) → (in_width && begins 62 s) ≡ b → EndsFront s (cond b (Token (k.Sign g.Greater) 1) (f.signed (f.sign_of s)))
  by_width true e = alone s (and_parts in_width (begins 62 s) e).1
  by_width false e = by_sign (f.sign_of s) refl

other-ends : (in_width : Bool) (s : List ℕ) → EndsFront s (f.other_at in_width s)
other-ends in_width s = cond_both (begins_digit 10 s) (f.numbered (f.number_at s) s) (cond (f.begins_word s) (f.word_at s) (cond (begins 34 s) (f.text_at s) (f.sign_at in_width s))) (EndsFront s)
    (λ _. numbered-ends (f.number_at s) s (number-ends s))
    (λ _. cond_both (f.begins_word s) (f.word_at s) (cond (begins 34 s) (f.text_at s) (f.sign_at in_width s)) (EndsFront s)
    (λ h. word-ends (prefix_len f.is_word_byte s) s (passing-ascii f.is_word_byte s word-ascii (first-passes f.is_word_byte s h)))
    (λ _. cond_both (begins 34 s) (f.text_at s) (f.sign_at in_width s) (EndsFront s) (text-ends s) (λ _. sign-ends in_width s)))

token-ends : (in_width : Bool) (s : List ℕ) → EndsFront s (f.token_at in_width s)
token-ends in_width s = by_special (f.special_of s) refl where
  by_special : (o : Option _) → f.special_of s ≡ o → EndsFront s (f.special_or o in_width s)
  by_special (Some w) e = spelled s (special_text w) (find-holds (λ v. starts_with nat_eq s (special_text v)) special_words w e) (find-passes (λ v. starts_with nat_eq s (special_text v)) (λ v. is_plain (special_text v)) special_words w all-special e)
  by_special None e = other-ends in_width s

gap-ends : (s : List ℕ) → 0 < f.gap_at s → Ends s (f.gap_at s)
gap-ends [] h = absurd (omega arith)
gap-ends (c ∷ s) h = by_blank ((c == 32) || (c == 10)) refl h where
  blank : (c == 32 || c == 10) ≡ true → Ends (c ∷ s) 1
  blank e = record { some = omega arith; within = omega arith; cut = inl (⊎_elim (λ q. let is = eqb-true c 32 q in omega arith) (λ q. let is = eqb-true c 10 q in omega arith) (or_cases (c == 32) (c == 10) e)) }

  line : (x : ℕ) → f.is_no_line_feed x ≡ false → x < 128
  line x e = let is = eqb-true x 10 (not-false (x == 10) e) in omega arith

  by_hash : (b : Bool) → 0 < cond b (prefix_len f.is_no_line_feed (c ∷ s)) 0 → Ends (c ∷ s) (cond b (prefix_len f.is_no_line_feed (c ∷ s)) 0)
  by_hash true q = stopping-ascii f.is_no_line_feed (c ∷ s) line q
  by_hash false q = absurd (omega arith)

  by_blank : (b : Bool) → (c == 32 || c == 10) ≡ b → 0 < cond b 1 (cond (c == 35) (prefix_len f.is_no_line_feed (c ∷ s)) 0) → Ends (c ∷ s) (cond b 1 (cond (c == 35) (prefix_len f.is_no_line_feed (c ∷ s)) 0))
  by_blank true e q = blank e
  by_blank false e q = by_hash (c == 35) q

plain-ends : (in_width : Bool) (s : List ℕ) → EndsFront s (f.plain_at in_width s)
plain-ends in_width s = by_gap (f.gap_at s) (gap-ends s) where
  by_gap : (n : ℕ) → (0 < n → Ends s n) → EndsFront s (f.gap_or n in_width s)
  by_gap zero h = token-ends in_width s
  by_gap (suc n) h = h (omega arith)

brace-ascii : (c : ℕ) → f.is_no_brace c ≡ false → c < 128
brace-ascii c e = ⊎_elim (λ q. let is = eqb-true c 123 q in omega arith) (λ q. let is = eqb-true c 125 q in omega arith) (or_cases (c == 123) (c == 125) (not-false ((c == 123) || (c == 125)) e))

pub front-ends : (b : Before) (s : List ℕ) → EndsFront s (f.front_at b s)
unfolding f.front_at
front-ends b s = cond_both b.in_description (f.description_or (prefix_len f.is_no_brace s) b.in_width s) (f.plain_at b.in_width s) (EndsFront s) (λ _. by_len (prefix_len f.is_no_brace s) (stopping-ascii f.is_no_brace s brace-ascii)) (λ _. plain-ends b.in_width s) where
  by_len : (n : ℕ) → (0 < n → Ends s n) → EndsFront s (f.description_or n b.in_width s)
  by_len zero h = plain-ends b.in_width s
  by_len (suc n) h = h (omega arith)

-- where it ends the text may be cut
pub Ends-boundary : (s : List ℕ) (n : ℕ) → IsUtf8 s → Ends s n → IsCharBoundary s n
Ends-boundary s n utf8 e = by_cut e.cut where
  by_next : (n < length s) ⊎ (length s ≤ n) → get_or s n 0 < 128 → IsCharBoundary s n
  by_next (inl lt) h = IsCharBoundary-before_ascii s n lt h
  by_next (inr le) h = let within = e.within in let same : length s ≡ n = omega arith in subst (λ i. IsCharBoundary s i) same (IsCharBoundary-end s)

  by_cut : (get_or s (n - 1) 0 < 128) ⊎ ((n ≡ length s) ⊎ (get_or s n 0 < 128)) → IsCharBoundary s n
  by_cut (inl h) =
      let some = e.some in
      let within = e.within in
      let back : n - 1 + 1 ≡ n = omega arith in
      subst (λ i. IsCharBoundary s i) back (IsCharBoundary-after_ascii s (n - 1) utf8 (omega arith) h)
  by_cut (inr (inl h)) = subst (λ i. IsCharBoundary s i) (sym h) (IsCharBoundary-end s)
  by_cut (inr (inr h)) = by_next (cases_lt n (length s)) h

pub number_some : (n a : ℕ) (s : List ℕ) → n ≡ a → (n ≡ 0 → ⊥) → f.with_tail k.Number n (f.tail_at (drop n s)) ≡ f.numbered a s
number_some zero a s e h = absurd (h refl)
number_some (suc n) a s e h = ap (λ m. f.numbered m s) e
