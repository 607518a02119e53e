-- What stands in front stays the same where the source is cut behind it.
use Rattle.std.proofs.Common.{◌≡◌, ℕ, zero, suc, ◌+◌, ◌-◌, ◌<◌, ◌≤◌, ◌==◌, nat_eq, nat_lt, Bool, true, false, ◌&&◌, ◌||◌, List, [], ◌∷◌, length, take, drop, Option, Some, None, refl, sym, ap, ◌∙◌, subst, cond, arith, one-add}
use Rattle.std.specs.Char.{is_digit}
use Rattle.std.specs.List.{find, starts_with, prefix_len}
use Rattle.std.specs.Cmp.Lexicographic.{pointwise}
use Rattle.std.proofs.lemmas.Bool.{both_ways, eqb-true, lt-ltb, ltb-true, false_from_ne_true, and_right}
use Rattle.std.proofs.lemmas.Bool.Decides.{Decides-eqb}
use Rattle.std.proofs.lemmas.List.{length-take-le, length-take, drop-take, take-take}
use Rattle.std.proofs.lemmas.List.Sums.{prefix_len-le-length}
use Rattle.std.proofs.lemmas.List.Prefix.{front_fits}
use Rattle.std.proofs.lemmas.Slice.Eq.{starts_is}
use Rattle.idl_token.specs.declared.kinds.TokenKind.{TokenKind}
use Rattle.idl_token.specs.declared.kinds.TokenKind.TheVariants as k
use Rattle.idl_token.specs.declared.kinds.Sign.TheVariants as g
use Rattle.idl_token.specs.declared.before.Before.{Before}
use Rattle.idl_token.specs.declared.front.Front.{Front}
use Rattle.idl_token.specs.declared.front.Front.TheVariants.{Gap, Token, Nothing}
use Rattle.idl_token.specs.Spelling.{special_text, sign_text, special_words, signs}
use Rattle.idl_token.specs.Numbers.{begins, base_of, mark_of, letter_base}
use Rattle.idl_token.specs.Lexeme.{Lexeme, lexeme}
use Rattle.idl_token.specs.Front as f
use Rattle.idl_token.specs.Rows.{Reads, done, gap, token, IsRow, IsBadAt}
use Rattle.idl_token.proofs.CutLemmas.{find-holds}
use Rattle.idl_token.proofs.RowLemmas.{token-ends, gap-ends}
use Rattle.idl_token.proofs.ValueLemmas.{base-same, mark-long, number-some, begins-take}

-- ---- parts

prefix-steady : (p : ℕ → Bool) (s : List ℕ) (l : ℕ) → prefix_len p s ≤ l → prefix_len p (take l s) ≡ prefix_len p s
prefix-steady p [] zero le = refl
prefix-steady p [] (suc l) le = refl
prefix-steady p (c ∷ s) zero le = by_test (p c) le where
  by_test : (b : Bool) → cond b (1 + prefix_len p s) 0 ≤ 0 → 0 ≡ cond b (1 + prefix_len p s) 0
  by_test true h = absurd (omega arith)
  by_test false h = refl
prefix-steady p (c ∷ s) (suc l) le = by_test (p c) le (prefix-steady p s l) where
  by_test : (b : Bool) → cond b (1 + prefix_len p s) 0 ≤ suc l → (prefix_len p s ≤ l → prefix_len p (take l s) ≡ prefix_len p s) → cond b (1 + prefix_len p (take l s)) 0 ≡ cond b (1 + prefix_len p s) 0
  by_test true h again = ap (λ n. 1 + n) (again (omega arith))
  by_test false h again = refl

digits-steady : (base : ℕ) (s : List ℕ) (l : ℕ) → prefix_len (λ c. is_digit c base) s ≤ l → f.digits_of base (take l s) ≡ f.digits_of base s
digits-steady base s l le = ap (λ n. take n (take l s)) (prefix-steady (λ c. is_digit c base) s l le) ∙ take-take (prefix_len (λ c. is_digit c base) s) l s le

digits-length : (base : ℕ) (s : List ℕ) → length (f.digits_of base s) ≡ prefix_len (λ c. is_digit c base) s
digits-length base s = length-take-le (prefix_len (λ c. is_digit c base) s) s (prefix_len-le-length (λ c. is_digit c base) s)

starts-same : (s x : List ℕ) (l : ℕ) → length x ≤ l → starts_with nat_eq (take l s) x ≡ starts_with nat_eq s x
starts-same s x l le = ap (λ y. pointwise nat_eq x y) (take-take (length x) l s le)

starts-back : (s x : List ℕ) (l : ℕ) → starts_with nat_eq (take l s) x ≡ true → starts_with nat_eq s x ≡ true
starts-back s x l h =
    let split = (starts_is Decides-eqb (take l s) x (starts_with nat_eq (take l s) x) refl).0 h in
    let fits = front_fits (take l s) x (drop (length x) (take l s)) split in
    let len = length-take l s in
    sym (starts-same s x l (omega arith)) ∙ h

find-some : {X : Type 0} (p q : X → Bool) (xs : List X) (w : X) → find p xs ≡ Some w → q w ≡ true → ((v : X) → q v ≡ true → p v ≡ true) → find q xs ≡ Some w
find-some p q [] w e h back = absurd cc
find-some {X} p q (x ∷ xs) w e h back = by_test (p x) refl e (λ r. find-some p q xs w r h back) where
  by_test : (b : Bool) → p x ≡ b → cond b (Some x) (find p xs) ≡ Some w → (find p xs ≡ Some w → find q xs ≡ Some w) → cond (q x) (Some x) (find q xs) ≡ Some w
  by_test true is r again =
      let same : x ≡ w = cc in
      let here : q x ≡ true = subst (λ y. q y ≡ true) (sym same) h in
      ap (λ b. cond b (Some x) (find q xs)) here ∙ ap Some same
  by_test false is r again =
      let none : q x ≡ false = false_from_ne_true (q x) (λ t. both_ways (p x) is (back x t)) in
      ap (λ b. cond b (Some x) (find q xs)) none ∙ again r

find-none : {X : Type 0} (p q : X → Bool) (xs : List X) → find p xs ≡ None → ((v : X) → q v ≡ true → p v ≡ true) → find q xs ≡ None
find-none p q [] e back = refl
find-none {X} p q (x ∷ xs) e back = by_test (p x) refl e (λ r. find-none p q xs r back) where
  by_test : (b : Bool) → p x ≡ b → cond b (Some x) (find p xs) ≡ None → (find p xs ≡ None → find q xs ≡ None) → cond (q x) (Some x) (find q xs) ≡ None
  by_test true is r again = absurd cc
  by_test false is r again =
      let none : q x ≡ false = false_from_ne_true (q x) (λ t. both_ways (p x) is (back x t)) in
      ap (λ b. cond b (Some x) (find q xs)) none ∙ again r

-- ---- numbers

literal-steady : (q : List ℕ) (m : ℕ) → 0 < f.literal_at q → f.literal_at q ≤ m → f.literal_at (take m q) ≡ f.literal_at q
literal-steady [] m some le = absurd (omega arith)
literal-steady (c ∷ t) zero some le = absurd (omega arith)
literal-steady (c ∷ t) (suc m) some le = ap (λ ds. cond (f.is_number (letter_base (c ∷ t)) ds) (1 + length ds) 0) (digits-steady (letter_base (c ∷ t)) t m (by_test (f.is_number (letter_base (c ∷ t)) (f.digits_of (letter_base (c ∷ t)) t)) some le)) where
  by_test : (b : Bool) → 0 < cond b (1 + length (f.digits_of (letter_base (c ∷ t)) t)) 0 → cond b (1 + length (f.digits_of (letter_base (c ∷ t)) t)) 0 ≤ suc m → prefix_len (λ x. is_digit x (letter_base (c ∷ t))) t ≤ m
  by_test true h q = let len = digits-length (letter_base (c ∷ t)) t in omega arith
  by_test false h q = absurd (omega arith)

behind-some : (k n m : ℕ) → f.behind k n ≡ suc m → (0 < n) × (suc m ≡ k + n)
behind-some k zero m e = absurd cc
behind-some k (suc n) m e = (omega arith, sym e)

abbrev tail_by : Bool → Bool → ℕ → ℕ → ℕ
tail_by quote sign x y = cond quote (cond sign (f.behind 2 x) (f.behind 1 y)) 0

-- a tail of some bytes stays
tail-some : (r : List ℕ) (t m : ℕ) → f.tail_at r ≡ suc t → suc t ≤ m → f.tail_at (take m r) ≡ suc t
tail-some [] t m e le = absurd cc
tail-some (d ∷ q) t zero e le = absurd (omega arith)
tail-some (d ∷ q) t (suc zero) e le = by_quote (d == 39) (begins 115 q) e where
  by_quote : (b c : Bool) → tail_by b c (f.literal_at (drop 1 q)) (f.literal_at q) ≡ suc t → f.tail_at (d ∷ []) ≡ suc t
  by_quote true true h = let x = behind-some 2 (f.literal_at (drop 1 q)) t h in absurd (omega arith)
  by_quote true false h = let x = behind-some 1 (f.literal_at q) t h in absurd (omega arith)
  by_quote false c h = absurd cc
tail-some (d ∷ q) t (suc (suc m)) e le = ap (λ b. tail_by (d == 39) b (f.literal_at (drop 1 (take (suc m) q))) (f.literal_at (take (suc m) q))) (begins-take 115 m q) ∙ by_quote (d == 39) (begins 115 q) e where
  cut : drop 1 (take (suc m) q) ≡ take m (drop 1 q)
  cut = ap (λ n. drop 1 (take n q)) (sym (one-add m)) ∙ drop-take 1 m q

  by_quote : (b c : Bool) → tail_by b c (f.literal_at (drop 1 q)) (f.literal_at q) ≡ suc t → tail_by b c (f.literal_at (drop 1 (take (suc m) q))) (f.literal_at (take (suc m) q)) ≡ suc t
  by_quote true true h =
      let x = behind-some 2 (f.literal_at (drop 1 q)) t h in
      ap (λ n. f.behind 2 n) (ap f.literal_at cut ∙ literal-steady (drop 1 q) m x.0 (omega arith)) ∙ h
  by_quote true false h =
      let x = behind-some 1 (f.literal_at q) t h in
      ap (λ n. f.behind 1 n) (literal-steady q (suc m) x.0 (omega arith)) ∙ h
  by_quote false c h = absurd cc

-- where there is none, none comes
tail-none : (r : List ℕ) (m : ℕ) → f.tail_at r ≡ 0 → (0 < m → begins 39 r ≡ false) → f.tail_at (take m r) ≡ 0
tail-none r zero e no_quote = refl
tail-none [] (suc m) e no_quote = refl
tail-none (d ∷ q) (suc m) e no_quote = ap (λ b. tail_by b (begins 115 (take m q)) (f.literal_at (drop 1 (take m q))) (f.literal_at (take m q))) (no_quote (omega arith))

-- ---- fronts

-- the token is behind no cut, and what may be part of a sized number is cut off right behind it or has no quote behind it
abbrev may_be_width : TokenKind → Bool
may_be_width k.Number = true
may_be_width k.Word = true
may_be_width _ = false

abbrev Keeps : List ℕ → ℕ → Front → Type 0
Keeps s l (Gap i) = i ≤ l
Keeps s l (Token x i) = (i ≤ l) × (may_be_width x ≡ true → i < l → begins 39 (drop i s) ≡ false)
Keeps s l Nothing = ⊥

-- a number or a word, with what may follow it
tail-keeps : (x : TokenKind) (n t l : ℕ) (s : List ℕ) → may_be_width x ≡ true → t ≡ f.tail_at (drop n s) → n ≤ l → Keeps s l (f.with_tail x n t) → f.with_tail x n (f.tail_at (drop n (take l s))) ≡ f.with_tail x n t
tail-keeps x n t l s may is le keeps = ap (λ r. f.with_tail x n (f.tail_at r)) cut ∙ ap (f.with_tail x n) (by_tail t is keeps) where
  room : n + (l - n) ≡ l
  room = omega arith

  cut : drop n (take l s) ≡ take (l - n) (drop n s)
  cut = ap (λ j. drop n (take j s)) (sym room) ∙ drop-take n (l - n) s

  by_tail : (m : ℕ) → m ≡ f.tail_at (drop n s) → Keeps s l (f.with_tail x n m) → f.tail_at (take (l - n) (drop n s)) ≡ m
  by_tail zero e h = tail-none (drop n s) (l - n) (sym e) (λ some. h.1 may (omega arith))
  by_tail (suc m) e h = let first = h.0 in tail-some (drop n s) m (l - n) (sym e) (omega arith)

number-keeps : (s : List ℕ) (l : ℕ) → 0 < f.number_at s → f.number_at s ≤ l → f.number_at (take l s) ≡ f.number_at s
number-keeps s l = by_test (f.is_number (base_of s) (f.digits_of (base_of s) (drop (mark_of (base_of s)) s))) refl where
  by_test : (b : Bool) → f.is_number (base_of s) (f.digits_of (base_of s) (drop (mark_of (base_of s)) s)) ≡ b
      → 0 < cond b (mark_of (base_of s) + length (f.digits_of (base_of s) (drop (mark_of (base_of s)) s))) 0 → cond b (mark_of (base_of s) + length (f.digits_of (base_of s) (drop (mark_of (base_of s)) s))) 0 ≤ l
      → f.number_at (take l s) ≡ cond b (mark_of (base_of s) + length (f.digits_of (base_of s) (drop (mark_of (base_of s)) s))) 0
  by_test false e h le = absurd (omega arith)
  by_test true e h le =
      let base = base_of s in
      let mark = mark_of base in
      let ds = f.digits_of base (drop mark s) in
      let some = number-some base ds e in
      let same = base-same l s (λ ne. let two = mark-long base ne in omega arith) in
      let room : mark + (l - mark) ≡ l = omega arith in
      let cut : drop mark (take l s) ≡ take (l - mark) (drop mark s) = ap (λ j. drop mark (take j s)) (sym room) ∙ drop-take mark (l - mark) s in
      let len = digits-length base (drop mark s) in
      let digits : f.digits_of base (drop mark (take l s)) ≡ ds = ap (f.digits_of base) cut ∙ digits-steady base (drop mark s) (l - mark) (omega arith) in
      ap (λ b. f.number_in b (take l s)) same ∙ ap (λ d. cond (f.is_number base d) (mark + length d) 0) digits ∙ ap (λ b. cond b (mark + length ds) 0) e

with_tail-room : (x : TokenKind) (n t l : ℕ) (s : List ℕ) → Keeps s l (f.with_tail x n t) → n ≤ l
with_tail-room x n zero l s h = h.0
with_tail-room x n (suc t) l s h = let first = h.0 in omega arith

numbered-keeps : (n l : ℕ) (s : List ℕ) → n ≡ f.number_at s → Keeps s l (f.numbered n s) → f.numbered (f.number_at (take l s)) (take l s) ≡ f.numbered n s
numbered-keeps zero l s is keeps = absurd keeps
numbered-keeps (suc n) l s is keeps =
    let le = with_tail-room k.Number (suc n) (f.tail_at (drop (suc n) s)) l s keeps in
    let same : f.number_at (take l s) ≡ suc n = number-keeps s l (omega arith) (omega arith) ∙ sym is in
    ap (λ m. f.numbered m (take l s)) same ∙ tail-keeps k.Number (suc n) (f.tail_at (drop (suc n) s)) l s refl refl le keeps

word-keeps : (s : List ℕ) (l : ℕ) → Keeps s l (f.word_at s) → f.word_at (take l s) ≡ f.word_at s
word-keeps s l keeps = by_word (f.reserved_of (take n s)) refl keeps where
  n : ℕ
  n = prefix_len f.is_word_byte s

  room : (o : Option _) → Keeps s l (f.worded o (prefix_len f.is_word_byte s) s) → prefix_len f.is_word_byte s ≤ l
  room (Some w) h = h.0
  room None h = with_tail-room k.Word (prefix_len f.is_word_byte s) (f.tail_at (drop (prefix_len f.is_word_byte s) s)) l s h

  rest : (o : Option _) → prefix_len f.is_word_byte s ≤ l → Keeps s l (f.worded o (prefix_len f.is_word_byte s) s) → f.worded o (prefix_len f.is_word_byte s) (take l s) ≡ f.worded o (prefix_len f.is_word_byte s) s
  rest (Some w) le h = refl
  rest None le h = tail-keeps k.Word (prefix_len f.is_word_byte s) (f.tail_at (drop (prefix_len f.is_word_byte s) s)) l s refl refl le h

  by_word : (o : Option _) → f.reserved_of (take (prefix_len f.is_word_byte s) s) ≡ o → Keeps s l (f.worded o (prefix_len f.is_word_byte s) s) → f.word_at (take l s) ≡ f.worded o (prefix_len f.is_word_byte s) s
  by_word o e h =
      let le = room o h in
      ap (λ m. f.word_in m (take l s)) (prefix-steady f.is_word_byte s l le)
      ∙ ap (λ x. f.worded (f.reserved_of x) (prefix_len f.is_word_byte s) (take l s)) (take-take (prefix_len f.is_word_byte s) l s le)
      ∙ ap (λ v. f.worded v (prefix_len f.is_word_byte s) (take l s)) e
      ∙ rest o le h

quoted-keeps : (t : List ℕ) (l : ℕ) (c : ℕ) → Keeps (c ∷ t) (suc l) (f.quoted (prefix_len f.is_no_quote t) t) → f.quoted (prefix_len f.is_no_quote (take l t)) (take l t) ≡ f.quoted (prefix_len f.is_no_quote t) t
quoted-keeps t l c keeps = by_end (nat_lt (prefix_len f.is_no_quote t) (length t)) refl keeps where
  by_end : (b : Bool) → nat_lt (prefix_len f.is_no_quote t) (length t) ≡ b → Keeps (c ∷ t) (suc l) (cond b (Token k.Text (prefix_len f.is_no_quote t + 2)) Nothing)
      → f.quoted (prefix_len f.is_no_quote (take l t)) (take l t) ≡ cond b (Token k.Text (prefix_len f.is_no_quote t + 2)) Nothing
  by_end false e h = absurd h
  by_end true e h =
      let first = h.0 in
      let lt = ltb-true (prefix_len f.is_no_quote t) (length t) e in
      let len = length-take l t in
      ap (λ m. f.quoted m (take l t)) (prefix-steady f.is_no_quote t l (omega arith)) ∙ ap (λ b. cond b (Token k.Text (prefix_len f.is_no_quote t + 2)) Nothing) (lt-ltb (prefix_len f.is_no_quote t) (length (take l t)) (omega arith))

sign-keeps : (in_width : Bool) (c : ℕ) (t : List ℕ) (l : ℕ) → Keeps (c ∷ t) (suc l) (f.sign_at in_width (c ∷ t)) → f.sign_at in_width (c ∷ take l t) ≡ f.sign_at in_width (c ∷ t)
sign-keeps in_width c t l = by_width (in_width && (c == 62)) where
  by_sign : (o : Option _) → f.sign_of (c ∷ t) ≡ o → Keeps (c ∷ t) (suc l) (f.signed o) → f.sign_of (c ∷ take l t) ≡ o
  by_sign None e h = absurd h
  by_sign (Some w) e h =
      let same = starts-same (c ∷ t) (sign_text w) (suc l) h.0 in
      let here = find-holds (λ v. starts_with nat_eq (c ∷ t) (sign_text v)) signs w e in
      find-some (λ v. starts_with nat_eq (c ∷ t) (sign_text v)) (λ v. starts_with nat_eq (c ∷ take l t) (sign_text v)) signs w e (same ∙ here) (λ v. starts-back (c ∷ t) (sign_text v) (suc l))

  by_width : (b : Bool) → Keeps (c ∷ t) (suc l) (cond b (Token (k.Sign g.Greater) 1) (f.signed (f.sign_of (c ∷ t)))) → cond b (Token (k.Sign g.Greater) 1) (f.signed (f.sign_of (c ∷ take l t))) ≡ cond b (Token (k.Sign g.Greater) 1) (f.signed (f.sign_of (c ∷ t)))
  by_width true h = refl
  by_width false h = ap f.signed (by_sign (f.sign_of (c ∷ t)) refl h)

other-keeps : (in_width : Bool) (c : ℕ) (t : List ℕ) (l : ℕ) → Keeps (c ∷ t) (suc l) (f.other_at in_width (c ∷ t)) → f.other_at in_width (c ∷ take l t) ≡ f.other_at in_width (c ∷ t)
other-keeps in_width c t l = by_digit (is_digit c 10) where
  by_quote : (b : Bool) → Keeps (c ∷ t) (suc l) (cond b (f.text_at (c ∷ t)) (f.sign_at in_width (c ∷ t))) → cond b (f.text_at (c ∷ take l t)) (f.sign_at in_width (c ∷ take l t)) ≡ cond b (f.text_at (c ∷ t)) (f.sign_at in_width (c ∷ t))
  by_quote true h = quoted-keeps t l c h
  by_quote false h = sign-keeps in_width c t l h

  by_word : (b : Bool) → Keeps (c ∷ t) (suc l) (cond b (f.word_at (c ∷ t)) (cond (c == 34) (f.text_at (c ∷ t)) (f.sign_at in_width (c ∷ t))))
      → cond b (f.word_at (c ∷ take l t)) (cond (c == 34) (f.text_at (c ∷ take l t)) (f.sign_at in_width (c ∷ take l t))) ≡ cond b (f.word_at (c ∷ t)) (cond (c == 34) (f.text_at (c ∷ t)) (f.sign_at in_width (c ∷ t)))
  by_word true h = word-keeps (c ∷ t) (suc l) h
  by_word false h = by_quote (c == 34) h

  by_digit : (b : Bool) → Keeps (c ∷ t) (suc l) (cond b (f.numbered (f.number_at (c ∷ t)) (c ∷ t)) (cond (f.is_word_byte c) (f.word_at (c ∷ t)) (cond (c == 34) (f.text_at (c ∷ t)) (f.sign_at in_width (c ∷ t)))))
      → cond b (f.numbered (f.number_at (c ∷ take l t)) (c ∷ take l t)) (cond (f.is_word_byte c) (f.word_at (c ∷ take l t)) (cond (c == 34) (f.text_at (c ∷ take l t)) (f.sign_at in_width (c ∷ take l t))))
      ≡ cond b (f.numbered (f.number_at (c ∷ t)) (c ∷ t)) (cond (f.is_word_byte c) (f.word_at (c ∷ t)) (cond (c == 34) (f.text_at (c ∷ t)) (f.sign_at in_width (c ∷ t))))
  by_digit true h = numbered-keeps (f.number_at (c ∷ t)) (suc l) (c ∷ t) refl h
  by_digit false h = by_word (f.is_word_byte c) h

token-keeps : (in_width : Bool) (c : ℕ) (t : List ℕ) (l : ℕ) → Keeps (c ∷ t) (suc l) (f.token_at in_width (c ∷ t)) → f.token_at in_width (c ∷ take l t) ≡ f.token_at in_width (c ∷ t)
token-keeps in_width c t l keeps = by_special (f.special_of (c ∷ t)) refl keeps where
  by_special : (o : Option _) → f.special_of (c ∷ t) ≡ o → Keeps (c ∷ t) (suc l) (f.special_or o in_width (c ∷ t)) → f.token_at in_width (c ∷ take l t) ≡ f.special_or o in_width (c ∷ t)
  by_special (Some w) e h =
      let same = starts-same (c ∷ t) (special_text w) (suc l) h.0 in
      let here = find-holds (λ v. starts_with nat_eq (c ∷ t) (special_text v)) special_words w e in
      ap (λ o. f.special_or o in_width (c ∷ take l t)) (find-some (λ v. starts_with nat_eq (c ∷ t) (special_text v)) (λ v. starts_with nat_eq (c ∷ take l t) (special_text v)) special_words w e (same ∙ here) (λ v. starts-back (c ∷ t) (special_text v) (suc l)))
  by_special None e h =
      ap (λ o. f.special_or o in_width (c ∷ take l t)) (find-none (λ v. starts_with nat_eq (c ∷ t) (special_text v)) (λ v. starts_with nat_eq (c ∷ take l t) (special_text v)) special_words e (λ v. starts-back (c ∷ t) (special_text v) (suc l)))
      ∙ other-keeps in_width c t l h

gap-keeps : (c : ℕ) (t : List ℕ) (l : ℕ) → f.gap_at (c ∷ t) ≤ suc l → f.gap_at (c ∷ take l t) ≡ f.gap_at (c ∷ t)
gap-keeps c t l = by_blank ((c == 32) || (c == 10)) where
  by_hash : (b : Bool) → cond b (prefix_len f.is_no_line_feed (c ∷ t)) 0 ≤ suc l → cond b (prefix_len f.is_no_line_feed (c ∷ take l t)) 0 ≡ cond b (prefix_len f.is_no_line_feed (c ∷ t)) 0
  by_hash true le = prefix-steady f.is_no_line_feed (c ∷ t) (suc l) le
  by_hash false le = refl

  by_blank : (b : Bool) → cond b 1 (cond (c == 35) (prefix_len f.is_no_line_feed (c ∷ t)) 0) ≤ suc l → cond b 1 (cond (c == 35) (prefix_len f.is_no_line_feed (c ∷ take l t)) 0) ≡ cond b 1 (cond (c == 35) (prefix_len f.is_no_line_feed (c ∷ t)) 0)
  by_blank true le = refl
  by_blank false le = by_hash (c == 35) le

plain-keeps : (in_width : Bool) (c : ℕ) (t : List ℕ) (l : ℕ) → Keeps (c ∷ t) (suc l) (f.plain_at in_width (c ∷ t)) → f.plain_at in_width (c ∷ take l t) ≡ f.plain_at in_width (c ∷ t)
plain-keeps in_width c t l keeps = by_gap (f.gap_at (c ∷ t)) refl keeps where
  by_gap : (n : ℕ) → f.gap_at (c ∷ t) ≡ n → Keeps (c ∷ t) (suc l) (f.gap_or n in_width (c ∷ t)) → f.plain_at in_width (c ∷ take l t) ≡ f.gap_or n in_width (c ∷ t)
  by_gap zero e h = ap (λ m. f.gap_or m in_width (c ∷ take l t)) (gap-keeps c t l (omega arith) ∙ e) ∙ token-keeps in_width c t l h
  by_gap (suc n) e h = ap (λ m. f.gap_or m in_width (c ∷ take l t)) (gap-keeps c t l (omega arith) ∙ e)

front-keeps : (b : Before) (c : ℕ) (t : List ℕ) (l : ℕ) → Keeps (c ∷ t) (suc l) (f.front_at b (c ∷ t)) → f.front_at b (c ∷ take l t) ≡ f.front_at b (c ∷ t)
unfolding f.front_at
front-keeps b c t l = by_place b.in_description where
  by_len : (n : ℕ) → prefix_len f.is_no_brace (c ∷ t) ≡ n → Keeps (c ∷ t) (suc l) (f.description_or n b.in_width (c ∷ t)) → f.description_or (prefix_len f.is_no_brace (c ∷ take l t)) b.in_width (c ∷ take l t) ≡ f.description_or n b.in_width (c ∷ t)
  by_len zero e h = ap (λ m. f.description_or m b.in_width (c ∷ take l t)) (prefix-steady f.is_no_brace (c ∷ t) (suc l) (omega arith) ∙ e) ∙ plain-keeps b.in_width c t l h
  by_len (suc n) e h = let first = h.0 in ap (λ m. f.description_or m b.in_width (c ∷ take l t)) (prefix-steady f.is_no_brace (c ∷ t) (suc l) (omega arith) ∙ e)

  by_place : (d : Bool) → Keeps (c ∷ t) (suc l) (cond d (f.description_or (prefix_len f.is_no_brace (c ∷ t)) b.in_width (c ∷ t)) (f.plain_at b.in_width (c ∷ t)))
      → cond d (f.description_or (prefix_len f.is_no_brace (c ∷ take l t)) b.in_width (c ∷ take l t)) (f.plain_at b.in_width (c ∷ take l t)) ≡ cond d (f.description_or (prefix_len f.is_no_brace (c ∷ t)) b.in_width (c ∷ t)) (f.plain_at b.in_width (c ∷ t))
  by_place true h = by_len (prefix_len f.is_no_brace (c ∷ t)) refl h
  by_place false h = plain-keeps b.in_width c t l h

-- ---- rows

quote-plain : (in_width : Bool) (r : List ℕ) → f.plain_at in_width (39 ∷ r) ≡ Nothing
unfolding special_words signs
quote-plain true r = refl
quote-plain false r = refl

no-brace : (x : TokenKind) → may_be_width x ≡ true → f.is_open_brace x ≡ false
no-brace k.Word h = refl
no-brace (k.Reserved w) h = absurd cc
no-brace (k.Special w) h = absurd cc
no-brace k.Number h = refl
no-brace k.Sized h = absurd cc
no-brace k.Text h = absurd cc
no-brace k.Description h = absurd cc
no-brace (k.Sign w) h = absurd cc

quote-here : (a : Before) (r : List ℕ) → a.in_description ≡ false → f.front_at a (39 ∷ r) ≡ Nothing
unfolding f.front_at
quote-here a r none = ap (λ d. cond d (f.description_or (prefix_len f.is_no_brace (39 ∷ r)) a.in_width (39 ∷ r)) (f.plain_at a.in_width (39 ∷ r))) none ∙ quote-plain a.in_width r

-- behind a number or a word no quote is read
quote-nothing : (b : Before) (x : TokenKind) (r : List ℕ) → may_be_width x ≡ true → begins 39 r ≡ true → f.front_at (f.after b x) r ≡ Nothing
quote-nothing b x [] may h = absurd cc
quote-nothing b x (c ∷ r) may h = ap (λ d. f.front_at (f.after b x) (d ∷ r)) (eqb-true c 39 h) ∙ quote-here (f.after b x) r (and_right b.describes (f.is_open_brace x) (no-brace x may))

Reads-up : {b c : Before} {n m : ℕ} {s t : List ℕ} {ts : List Lexeme} → Reads b n s ts c m t → n ≤ m
Reads-up done = omega arith
Reads-up (gap e p) = let rest = Reads-up p in omega arith
Reads-up (token e p) = let rest = Reads-up p in omega arith

no-quote : {b c : Before} {n m : ℕ} {s t : List ℕ} {ts : List Lexeme} → Reads b n s ts c m t → (begins 39 s ≡ true → f.front_at b s ≡ Nothing) → n < m → begins 39 s ≡ false
no-quote done none lt = absurd (omega arith)
no-quote {s = s} (gap e p) none lt = false_from_ne_true (begins 39 s) (λ h. let q = none h in absurd cc)
no-quote {s = s} (token e p) none lt = false_from_ne_true (begins 39 s) (λ h. let q = none h in absurd cc)

front-cut : (b : Before) (s : List ℕ) (l : ℕ) → 0 < l → 0 < length s → Keeps s l (f.front_at b s) → f.front_at b (take l s) ≡ f.front_at b s
front-cut b s zero some full keeps = absurd (omega arith)
front-cut b [] (suc l) some full keeps = absurd (omega arith)
front-cut b (c ∷ t) (suc l) some full keeps = front-keeps b c t l keeps

rest-cut : (s : List ℕ) (l i : ℕ) → i ≤ l → drop i (take l s) ≡ take (l - i) (drop i s)
rest-cut s l i le = let room : i + (l - i) ≡ l = omega arith in ap (λ j. drop i (take j s)) (sym room) ∙ drop-take i (l - i) s

-- what was read up to a place reads the same where the source is cut there
Reads-front : {b c : Before} {n m : ℕ} {s t : List ℕ} {ts : List Lexeme} → Reads b n s ts c m t → (l : ℕ) → n + l ≡ m → Reads b n (take l s) ts c m []
Reads-front {b} {c} {n} {m} {s} done l e = let none : l ≡ 0 = omega arith in subst (λ j. Reads b n (take j s) [] b n []) (sym none) done
Reads-front {b} {c} {n} {m} {s} {t} {ts} (gap {i = i} g p) l e =
    let ends = gap-ends b s i g in
    let some = ends.some in
    let within = ends.within in
    let up = Reads-up p in
    let le : i ≤ l = omega arith in
    gap (front-cut b s l (omega arith) (omega arith) (subst (Keeps s l) (sym g) le) ∙ g) (subst (λ r. Reads b (n + i) r ts c m []) (sym (rest-cut s l i le)) (Reads-front p (l - i) (omega arith)))
Reads-front {b} {c} {n} {m} {s} (token {i = i} {ts = ts} {x = x} g p) l e =
    let ends = token-ends b s x i g in
    let some = ends.some in
    let within = ends.within in
    let up = Reads-up p in
    let le : i ≤ l = omega arith in
    let keeps : Keeps s l (Token x i) = (le, λ may lt. no-quote p (quote-nothing b x (drop i s) may) (omega arith)) in
    subst (λ y. Reads b n (take l s) (lexeme x y n ∷ ts) c m []) (take-take i l s le)
    (token (front-cut b s l (omega arith) (omega arith) (subst (Keeps s l) (sym g) keeps) ∙ g) (subst (λ r. Reads (f.after b x) (n + i) r ts c m []) (sym (rest-cut s l i le)) (Reads-front p (l - i) (omega arith))))

pub bad-front : (source : List ℕ) (at : ℕ) → IsBadAt source at → (ts : List Lexeme) × IsRow (take at source) ts
bad-front source at p = let place : 0 + at ≡ at = omega arith in (p.0, (p.1, at, Reads-front p.3 at place))
