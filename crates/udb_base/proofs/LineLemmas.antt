-- The lines at the front of bytes, and how many line feeds stand before a place.
use Rattle.std.proofs.Common.{◌≡◌, ℕ, zero, suc, ◌+◌, ◌-◌, ◌<◌, ◌==◌, Bool, true, false, cond, List, [], ◌∷◌, length, take, get_or, refl, ap, sym, ◌∙◌, subst, arith, IsUtf8, count_by, add-one}
use Rattle.std.proofs.lemmas.Str.{IsUtf8-take, IsCharBoundary-after_ascii, IsUtf8-nil}
use Rattle.std.proofs.lemmas.List.Recursion.{is_count_by}
use Rattle.std.proofs.Math.Numerals.{suc-eq-add-one}
use Rattle.std.specs.Str.{IsValidUpTo}
use Rattle.udb_base.specs.Texts.{first_lines, IsBadLine}

-- how many line feeds there are
abbrev pub feeds : List ℕ → ℕ
feeds [] = zero
feeds (b ∷ bs) = cond (b == 10) (suc (feeds bs)) (feeds bs)

feeds_yes : (b : ℕ) (bs : List ℕ) → (b == 10) ≡ true → feeds (b ∷ bs) ≡ suc (feeds bs)
feeds_yes b bs e = ap (λ t. cond t (suc (feeds bs)) (feeds bs)) e

feeds_no : (b : ℕ) (bs : List ℕ) → (b == 10) ≡ false → feeds (b ∷ bs) ≡ feeds bs
feeds_no b bs e = ap (λ t. cond t (suc (feeds bs)) (feeds bs)) e

lines_yes : (n b : ℕ) (bs : List ℕ) → (b == 10) ≡ true → first_lines (suc n) (b ∷ bs) ≡ b ∷ first_lines n bs
lines_yes n b bs e = ap (λ t. b ∷ cond t (first_lines n bs) (first_lines (suc n) bs)) e

lines_no : (n b : ℕ) (bs : List ℕ) → (b == 10) ≡ false → first_lines (suc n) (b ∷ bs) ≡ b ∷ first_lines (suc n) bs
lines_no n b bs e = ap (λ t. b ∷ cond t (first_lines n bs) (first_lines (suc n) bs)) e

lines-take_other : (k v b : ℕ) (bs : List ℕ) → first_lines k bs ≡ first_lines k (take v bs) → (b == 10) ≡ false → first_lines k (b ∷ bs) ≡ first_lines k (b ∷ take v bs)
lines-take_other zero v b bs h e = refl
lines-take_other (suc k) v b bs h e = rw (lines_no k b bs e, lines_no k b (take v bs) e) (ap (λ xs. b ∷ xs) h)

lines-take_byte : (t : Bool) (v b : ℕ) (bs : List ℕ) → (b == 10) ≡ t → first_lines (feeds (take v bs)) bs ≡ first_lines (feeds (take v bs)) (take v bs) → first_lines (feeds (b ∷ take v bs)) (b ∷ bs) ≡ first_lines (feeds (b ∷ take v bs)) (b ∷ take v bs)
lines-take_byte true v b bs e h = rw (feeds_yes b (take v bs) e, lines_yes (feeds (take v bs)) b bs e, lines_yes (feeds (take v bs)) b (take v bs) e) (ap (λ xs. b ∷ xs) h)
lines-take_byte false v b bs e h = rw (feeds_no b (take v bs) e) (lines-take_other (feeds (take v bs)) v b bs h e)

-- the first lines of bytes, up to the last line feed before a place, are those of the front
pub lines-take : (v : ℕ) (bs : List ℕ) → first_lines (feeds (take v bs)) bs ≡ first_lines (feeds (take v bs)) (take v bs)
lines-take zero bs = refl
lines-take (suc v) [] = refl
lines-take (suc v) (b ∷ bs) = lines-take_byte (b == 10) v b bs refl (lines-take v bs)

lines_front_byte : (t : Bool) (n b : ℕ) (bs : List ℕ) → (b == 10) ≡ t → ((k : ℕ) → first_lines k bs ≡ take (length (first_lines k bs)) bs) → first_lines (suc n) (b ∷ bs) ≡ take (length (first_lines (suc n) (b ∷ bs))) (b ∷ bs)
lines_front_byte true n b bs e h = let P : List ℕ → Type 0 = λ l. l ≡ take (length l) (b ∷ bs) in subst P (sym (lines_yes n b bs e)) (ap (λ xs. b ∷ xs) (h n))
lines_front_byte false n b bs e h = let P : List ℕ → Type 0 = λ l. l ≡ take (length l) (b ∷ bs) in subst P (sym (lines_no n b bs e)) (ap (λ xs. b ∷ xs) (h (suc n)))

-- the first lines are a front
pub lines_front : (bs : List ℕ) (n : ℕ) → first_lines n bs ≡ take (length (first_lines n bs)) bs
lines_front bs zero = refl
lines_front [] (suc n) = refl
lines_front (b ∷ bs) (suc n) = lines_front_byte (b == 10) n b bs refl (lines_front bs)

lines_past_byte : (t : Bool) (v b : ℕ) (bs : List ℕ) → (b == 10) ≡ t → v < length (first_lines (suc (feeds (take v bs))) bs) → suc v < length (first_lines (suc (feeds (b ∷ take v bs))) (b ∷ bs))
lines_past_byte true v b bs e h = omega (arith, h, ap length (ap (λ k. first_lines (suc k) (b ∷ bs)) (feeds_yes b (take v bs) e) ∙ lines_yes (suc (feeds (take v bs))) b bs e))
lines_past_byte false v b bs e h = omega (arith, h, ap length (ap (λ k. first_lines (suc k) (b ∷ bs)) (feeds_no b (take v bs) e) ∙ lines_no (feeds (take v bs)) b bs e))

-- the line of a place ends past it
pub lines_past : (v : ℕ) (bs : List ℕ) → v < length bs → v < length (first_lines (suc (feeds (take v bs))) bs)
lines_past v [] h = absurd (omega arith)
lines_past zero (b ∷ bs) h = omega arith
lines_past (suc v) (b ∷ bs) h = lines_past_byte (b == 10) v b bs refl (lines_past v bs (omega arith))

-- where the first lines end: at the end, at the start, or after a line feed
pub data LinesEnd (n : ℕ) (bs : List ℕ) : Type 0 where
  whole : first_lines n bs ≡ bs → LinesEnd n bs
  none : first_lines n bs ≡ [] → LinesEnd n bs
  feed : (i : ℕ) → i < length bs → get_or bs i 0 ≡ 10 → first_lines n bs ≡ take (suc i) bs → LinesEnd n bs

no_line : (n : ℕ) (xs : List ℕ) → first_lines (suc n) xs ≡ [] → first_lines (suc n) xs ≡ xs
no_line n [] h = refl
no_line n (x ∷ xs) h = absurd (cc)

lines_end_feed : (n b : ℕ) (bs : List ℕ) → (b == 10) ≡ true → LinesEnd n bs → LinesEnd (suc n) (b ∷ bs)
lines_end_feed n b bs e (whole h) = whole (lines_yes n b bs e ∙ ap (λ xs. b ∷ xs) h)
lines_end_feed n b bs e (none h) = feed zero (omega arith) (grind (arith, e)) (lines_yes n b bs e ∙ ap (λ xs. b ∷ xs) h)
lines_end_feed n b bs e (feed i l f h) = feed (suc i) (omega arith) f (lines_yes n b bs e ∙ ap (λ xs. b ∷ xs) h)

lines_end_other : (n b : ℕ) (bs : List ℕ) → (b == 10) ≡ false → LinesEnd (suc n) bs → LinesEnd (suc n) (b ∷ bs)
lines_end_other n b bs e (whole h) = whole (lines_no n b bs e ∙ ap (λ xs. b ∷ xs) h)
lines_end_other n b bs e (none h) = whole (lines_no n b bs e ∙ ap (λ xs. b ∷ xs) (no_line n bs h))
lines_end_other n b bs e (feed i l f h) = feed (suc i) (omega arith) f (lines_no n b bs e ∙ ap (λ xs. b ∷ xs) h)

lines_end_byte : (t : Bool) (n b : ℕ) (bs : List ℕ) → (b == 10) ≡ t → ((k : ℕ) → LinesEnd k bs) → LinesEnd (suc n) (b ∷ bs)
lines_end_byte true n b bs e h = lines_end_feed n b bs e (h n)
lines_end_byte false n b bs e h = lines_end_other n b bs e (h (suc n))

pub lines_end : (bs : List ℕ) (n : ℕ) → LinesEnd n bs
lines_end bs zero = none refl
lines_end [] (suc n) = whole refl
lines_end (b ∷ bs) (suc n) = lines_end_byte (b == 10) n b bs refl (lines_end bs)

lines-IsUtf8_end : (n : ℕ) (bs : List ℕ) → IsUtf8 bs → LinesEnd n bs → IsUtf8 (first_lines n bs)
lines-IsUtf8_end n bs u (whole h) = rw h u
lines-IsUtf8_end n bs u (none h) = rw h IsUtf8-nil
lines-IsUtf8_end n bs u (feed i l f h) = rw (h, suc-eq-add-one i) (IsUtf8-take bs (i + 1) u (IsCharBoundary-after_ascii bs i u l (omega (arith, f))))

-- lines of a text are a text
pub lines-IsUtf8 : (n : ℕ) (bs : List ℕ) → IsUtf8 bs → IsUtf8 (first_lines n bs)
lines-IsUtf8 n bs u = lines-IsUtf8_end n bs u (lines_end bs n)

counted_byte : (t : Bool) (n : ℕ) → cond t (suc n) n ≡ cond t (1 + n) n
counted_byte true n = omega arith
counted_byte false n = refl

feeds-count_by : (xs : List ℕ) → feeds xs ≡ count_by (λ b. b == 10) xs
feeds-count_by = is_count_by feeds (λ b. b == 10) refl (λ x xs. counted_byte (x == 10) (feeds xs))

-- the line of the byte after the longest front that is UTF-8
pub bad_line : (bs : List ℕ) (v : ℕ) → IsValidUpTo bs v → IsBadLine bs (suc (feeds (take v bs)))
bad_line bs v u = record {
  counted = omega arith;
  before = before (feeds (take v bs)) (lines-take v bs);
  here = λ whole. u.longest (length (first_lines (suc (feeds (take v bs))) bs)) (lines_past v bs u.short) (rw (← lines_front bs (suc (feeds (take v bs)))) whole);
}
  where
    before : (n : ℕ) → first_lines n bs ≡ first_lines n (take v bs) → IsUtf8 (first_lines (suc n - 1) bs)
    before n e = let now : IsUtf8 (first_lines n bs) = rw e (lines-IsUtf8 n (take v bs) u.front) in subst (λ (k : ℕ). IsUtf8 (first_lines k bs)) (omega arith) now

-- the same, with the count that the program makes
pub bad_line_counted : (bs : List ℕ) (v line : ℕ) → IsValidUpTo bs v → line ≡ count_by (λ b. b == 10) (take v bs) + 1 → IsBadLine bs line
bad_line_counted bs v line u e = rw (e, ← feeds-count_by (take v bs), add-one) (bad_line bs v u)
