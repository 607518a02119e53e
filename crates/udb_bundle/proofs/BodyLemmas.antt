-- The lines of parts, read one after the other.
use Rattle.std.proofs.Common.{◌≡◌, ℕ, suc, ◌+◌, ◌-◌, ◌≤◌, ◌==◌, true, false, nat_le, List, [], ◌∷◌, ◌++◌, length, map, Option, Some, None, option_and_then, refl, sym, ap, ◌∙◌, subst, append_assoc, append-nil, length-append, arith}
use Rattle.std.specs.List.{list_all}
use Rattle.std.specs.Str.Parse.{digits_value}
use Rattle.std.proofs.lemmas.Bool.{and_parts, eq-eqb, ne_eqb, le-leb}
use Rattle.udb_base.specs.declared.kinds.Kind.{Kind}
use Rattle.udb_base.specs.Lines.{text_of_lines}
use Rattle.udb_bundle.specs.declared.reading.Open.{Open}
use Rattle.udb_bundle.specs.declared.reading.Open.TheVariants as open_part
use Rattle.udb_bundle.specs.declared.reading.Reading.{Reading}
use Rattle.udb_bundle.specs.Bundles.{Line, is_word}
use Rattle.udb_bundle.specs.Reading.{is_full, close, closed, step, run}
use Rattle.udb_bundle.proofs.HeadingLemmas.{at}

-- ---- runs

abbrev pub then_run : List Line → Option Reading → Option Reading
then_run ls o = option_and_then (λ t. run t ls) o

then_then : (front more : List Line) (o : Option Reading) → ((t : Reading) → run t (front ++ more) ≡ then_run more (run t front)) → then_run (front ++ more) o ≡ then_run more (then_run front o)
then_then front more None h = refl
then_then front more (Some t) h = h t

-- a run over more lines goes on where the first ends
pub run_append : (front more : List Line) (s : Reading) → run s (front ++ more) ≡ then_run more (run s front)
run_append [] more s = refl
run_append (l ∷ front) more s = then_then front more (step s l) (run_append front more)

-- a part that wants more lines stays open
pub stays_open : (o : Open) (s : Reading) → is_full o ≡ false → closed (at o s) ≡ at o s
stays_open o s h = rw h refl

pub is_closed : (o : Open) (s : Reading) → is_full o ≡ true → closed (at o s) ≡ close o (at o s)
is_closed o s h = rw h refl

pub wants : (left : ℕ) → (suc left == 0) ≡ false
wants left = ne_eqb (suc left) 0 (λ e. omega (arith, e))

-- ---- a row's lines

abbrev pub row_read : Reading → Kind → List ℕ → List ℕ → Reading
row_read s k name text = close (open_part.Entry k name text 0) s

abbrev pub image_read : Reading → List ℕ → Reading
image_read s words = close (open_part.Image words 0) s

abbrev pub proof_read : Reading → List Line → Reading
proof_read s lines = close (open_part.Proof lines 0) s

pub text_more : (text l : List ℕ) (ls : List Line) → (text ++ l ++ 10 ∷ []) ++ text_of_lines ls ≡ text ++ text_of_lines (l ∷ ls)
text_more text l ls = append_assoc (text ++ l) (10 ∷ []) (text_of_lines ls) ∙ (append_assoc text l (10 ∷ text_of_lines ls) ∙ ap (λ xs. text ++ xs) (sym (append_assoc l (10 ∷ []) (text_of_lines ls))))

pub length-text : (text l : List ℕ) (ls : List Line) → length text + length (text_of_lines (l ∷ ls)) ≡ length (text ++ l ++ 10 ∷ []) + length (text_of_lines ls)
length-text text l ls = simp length-append (omega arith)

pub lines_within : (ls : List Line) → length ls ≤ length (text_of_lines ls)
lines_within [] = omega arith
lines_within (l ∷ ls) = let h = lines_within ls in simp length-append (omega (arith, h))

-- one more line of a row
pub row_step : (s : Reading) (k : Kind) (name text : List ℕ) (left : ℕ) (l : Line) → nat_le (length text + length l + suc left) 65536 ≡ true → step (at (open_part.Entry k name text (suc left)) s) l ≡ Some (closed (at (open_part.Entry k name (text ++ l ++ 10 ∷ []) left) s))
row_step s k name text left l h = let e : suc left - 1 ≡ left = omega arith in rw (h, e) refl

row_bound : (text l : List ℕ) (ls : List Line) → length text + length (text_of_lines (l ∷ ls)) ≤ 65536 → length text + length l + suc (length ls) ≤ 65536
row_bound text l ls h = let w = lines_within ls in omega (arith, w, simp length-append at h)

-- all lines of a row
pub row_lines : (s : Reading) (k : Kind) (name : List ℕ) (ls rest : List Line) (text : List ℕ) → length text + length (text_of_lines ls) ≤ 65536 → run (closed (at (open_part.Entry k name text (length ls)) s)) (ls ++ rest) ≡ run (row_read s k name (text ++ text_of_lines ls)) rest
row_lines s k name [] rest text h = ap (λ t. run (row_read s k name t) rest) (sym (append-nil text))
row_lines s k name (l ∷ ls) rest text h =
    let t = text ++ l ++ 10 ∷ [] in
    ap (λ u. run u (l ∷ ls ++ rest)) (stays_open (open_part.Entry k name text (suc (length ls))) s (wants (length ls)))
    ∙ (ap (then_run (ls ++ rest)) (row_step s k name text (length ls) l (le-leb _ _ (row_bound text l ls h)))
    ∙ (row_lines s k name ls rest t (subst (λ (n : ℕ). n ≤ 65536) (length-text text l ls) h)
    ∙ ap (λ t. run (row_read s k name t) rest) (text_more text l ls)))

-- ---- the lines of an image

pub word_step : (s : Reading) (words : List ℕ) (left : ℕ) (l : Line) → is_word l ≡ true → step (at (open_part.Image words (suc left)) s) l ≡ Some (closed (at (open_part.Image (words ++ digits_value 16 l ∷ []) left) s))
word_step s words left l h = let e : suc left - 1 ≡ left = omega arith in rw (h, e) refl

pub image_lines : (s : Reading) (ls rest : List Line) (words : List ℕ) → list_all is_word ls ≡ true → run (closed (at (open_part.Image words (length ls)) s)) (ls ++ rest) ≡ run (image_read s (words ++ map (digits_value 16) ls)) rest
image_lines s [] rest words h = ap (λ w. run (image_read s w) rest) (sym (append-nil words))
image_lines s (l ∷ ls) rest words h =
    let p = and_parts _ _ h in
    ap (λ u. run u (l ∷ ls ++ rest)) (stays_open (open_part.Image words (suc (length ls))) s (wants (length ls)))
    ∙ (ap (then_run (ls ++ rest)) (word_step s words (length ls) l p.0)
    ∙ (image_lines s ls rest (words ++ digits_value 16 l ∷ []) p.1
    ∙ ap (λ w. run (image_read s w) rest) (append_assoc words (digits_value 16 l ∷ []) (map (digits_value 16) ls))))

-- ---- the lines of a proof

pub proof_lines : (s : Reading) (ls rest lines : List Line) (n : ℕ) → n ≡ length lines + length ls → run (closed (at (open_part.Proof lines n) s)) (ls ++ rest) ≡ run (proof_read s (lines ++ ls)) rest
proof_lines s [] rest lines n h =
    ap (λ u. run u rest) (is_closed (open_part.Proof lines n) s (eq-eqb n (length lines) (omega (arith, h))))
    ∙ ap (λ w. run (proof_read s w) rest) (sym (append-nil lines))
proof_lines s (l ∷ ls) rest lines n h =
    ap (λ u. run u (l ∷ ls ++ rest)) (stays_open (open_part.Proof lines n) s (ne_eqb n (length lines) (λ e. omega (arith, h, e))))
    ∙ (proof_lines s ls rest (lines ++ l ∷ []) n (simp length-append (omega (arith, h)))
    ∙ ap (λ w. run (proof_read s w) rest) (append_assoc lines (l ∷ []) ls))
