-- A block scalar that is read row by row has the text of its rows.
use Rattle.std.proofs.Common.{◌≡◌, ℕ, zero, suc, ◌-◌, Bool, true, false, cond, ◌||◌, eqb, leb, IsTrue, List, [], ◌∷◌, ◌++◌, replicate, Option, Some, None, refl, sym, ap, subst, ◌∙◌, append_assoc, append-nil, arith}
use Rattle.std.proofs.lemmas.Bool.{false≢true, le-leb, and_parts}
use Rattle.yaml_spec.specs.declared.state.Block.{Block}
use Rattle.yaml_spec.specs.declared.tree.Tree.TheVariants as tree
use Rattle.yaml_spec.specs.Line.{spaces, begins}
use Rattle.yaml_spec.specs.Spells.{Line, at, column, is_empty, is_blank, is_inside, indentation, BlockLines, row, all_blank, rows_from, kept, joint, folded_after, folded, ended, block_text}
use Rattle.yaml_spec.specs.Spells as s
use Rattle.yaml_spec.specs.Machine as r
use Rattle.yaml_spec.specs.Machine.{open_block, glue, first_row, next_row, with_row, grown, then_reads, block_tree}
use Rattle.yaml_spec.proofs.Cases.{if_some}

abbrev pub grow : Block → List Line → Option Block
grow b [] = Some b
grow b (l ∷ ls) = r.with_next (grown b l) (λ next. grow next ls)

-- ---- rows

row_some : (n x : ℕ) (s : List ℕ) → is_empty (spaces n ++ x ∷ s) ≡ false
row_some zero x s = refl
row_some (suc n) x s = refl

rows_none : (m : ℕ) (ls : List Line) → all_blank ls ≡ true → rows_from m ls ≡ []
rows_none m [] e = refl
rows_none m (l ∷ ls) e = rw e refl

-- behind a row and k blank ones, folded or not
abbrev after : Bool → Bool → ℕ → List (List ℕ) → List ℕ
after folds deeper k [] = []
after folds deeper k (r ∷ rs) = cond (is_empty r) (after folds deeper (suc k) rs) (glue folds (deeper || begins 32 r) k ++ (r ++ after folds (begins 32 r) 0 rs))

-- behind k blank ones
abbrev from_front : Bool → ℕ → List (List ℕ) → List ℕ
from_front folds k [] = []
from_front folds k (r ∷ rs) = cond (is_empty r) (from_front folds (suc k) rs) (replicate k 10 ++ (r ++ after folds (begins 32 r) 0 rs))

next_some : (o : Option Block) (f : Block → Option Block) (z : Block) → r.with_next o f ≡ Some z → (y : Block) × (o ≡ Some y) × (f y ≡ Some z)
next_some None f z e = absurd cc
next_some (Some y) f z e = (y, refl, e)

row_fits : (m c : ℕ) (b : Block) (w : List ℕ) (y : Block) → with_row (Some m) b c w ≡ Some y → (leb m c ≡ true) × (next_row b m (spaces (c - m) ++ w) ≡ y)
row_fits m c b w y e = let there = if_some (leb m c) (Some (next_row b m (spaces (c - m) ++ w))) e in (there.0, (let e' = there.1 in cc))

-- ---- the text behind the first row

grows_after : (ls : List Line) (b z : Block) (m : ℕ) → b.indentation ≡ Some m → grow b ls ≡ Some z → z.text ≡ b.text ++ after b.folds b.deeper b.blanks (rows_from m ls)
grows_after [] b z m is e = let same : b ≡ z = cc in ap (λ (y : Block). y.text) (sym same) ∙ sym (append-nil b.text)
grows_after (at c [] ∷ ls) b z m is e = go (all_blank ls) refl (grows_after ls _ z m is e)
  where
    go : (a : Bool) → all_blank ls ≡ a → z.text ≡ b.text ++ after b.folds b.deeper (suc b.blanks) (rows_from m ls) → z.text ≡ b.text ++ after b.folds b.deeper b.blanks (cond a [] ([] ∷ rows_from m ls))
    go true blank inner = inner ∙ ap (λ (y : List (List ℕ)). b.text ++ after b.folds b.deeper (suc b.blanks) y) (rows_none m ls blank)
    go false blank inner = inner
grows_after (at c (x ∷ w) ∷ ls) b z m is e =
    let step = next_some (with_row b.indentation b c (x ∷ w)) (λ next. grow next ls) z e in
    let fits = row_fits m c b (x ∷ w) step.0 (ap (λ (o : Option ℕ). with_row o b c (x ∷ w)) (sym is) ∙ step.1) in
    let w' : List ℕ = spaces (c - m) ++ x ∷ w in
    let inner = grows_after ls (next_row b m w') z m refl (ap (λ (y : Block). grow y ls) fits.1 ∙ step.2) in
    inner ∙ (rw (row_some (c - m) x w) (append_assoc b.text (glue b.folds (b.deeper || begins 32 w') b.blanks ++ w') (after b.folds (begins 32 w') 0 (rows_from m ls)) ∙ ap (λ (y : List ℕ). b.text ++ y) (append_assoc (glue b.folds (b.deeper || begins 32 w') b.blanks) w' (after b.folds (begins 32 w') 0 (rows_from m ls)))))

-- ---- and from the front on

own_row : (c : ℕ) → c - c ≡ 0
own_row c = omega arith

grows_front : (ls : List Line) (b z : Block) → b.indentation ≡ None → b.text ≡ [] → grow b ls ≡ Some z → z.text ≡ from_front b.folds b.blanks (rows_from (indentation ls) ls)
grows_front [] b z is empty e = let same : b ≡ z = cc in ap (λ (y : Block). y.text) (sym same) ∙ empty
grows_front (at c [] ∷ ls) b z is empty e = go (all_blank ls) refl (grows_front ls _ z is empty e)
  where
    go : (a : Bool) → all_blank ls ≡ a → z.text ≡ from_front b.folds (suc b.blanks) (rows_from (indentation ls) ls) → z.text ≡ from_front b.folds b.blanks (cond a [] ([] ∷ rows_from (indentation ls) ls))
    go true blank inner = inner ∙ ap (from_front b.folds (suc b.blanks)) (rows_none (indentation ls) ls blank)
    go false blank inner = inner
grows_front (at c (x ∷ w) ∷ ls) b z is empty e =
    let step = next_some (with_row b.indentation b c (x ∷ w)) (λ next. grow next ls) z e in
    let first : first_row b c (x ∷ w) ≡ step.0 = (let e' : with_row None b c (x ∷ w) ≡ Some step.0 = ap (λ (o : Option ℕ). with_row o b c (x ∷ w)) (sym is) ∙ step.1 in cc) in
    let inner = grows_after ls (first_row b c (x ∷ w)) z c refl (ap (λ (y : Block). grow y ls) first ∙ step.2) in
    let behind : List ℕ = after b.folds (eqb x 32) 0 (rows_from c ls) in
    inner ∙ (ap (λ (y : List ℕ). (y ++ (replicate b.blanks 10 ++ x ∷ w)) ++ behind) empty ∙ (append_assoc (replicate b.blanks 10) (x ∷ w) behind ∙ rw (own_row c) refl))

-- ---- the statement's text

folded_is : (rs : List (List ℕ)) (deeper : Bool) (k : ℕ) → after true deeper k rs ≡ folded_after deeper k rs
folded_is [] deeper k = refl
folded_is (r ∷ rs) deeper k = go (is_empty r) (λ d n. folded_is rs d n)
  where
    go : (a : Bool) → ((d : Bool) (n : ℕ) → after true d n rs ≡ folded_after d n rs) → cond a (after true deeper (suc k) rs) (joint (deeper || begins 32 r) k ++ (r ++ after true (begins 32 r) 0 rs)) ≡ cond a (folded_after deeper (suc k) rs) (joint (deeper || begins 32 r) k ++ (r ++ folded_after (begins 32 r) 0 rs))
    go true again = again deeper (suc k)
    go false again = ap (λ (z : List ℕ). joint (deeper || begins 32 r) k ++ (r ++ z)) (again (begins 32 r) 0)

one_more : (k : ℕ) (w : List ℕ) → replicate (suc k) 10 ++ w ≡ replicate k 10 ++ 10 ∷ w
one_more zero w = refl
one_more (suc k) w = ap (λ (z : List ℕ). 10 ∷ z) (one_more k w)

-- the row of a line that isn't blank
row_there : (m : ℕ) (l : Line) → is_blank l ≡ false → is_empty (row m l) ≡ false
row_there m (at c []) e = absurd (false≢true (sym e))
row_there m (at c (x ∷ w)) e = row_some (c - m) x w

row_blank : (m : ℕ) (l : Line) → is_blank l ≡ true → row m l ≡ []
row_blank m (at c []) e = refl
row_blank m (at c (x ∷ w)) e = absurd (false≢true e)

front_folded : (m : ℕ) (ls : List Line) (k : ℕ) → all_blank ls ≡ false → from_front true k (rows_from m ls) ≡ replicate k 10 ++ folded (rows_from m ls)
front_folded m [] k e = absurd (false≢true (sym e))
front_folded m (l ∷ ls) k e = rw e (go (is_blank l) refl (λ left. front_folded m ls (suc k) left))
  where
    go : (a : Bool) → is_blank l ≡ a → (all_blank ls ≡ false → from_front true (suc k) (rows_from m ls) ≡ replicate (suc k) 10 ++ folded (rows_from m ls)) → from_front true k (row m l ∷ rows_from m ls) ≡ replicate k 10 ++ folded (row m l ∷ rows_from m ls)
    go true blank again = rw (row_blank m l blank) (again (rw blank at e) ∙ one_more k (folded (rows_from m ls)))
    go false blank again = rw (row_there m l blank) (ap (λ (z : List ℕ). replicate k 10 ++ (row m l ++ z)) (folded_is (rows_from m ls) (begins 32 (row m l)) 0))

rows_some : (m : ℕ) (ls : List Line) → all_blank ls ≡ false → (q : List ℕ) × (qs : List (List ℕ)) × (rows_from m ls ≡ q ∷ qs)
rows_some m [] e = absurd (false≢true (sym e))
rows_some m (l ∷ ls) e = (row m l, rows_from m ls, rw e refl)

kept_more : (r : List ℕ) (m : ℕ) (ls : List Line) → all_blank ls ≡ false → kept (r ∷ rows_from m ls) ≡ r ++ 10 ∷ kept (rows_from m ls)
kept_more r m ls e = let some = rows_some m ls e in rw some.2 refl

kept_one : (r : List ℕ) (m : ℕ) (ls : List Line) → all_blank ls ≡ true → kept (r ∷ rows_from m ls) ≡ r ++ []
kept_one r m ls e = rw (rows_none m ls e) (sym (append-nil r))

abbrev AfterKept : ℕ → List Line → Type 0
AfterKept m ls = (deeper : Bool) (k : ℕ) → all_blank ls ≡ false → after false deeper k (rows_from m ls) ≡ replicate (suc k) 10 ++ kept (rows_from m ls)

row_kept : (m : ℕ) (r : List ℕ) (ls : List Line) (deeper : Bool) → AfterKept m ls → r ++ after false deeper 0 (rows_from m ls) ≡ kept (r ∷ rows_from m ls)
row_kept m r ls deeper again = go (all_blank ls) refl
  where
    go : (a : Bool) → all_blank ls ≡ a → r ++ after false deeper 0 (rows_from m ls) ≡ kept (r ∷ rows_from m ls)
    go true blank = ap (λ (z : List (List ℕ)). r ++ after false deeper 0 z) (rows_none m ls blank) ∙ sym (kept_one r m ls blank)
    go false blank = ap (λ (z : List ℕ). r ++ z) (again deeper 0 blank) ∙ sym (kept_more r m ls blank)

after_kept : (m : ℕ) (ls : List Line) → AfterKept m ls
after_kept m [] deeper k e = absurd (false≢true (sym e))
after_kept m (l ∷ ls) deeper k e = rw e (go (is_blank l) refl (after_kept m ls))
  where
    go : (a : Bool) → is_blank l ≡ a → AfterKept m ls → after false deeper k (row m l ∷ rows_from m ls) ≡ replicate (suc k) 10 ++ kept (row m l ∷ rows_from m ls)
    go true blank again = let left : all_blank ls ≡ false = (rw blank at e) in rw (row_blank m l blank) (again deeper (suc k) left ∙ (one_more (suc k) (kept (rows_from m ls)) ∙ ap (λ (z : List ℕ). replicate (suc k) 10 ++ z) (sym (kept_more [] m ls left))))
    go false blank again = rw (row_there m l blank) (ap (λ (z : List ℕ). replicate (suc k) 10 ++ z) (row_kept m (row m l) ls (begins 32 (row m l)) again))

front_kept : (m : ℕ) (ls : List Line) (k : ℕ) → all_blank ls ≡ false → from_front false k (rows_from m ls) ≡ replicate k 10 ++ kept (rows_from m ls)
front_kept m [] k e = absurd (false≢true (sym e))
front_kept m (l ∷ ls) k e = rw e (go (is_blank l) refl (λ left. front_kept m ls (suc k) left))
  where
    go : (a : Bool) → is_blank l ≡ a → (all_blank ls ≡ false → from_front false (suc k) (rows_from m ls) ≡ replicate (suc k) 10 ++ kept (rows_from m ls)) → from_front false k (row m l ∷ rows_from m ls) ≡ replicate k 10 ++ kept (row m l ∷ rows_from m ls)
    go true blank again = let left : all_blank ls ≡ false = (rw blank at e) in rw (row_blank m l blank) (again left ∙ (one_more k (kept (rows_from m ls)) ∙ ap (λ (z : List ℕ). replicate k 10 ++ z) (sym (kept_more [] m ls left))))
    go false blank again = rw (row_there m l blank) (ap (λ (z : List ℕ). replicate k 10 ++ z) (row_kept m (row m l) ls (begins 32 (row m l)) (after_kept m ls)))

front_text : (folds : Bool) (m : ℕ) (ls : List Line) → from_front folds 0 (rows_from m ls) ≡ cond folds (folded (rows_from m ls)) (kept (rows_from m ls))
front_text folds m ls = go folds (all_blank ls) refl
  where
    go : (folds a : Bool) → all_blank ls ≡ a → from_front folds 0 (rows_from m ls) ≡ cond folds (folded (rows_from m ls)) (kept (rows_from m ls))
    go true true blank = rw (rows_none m ls blank) refl
    go false true blank = rw (rows_none m ls blank) refl
    go true false blank = front_folded m ls 0 blank
    go false false blank = front_kept m ls 0 blank

-- ---- what is open

-- the block's lines, and what is kept of them
pub record Held (m : ℕ) (folds keeps : Bool) (ls : List Line) (b : Block) : Type 0 where
  pub lines : BlockLines m ls
  pub grows : grow (open_block m folds keeps) ls ≡ Some b

record Same (b z : Block) : Type 0 where
  least : z.least ≡ b.least
  folds : z.folds ≡ b.folds
  keeps : z.keeps ≡ b.keeps

same_row : (o : Option ℕ) (b z : Block) (c : ℕ) (w : List ℕ) → with_row o b c w ≡ Some z → Same b z
same_row None b z c w e = let is : first_row b c w ≡ z = cc in subst (Same b) is (record { least = refl; folds = refl; keeps = refl })
same_row (Some m) b z c w e = let fits = row_fits m c b w z e in subst (Same b) fits.1 (record { least = refl; folds = refl; keeps = refl })

same_grown : (b z : Block) (l : Line) → grown b l ≡ Some z → Same b z
same_grown b z (at c []) e = (let is : r.blank_row b ≡ z = cc in subst (Same b) is (record { least = refl; folds = refl; keeps = refl }))
same_grown b z (at c (x ∷ w)) e = same_row b.indentation b z c (x ∷ w) e

same_grow : (ls : List Line) (b z : Block) → grow b ls ≡ Some z → Same b z
same_grow [] b z e = let is : b ≡ z = cc in subst (Same b) is (record { least = refl; folds = refl; keeps = refl })
same_grow (l ∷ ls) b z e =
    let step = next_some (grown b l) (λ next. grow next ls) z e in
    let one = same_grown b step.0 l step.1 in let rest = same_grow ls step.0 z step.2 in
    record { least = rest.least ∙ one.least; folds = rest.folds ∙ one.folds; keeps = rest.keeps ∙ one.keeps }

-- the indentation, once there is one
abbrev indented : List Line → Option ℕ
indented ls = cond (all_blank ls) None (Some (indentation ls))

stays_indented : (ls : List Line) (b z : Block) (m : ℕ) → b.indentation ≡ Some m → grow b ls ≡ Some z → z.indentation ≡ Some m
stays_indented [] b z m is e = let same : b ≡ z = cc in ap (λ (y : Block). y.indentation) (sym same) ∙ is
stays_indented (at c [] ∷ ls) b z m is e = stays_indented ls _ z m is e
stays_indented (at c (x ∷ w) ∷ ls) b z m is e =
    let step = next_some (with_row b.indentation b c (x ∷ w)) (λ next. grow next ls) z e in
    let fits = row_fits m c b (x ∷ w) step.0 (ap (λ (o : Option ℕ). with_row o b c (x ∷ w)) (sym is) ∙ step.1) in
    stays_indented ls step.0 z m (ap (λ (y : Block). y.indentation) (sym fits.1)) step.2

indented_is : (ls : List Line) (b z : Block) → b.indentation ≡ None → grow b ls ≡ Some z → z.indentation ≡ indented ls
indented_is [] b z is e = let same : b ≡ z = cc in ap (λ (y : Block). y.indentation) (sym same) ∙ is
indented_is (at c [] ∷ ls) b z is e = indented_is ls _ z is e
indented_is (at c (x ∷ w) ∷ ls) b z is e =
    let step = next_some (with_row b.indentation b c (x ∷ w)) (λ next. grow next ls) z e in
    let first : first_row b c (x ∷ w) ≡ step.0 = (let e' : with_row None b c (x ∷ w) ≡ Some step.0 = ap (λ (o : Option ℕ). with_row o b c (x ∷ w)) (sym is) ∙ step.1 in cc) in
    stays_indented ls step.0 z c (ap (λ (y : Block). y.indentation) (sym first)) step.2

blank_indentation : (ls : List Line) → all_blank ls ≡ true → indentation ls ≡ 0
blank_indentation [] e = refl
blank_indentation (l ∷ ls) e = let both = and_parts (is_blank l) (all_blank ls) e in rw both.0 (blank_indentation ls both.1)

pub held_least : {m : ℕ} {folds keeps : Bool} {ls : List Line} {b : Block} → Held m folds keeps ls b → b.least ≡ m
held_least {m} {folds} {keeps} {ls} {b} q = (same_grow ls (open_block m folds keeps) b q.grows).least

-- the text of a block scalar
pub held_text : {m : ℕ} {folds keeps : Bool} {ls : List Line} {b : Block} → Held m folds keeps ls b → block_tree b ≡ tree.Text (block_text folds keeps ls)
held_text {m} {folds} {keeps} {ls} {b} q =
    let text : b.text ≡ cond folds (folded (rows_from (indentation ls) ls)) (kept (rows_from (indentation ls) ls)) = grows_front ls (open_block m folds keeps) b refl refl q.grows ∙ front_text folds (indentation ls) ls in
    ap (λ (z : Bool). tree.Text (ended z b.text)) (same_grow ls (open_block m folds keeps) b q.grows).keeps ∙ ap (λ (z : List ℕ). tree.Text (ended keeps z)) text

pub held_none : (m : ℕ) (folds keeps : Bool) → Held m folds keeps [] (open_block m folds keeps)
held_none m folds keeps = record { lines = s.none; grows = refl }

grow_append : (b : Block) (ls : List Line) (l : Line) → grow b (ls ++ l ∷ []) ≡ r.with_next (grow b ls) (λ z. grown z l)
grow_append b [] l = go (grown b l)
  where
    go : (o : Option Block) → r.with_next o (λ z. Some z) ≡ o
    go None = refl
    go (Some z) = refl
grow_append b (k ∷ ls) l = go (grown b k) (λ z. grow_append z ls l)
  where
    go : (o : Option Block) → ((z : Block) → grow z (ls ++ l ∷ []) ≡ r.with_next (grow z ls) (λ y. grown y l)) → r.with_next o (λ z. grow z (ls ++ l ∷ [])) ≡ r.with_next (r.with_next o (λ z. grow z ls)) (λ z. grown z l)
    go None again = refl
    go (Some z) again = again z

row_test : (ls : List Line) (b z : Block) (c : ℕ) (w : List ℕ) → b.indentation ≡ indented ls → with_row b.indentation b c w ≡ Some z → leb (indentation ls) c ≡ true
row_test ls b z c w is e = go (all_blank ls) refl
  where
    go : (a : Bool) → all_blank ls ≡ a → leb (indentation ls) c ≡ true
    go true blank = rw (blank_indentation ls blank) (le-leb 0 c (omega arith))
    go false blank = let at_some : b.indentation ≡ Some (indentation ls) = is ∙ rw blank refl in (row_fits (indentation ls) c b w z (ap (λ (o : Option ℕ). with_row o b c w) (sym at_some) ∙ e)).0

-- one more line of the block
pub held_more : {m : ℕ} {folds keeps : Bool} {ls : List Line} {b z : Block} → Held m folds keeps ls b → (l : Line) → IsTrue (is_inside m l) → grown b l ≡ Some z → Held m folds keeps (ls ++ l ∷ []) z
held_more {m} {folds} {keeps} {ls} {b} {z} q l inside e = record {
  lines = s.more l q.lines inside (fits l e);
  grows = grow_append (open_block m folds keeps) ls l ∙ rw q.grows e;
}
  where
    fits : (l : Line) → grown b l ≡ Some z → IsTrue (is_blank l || leb (indentation ls) (column l))
    fits (at c []) e = refl
    fits (at c (x ∷ w)) e = row_test ls b z c (x ∷ w) (indented_is ls (open_block m folds keeps) b refl q.grows) e

row_grows : (ls : List Line) (b : Block) (c : ℕ) (w : List ℕ) → b.indentation ≡ indented ls → leb (indentation ls) c ≡ true → (z : Block) × (with_row b.indentation b c w ≡ Some z)
row_grows ls b c w is fits = go (all_blank ls) refl
  where
    go : (a : Bool) → all_blank ls ≡ a → (z : Block) × (with_row b.indentation b c w ≡ Some z)
    go true blank = let none : b.indentation ≡ None = is ∙ rw blank refl in (first_row b c w, ap (λ (o : Option ℕ). with_row o b c w) none)
    go false blank = let some : b.indentation ≡ Some (indentation ls) = is ∙ rw blank refl in (next_row b (indentation ls) (spaces (c - indentation ls) ++ w), ap (λ (o : Option ℕ). with_row o b c w) some ∙ rw fits refl)

-- a line that fits is taken
pub held_grows : {m : ℕ} {folds keeps : Bool} {ls : List Line} {b : Block} → Held m folds keeps ls b → (l : Line) → IsTrue (is_blank l || leb (indentation ls) (column l)) → (z : Block) × (grown b l ≡ Some z)
held_grows {b = b} q (at c []) fits = (r.blank_row b, refl)
held_grows {m} {folds} {keeps} {ls} {b} q (at c (x ∷ w)) fits = row_grows ls b c (x ∷ w) (indented_is ls (open_block m folds keeps) b refl q.grows) fits
