-- A state holds the lines so far: they spell its tree, and each line that it takes is one line more.
use Rattle.std.proofs.Common.{◌≡◌, ℕ, zero, suc, ◌+◌, ◌*◌, ◌<◌, Bool, true, false, not, leb, ltb, eqb, IsTrue, List, [], ◌∷◌, ◌++◌, length, drop, cond, Option, Some, None, inl, inr, refl, sym, ap, subst, ◌∙◌, append_assoc, append-nil, arith}
use Rattle.std.proofs.lemmas.Bool.{cases_lt, ltb-true, eq-eqb, eqb-true, and_parts, false≢true}
use Rattle.yaml_spec.specs.declared.state.Group.{Group}
use Rattle.yaml_spec.specs.declared.state.Group.TheVariants.{Listed, Mapped}
use Rattle.yaml_spec.specs.declared.state.Frame.{Frame}
use Rattle.yaml_spec.specs.declared.state.Block.{Block}
use Rattle.yaml_spec.specs.declared.state.Leaf.{Leaf}
use Rattle.yaml_spec.specs.declared.state.Leaf.TheVariants as lf
use Rattle.yaml_spec.specs.declared.sights.Sight.{Sight}
use Rattle.yaml_spec.specs.declared.sights.Sight.TheVariants as sight
use Rattle.yaml_spec.specs.declared.sights.Got.{Got}
use Rattle.yaml_spec.specs.declared.sights.Got.TheVariants as got
use Rattle.yaml_spec.specs.declared.tree.Tree.{Tree}
use Rattle.yaml_spec.specs.declared.tree.Tree.TheVariants as tree
use Rattle.yaml_spec.specs.declared.tree.Pair.{Pair}
use Rattle.yaml_spec.specs.Line.{spaces, begins, IsTail, Head, Value, BlockHead, is_new, pair, whole}
use Rattle.yaml_spec.specs.Line as l
use Rattle.yaml_spec.specs.Spells.{Line, at, Skips, BlockLines, Ends, Inline, Node, Parts, Part, is_blank, is_skipped, is_inside, block_text, IsDocument, BeginsDocument, Root, Spells}
use Rattle.yaml_spec.specs.Spells as s
use Rattle.yaml_spec.specs.Reading as r
use Rattle.yaml_spec.specs.Machine as k
use Rattle.yaml_spec.specs.Machine.{State, Reader, frame, close, level, line_level, leaf_tree, block_tree, grown, group_of}
use Rattle.yaml_spec.proofs.Cases.{if_some, chosen}
use Rattle.yaml_spec.proofs.Quotes.{tail_true, tail_sound}
use Rattle.yaml_spec.proofs.Heads.{IsSeen, sees_sound}
use Rattle.yaml_spec.proofs.Values.{inline_sound}
use Rattle.yaml_spec.proofs.Rows.{Held, held_none, held_more, held_text, held_least}

-- ---- what is open

-- the parts before the open one
pub data Before : ℕ → Group → ℕ → List Line → List Pair → Type 0 where
  none : {n c : ℕ} {k : Group} → Before n k c [] []
  some : {n c : ℕ} {k : Group} {a : List Line} {ps : List Pair} → Parts n k c a ps → Before n k c a ps

-- a node so far, at its column and level
mutual
  pub data Open : ℕ → ℕ → ℕ → ℕ → List Line → List Frame → Leaf → Type 0 where
    value : {n m c : ℕ} {p t : List ℕ} {ls : List Line} {x : Tree} → Value n p t x → IsTail t → Skips ls → Open n m c (2 * c) (at c (p ++ t) ∷ ls) [] (lf.Done x)
    closed : {n m c : ℕ} {p t : List ℕ} {b ls : List Line} {l : Line} {folds keeps : Bool} → BlockHead p folds keeps → IsTail t → BlockLines m b → Skips (l ∷ ls) → IsTrue (not (is_inside m l)) → Open n m c (2 * c) (at c (p ++ t) ∷ (b ++ l ∷ ls)) [] (lf.Done (tree.Text (block_text folds keeps b)))
    block : {n m c : ℕ} {p t : List ℕ} {b : List Line} {folds keeps : Bool} {o : Block} → BlockHead p folds keeps → IsTail t → Held m folds keeps b o → Open n m c (2 * c) (at c (p ++ t) ∷ b) [] (lf.Block o)
    group : {n m c : ℕ} {k : Group} {a b : List Line} {ps : List Pair} {key : List ℕ} {fs : List Frame} {leaf : Leaf} → Before n k c a ps → OpenPart n k c b key fs leaf → IsTrue (is_new k key ps) → Open (suc n) m c (level k c) (a ++ b) (frame k c ps key ∷ fs) leaf

  pub data OpenPart : ℕ → Group → ℕ → List Line → List ℕ → List Frame → Leaf → Type 0 where
    here : {n c d lv : ℕ} (i : ℕ) {k : Group} {p v key : List ℕ} {ls : List Line} {leaf : Leaf} → Head k p key → Open n (suc c) d lv (at d v ∷ ls) [] leaf → OpenPart n k c (at c (p ++ (spaces (suc i) ++ v)) ∷ ls) key [] leaf
    within : {n c d lv : ℕ} (i : ℕ) {v : List ℕ} {ls : List Line} {fs : List Frame} {leaf : Leaf} → d ≡ c + i + 2 → Open n (suc c) d lv (at d v ∷ ls) fs leaf → OpenPart n Listed c (at c (45 ∷ spaces (suc i) ++ v) ∷ ls) [] fs leaf
    below : {n c d lv : ℕ} {k : Group} {p t key : List ℕ} {a b : List Line} {fs : List Frame} {leaf : Leaf} → Head k p key → IsTail t → Skips a → level k c < lv → Open n (suc c) d lv b fs leaf → OpenPart n k c (at c (p ++ t) ∷ a ++ b) key fs leaf
    null : {n c : ℕ} {k : Group} {p t key : List ℕ} {ls : List Line} → Head k p key → IsTail t → Skips ls → OpenPart n k c (at c (p ++ t) ∷ ls) key [] lf.Hole

-- ---- what is open may end here

pub data Ended : ℕ → ℕ → ℕ → ℕ → List Line → Tree → Type 0 where
  inline : {n m c : ℕ} {v : List ℕ} {ls : List Line} {x : Tree} → Inline n m v ls x → Ended n m c (2 * c) (at c v ∷ ls) x
  group : {n m c : ℕ} {k : Group} {ls : List Line} {ps : List Pair} → Parts n k c ls ps → Ended (suc n) m c (level k c) ls (whole k ps)

pub ended_node : {n m c lv : ℕ} {ls : List Line} {x : Tree} → Ended n m c lv ls x → Node n m c ls x
ended_node (inline q) = s.inline q
ended_node (group q) = s.group q

parts_more : {n c : ℕ} {k : Group} {a b : List Line} {ps : List Pair} {p : Pair} → Before n k c a ps → Part n k c b p → IsTrue (is_new k p.key ps) → Parts n k c (a ++ b) (ps ++ p ∷ [])
parts_more none q fresh = s.one q
parts_more (some before) q fresh = s.more before q fresh

inline_at : {n m c : ℕ} {w : List ℕ} {ls' : List Line} {x : Tree} → Inline n m w ls' x → (v : List ℕ) (ls : List Line) → at c w ∷ ls' ≡ at c v ∷ ls → Inline n m v ls x
inline_at {n} {m} {c} {w} {ls'} {x} q v ls e =
    let one : w ≡ v = cc in let two : ls' ≡ ls = cc in
    subst (λ (z : List ℕ). Inline n m z ls x) one (subst (λ (z : List Line). Inline n m w z x) two q)

block_now : {n m : ℕ} {p t : List ℕ} {b : List Line} {folds keeps : Bool} {o : Block} → BlockHead p folds keeps → IsTail t → Held m folds keeps b o → Inline n m (p ++ t) b (block_tree o)
block_now {n} {m} {p} {t} {b} {folds} {keeps} h q held =
    subst (λ (z : Tree). Inline n m (p ++ t) b z) (sym (held_text held)) (subst (λ (z : List Line). Inline n m (p ++ t) z (tree.Text (block_text folds keeps b))) (append-nil b) (s.block h q held.lines s.none s.none))

inline_ended : {n m d lv : ℕ} {ls' : List Line} {leaf : Leaf} → Open n m d lv ls' [] leaf → (v : List ℕ) (ls : List Line) → ls' ≡ at d v ∷ ls → Inline n m v ls (leaf_tree leaf)
inline_ended (value q t skips) v ls e = inline_at (s.value q t skips) v ls e
inline_ended (closed h t k skips out) v ls e = inline_at (s.block h t k skips (s.next out)) v ls e
inline_ended (block h t k) v ls e = inline_at (block_now h t k) v ls e

within_ended : {n c d lv : ℕ} {ls' : List Line} {x : Tree} → Ended n (suc c) d lv ls' x → (i : ℕ) → d ≡ c + i + 2 → (v : List ℕ) (ls : List Line) → ls' ≡ at d v ∷ ls → Part n Listed c (at c (45 ∷ spaces (suc i) ++ v) ∷ ls) (pair [] x)
within_ended {c = c} (inline {n = n} {v = w} {ls = ls'} {x = x} q) i at_is v ls e =
    let one : w ≡ v = cc in let two : ls' ≡ ls = cc in
    s.here i l.dash (subst (λ (z : List ℕ). Inline n (suc c) z ls x) one (subst (λ (z : List Line). Inline n (suc c) w z x) two q))
within_ended {c = c} {d = d} (group {n = n} {k = k} {ls = ls'} {ps = ps} q) i at_is v ls e =
    s.within i (subst (λ (z : ℕ). Parts n k z (at z v ∷ ls) ps) at_is (subst (λ (z : List Line). Parts n k d z ps) e q))

below_ended : {n c d lv : ℕ} {k : Group} {p t key : List ℕ} {a b : List Line} {x : Tree} → Head k p key → IsTail t → Skips a → level k c < lv → Ended n (suc c) d lv b x → Part n k c (at c (p ++ t) ∷ a ++ b) (pair key x)
below_ended {k = Mapped} head t a lt (inline q) = s.below head t a (omega arith) (s.inline q)
below_ended {k = Listed} head t a lt (inline q) = s.below head t a (omega arith) (s.inline q)
below_ended {k = Listed} head t a lt (group {k = Listed} q) = s.below head t a (omega arith) (s.group q)
below_ended {k = Listed} head t a lt (group {k = Mapped} q) = s.below head t a (omega arith) (s.group q)
below_ended {k = Mapped} head t a lt (group {k = Mapped} q) = s.below head t a (omega arith) (s.group q)
below_ended {c = c} {d = d} {k = Mapped} head t a lt (group {n = n} {k = Listed} {ls = b} {ps = ps} q) = elim (cases_lt c d) [
  | inl deeper ↦ s.below head t a deeper (s.group q)
  | inr not_deeper ↦ (let same : d ≡ c = omega arith in s.level head t a (subst (λ (z : ℕ). Parts n Listed z b ps) same q))
]

mutual
  pub open_ended : {n m c lv : ℕ} {ls : List Line} {fs : List Frame} {leaf : Leaf} → Open n m c lv ls fs leaf → Ended n m c lv ls (close fs leaf)
  open_ended (value q t skips) = inline (s.value q t skips)
  open_ended (closed h t k skips out) = inline (s.block h t k skips (s.next out))
  open_ended (block h t k) = inline (block_now h t k)
  open_ended (group before q fresh) = group (parts_more before (part_ended q) fresh)

  part_ended : {n c : ℕ} {k : Group} {ls : List Line} {key : List ℕ} {fs : List Frame} {leaf : Leaf} → OpenPart n k c ls key fs leaf → Part n k c ls (pair key (close fs leaf))
  part_ended (here {n} {c} {d} {lv} i {k} {p} {v} {key} {ls} {leaf} head q) = s.here i head (inline_ended q v ls refl)
  part_ended (within {n} {c} {d} {lv} i {v} {ls} at_is q) = within_ended (open_ended q) i at_is v ls refl
  part_ended (below head t a lt q) = below_ended head t a lt (open_ended q)
  part_ended (null head t q) = s.null head t q

-- ---- lines that a state takes without a new part

skips_grow : {ls us : List Line} → Skips ls → Skips us → Skips (ls ++ us)
skips_grow {ls} a s.none = subst Skips (sym (append-nil ls)) a
skips_grow {ls} a (s.more {ls = us} l b is) = subst Skips (append_assoc ls us (l ∷ [])) (s.more l (skips_grow a b) is)

abbrev Grows : Leaf → Leaf → List Line → Type 0
Grows leaf leaf' us = (n m c lv : ℕ) (ls : List Line) → Open n m c lv ls [] leaf → Open n m c lv (ls ++ us) [] leaf'

-- a change at the innermost place
mutual
  open_grows : (leaf leaf' : Leaf) (us : List Line) → Grows leaf leaf' us
      → (leaf ≡ lf.Hole → Skips us × (lf.Hole ≡ leaf')) → {n m c lv : ℕ} {ls : List Line} {fs : List Frame} → Open n m c lv ls fs leaf → Open n m c lv (ls ++ us) fs leaf'
  open_grows leaf leaf' us whole_grows hole_grows {n} {m} {c} {lv} {ls} {fs = []} q = whole_grows n m c lv ls q
  open_grows leaf leaf' us whole_grows hole_grows {fs = f ∷ fs} (group {n} {m} {c} {k} {a} {b} {ps} {key} before q fresh) =
      subst (λ (z : List Line). Open (suc n) m c (level k c) z (frame k c ps key ∷ fs) leaf') (sym (append_assoc a b us)) (group before (part_grows leaf leaf' us whole_grows hole_grows q) fresh)

  part_grows : (leaf leaf' : Leaf) (us : List Line) → Grows leaf leaf' us
      → (leaf ≡ lf.Hole → Skips us × (lf.Hole ≡ leaf')) → {n c : ℕ} {k : Group} {ls : List Line} {key : List ℕ} {fs : List Frame} → OpenPart n k c ls key fs leaf → OpenPart n k c (ls ++ us) key fs leaf'
  part_grows leaf leaf' us whole_grows hole_grows (here {n} {c} {d} {lv} i {k} {p} {v} {key} {ls} head q) = here i head (whole_grows n (suc c) d lv (at d v ∷ ls) q)
  part_grows leaf leaf' us whole_grows hole_grows (within i at_is q) = within i at_is (open_grows leaf leaf' us whole_grows hole_grows q)
  part_grows leaf leaf' us whole_grows hole_grows {fs = fs} (below {n} {c} {d} {lv} {k} {p} {t} {key} {a} {b} head tail skips lt q) =
      subst (λ (z : List Line). OpenPart n k c (at c (p ++ t) ∷ z) key fs leaf') (sym (append_assoc a b us)) (below head tail skips lt (open_grows leaf leaf' us whole_grows hole_grows q))
  part_grows leaf leaf' us whole_grows hole_grows (null {n} {c} {k} {p} {t} {key} {ls} head tail skips) =
      let grown = hole_grows refl in
      subst (λ (z : Leaf). OpenPart n k c (at c (p ++ t) ∷ (ls ++ us)) key [] z) grown.1 (null head tail (skips_grow skips grown.0))

least_inside : {m : ℕ} {folds keeps : Bool} {ls : List Line} {o : Block} → Held m folds keeps ls o → (l : Line) → is_inside o.least l ≡ is_inside m l
least_inside held l = ap (λ (z : ℕ). is_inside z l) (held_least held)

-- a line of the block scalar
row_grows : {o z : Block} (l : Line) → is_inside o.least l ≡ true → grown o l ≡ Some z → Grows (lf.Block o) (lf.Block z) (l ∷ [])
row_grows l is e n m c lv ls (block h t k) = block h t (held_more k l (sym (least_inside k l) ∙ is) e)

out_true : (b : Bool) → b ≡ false → IsTrue (not b)
out_true true e = absurd cc
out_true false e = refl

-- a skipped line behind it
shut_grows : {o : Block} (l : Line) → is_inside o.least l ≡ false → IsTrue (is_skipped l) → Grows (lf.Block o) (lf.Done (block_tree o)) (l ∷ [])
shut_grows {o} l out is n m c lv ls (block {p = p} {t = t} {b = b} h tail k) =
    subst (λ (z : Tree). Open n m c (2 * c) (at c (p ++ t) ∷ (b ++ l ∷ [])) [] (lf.Done z)) (sym (held_text k)) (closed h tail k.lines (s.more {ls = []} l s.none is) (out_true (is_inside m l) (sym (least_inside k l) ∙ out)))

-- and behind anything else
done_grows : {x : Tree} (l : Line) → IsTrue (is_skipped l) → Grows (lf.Done x) (lf.Done x) (l ∷ [])
done_grows l is n m c lv ls' (value v t skips) = value v t (s.more l skips is)
done_grows u is n m c lv ls' (closed {p = p} {t = t} {b = b} {ls = ls} {l = l} {folds = folds} {keeps = keeps} h tail k skips out) =
    subst (λ (z : List Line). Open n m c (2 * c) (at c (p ++ t) ∷ z) [] (lf.Done (tree.Text (block_text folds keeps b)))) (sym (append_assoc b (l ∷ ls) (u ∷ []))) (closed h tail k (s.more {ls = l ∷ ls} u skips is) out)

-- ---- a new part

inlined_open : (n m c : ℕ) (v : List ℕ) (o : Option Got) → r.inline n v ≡ o → (st : State) → k.inlined m o ≡ Some st → Open n m c (2 * c) (at c v ∷ []) st.0 st.1 × (st.0 ≡ [])
inlined_open n m c v None e st is = absurd cc
inlined_open n m c v (Some (got.Value x)) e st is =
    let there = inline_sound n v (got.Value x) e in let same : ([], lf.Done x) ≡ st = cc in
    subst (λ (z : State). Open n m c (2 * c) (at c v ∷ []) z.0 z.1 × (z.0 ≡ [])) same (subst (λ (z : List ℕ). Open n m c (2 * c) (at c z ∷ []) [] (lf.Done x)) (sym there.2) (value there.3 there.4 s.none), refl)
inlined_open n m c v (Some (got.Head folds keeps)) e st is =
    let there = inline_sound n v (got.Head folds keeps) e in let same : ([], lf.Block (k.open_block m folds keeps)) ≡ st = cc in
    subst (λ (z : State). Open n m c (2 * c) (at c v ∷ []) z.0 z.1 × (z.0 ≡ [])) same (subst (λ (z : List ℕ). Open n m c (2 * c) (at c z ∷ []) [] (lf.Block (k.open_block m folds keeps))) (sym there.2) (block there.3 there.4 (held_none m folds keeps)), refl)

-- the group and key of a mark
abbrev HasHead : Group → List ℕ → Sight → Type 0
HasHead k key (sight.Bare j key') = (j ≡ k) × (key' ≡ key)
HasHead k key (sight.Before j key' n) = (j ≡ k) × (key' ≡ key)
HasHead k key sight.Other = ⊥

dash_is : {m key : List ℕ} → Head Listed m key → (m ≡ 45 ∷ []) × (key ≡ [])
dash_is l.dash = (refl, refl)

abbrev Begins : ℕ → (ℕ → ℕ → List ℕ → Option State) → Type 0
Begins n again = (m c : ℕ) (v : List ℕ) (st : State) → again m c v ≡ Some st → Open n m c (line_level c v) (at c v ∷ []) st.0 st.1

inside_open : (n : ℕ) (again : ℕ → ℕ → List ℕ → Option State) → Begins n again → (c : ℕ) (v : List ℕ) (seen : Sight) → IsSeen v seen → (j : Group) (key : List ℕ) → HasHead j key seen → (st : State) → k.inside n again c v seen ≡ Some st → OpenPart n j c (at c v ∷ []) key st.0 st.1
inside_open n again below_is c v (sight.Bare i key') seen j key is st e =
    let same : ([], lf.Hole) ≡ st = cc in
    subst (λ (z : State). OpenPart n j c (at c v ∷ []) key z.0 z.1) same (subst (λ (z : List ℕ). OpenPart n j c (at c z ∷ []) key [] lf.Hole) (sym seen.2)
    (subst (λ (z : Group). OpenPart n z c (at c (seen.0 ++ seen.1) ∷ []) key [] lf.Hole) is.0 (subst (λ (z : List ℕ). OpenPart n i c (at c (seen.0 ++ seen.1) ∷ []) z [] lf.Hole) is.1 (null seen.3 seen.4 s.none))))
inside_open n again below_is c v (sight.Before Mapped key' count) seen j key is st e =
    let w = seen.2 in
    let e' : k.inlined (suc c) (r.inline n w) ≡ Some st = ap (λ (z : List ℕ). k.inlined (suc c) (r.inline n z)) (sym seen.6) ∙ e in
    let there = inlined_open n (suc c) c w (r.inline n w) refl st e' in
    let part : OpenPart n Mapped c (at c (seen.0 ++ (spaces (suc seen.1) ++ w)) ∷ []) key' [] st.1 = here seen.1 seen.4 (subst (λ (z : List Frame). Open n (suc c) c (2 * c) (at c w ∷ []) z st.1) there.1 there.0) in
    subst (λ (z : List Frame). OpenPart n j c (at c v ∷ []) key z st.1) (sym there.1) (subst (λ (z : List ℕ). OpenPart n j c (at c z ∷ []) key [] st.1) (sym seen.3)
    (subst (λ (z : Group). OpenPart n z c (at c (seen.0 ++ (spaces (suc seen.1) ++ w)) ∷ []) key [] st.1) is.0 (subst (λ (z : List ℕ). OpenPart n Mapped c (at c (seen.0 ++ (spaces (suc seen.1) ++ w)) ∷ []) z [] st.1) is.1 part)))
inside_open n again below_is c v (sight.Before Listed key' count) seen j key is st e =
    let w = seen.2 in
    let dash = dash_is seen.4 in
    let at_is : c + count ≡ c + seen.1 + 2 = omega (arith, seen.5, ap length dash.0) in
    let begun = below_is (suc c) (c + count) (drop count v) st e in
    let lines : at (c + count) (drop count v) ∷ [] ≡ at (c + count) w ∷ [] = ap (λ (z : List ℕ). at (c + count) z ∷ []) seen.6 in
    let part : OpenPart n Listed c (at c (45 ∷ spaces (suc seen.1) ++ w) ∷ []) [] st.0 st.1 = within {d = c + count} seen.1 at_is (subst (λ (z : List Line). Open n (suc c) (c + count) (line_level (c + count) (drop count v)) z st.0 st.1) lines begun) in
    let text : 45 ∷ spaces (suc seen.1) ++ w ≡ v = sym (seen.3 ∙ ap (λ (z : List ℕ). z ++ (spaces (suc seen.1) ++ w)) dash.0) in
    subst (λ (z : List ℕ). OpenPart n j c (at c z ∷ []) key st.0 st.1) text
    (subst (λ (z : Group). OpenPart n z c (at c (45 ∷ spaces (suc seen.1) ++ w) ∷ []) key st.0 st.1) is.0 (subst (λ (z : List ℕ). OpenPart n Listed c (at c (45 ∷ spaces (suc seen.1) ++ w) ∷ []) z st.0 st.1) (sym dash.1 ∙ is.1) part))
inside_open n again below_is c v sight.Other seen j key is st e = absurd is

below_some : (f : Frame) (o : Option State) (st : State) → k.below f o ≡ Some st → (inner : State) × (o ≡ Some inner) × ((f ∷ inner.0, inner.1) ≡ st)
below_some f None st e = absurd cc
below_some f (Some inner) st e = (inner, refl, cc)

opens_open : (n m : ℕ) (again : ℕ → ℕ → List ℕ → Option State) → Begins n again → (c : ℕ) (v : List ℕ) (seen : Sight) → IsSeen v seen → (j : Group) (key : List ℕ) → HasHead j key seen → (a : List Line) (ps : List Pair) → Before n j c a ps
    → (st : State) → k.opens (k.inside n again c v) j key c ps seen ≡ Some st → Open (suc n) m c (level j c) (a ++ at c v ∷ []) st.0 st.1
opens_open n m again below_is c v seen is_seen j key is a ps before st e =
    let fresh = if_some (is_new j key ps) (k.below (frame j c ps key) (k.inside n again c v seen)) e in
    let inner = below_some (frame j c ps key) (k.inside n again c v seen) st fresh.1 in
    subst (λ (z : State). Open (suc n) m c (level j c) (a ++ at c v ∷ []) z.0 z.1) inner.2 (group before (inside_open n again below_is c v seen is_seen j key is inner.0 inner.1) fresh.0)

starts_open : (n m : ℕ) (again : ℕ → ℕ → List ℕ → Option State) → Begins n again → (c : ℕ) (v : List ℕ) (seen : Sight) → IsSeen v seen → (st : State) → k.starts (k.inside n again c v) (k.inlined m (r.inline (suc n) v)) c seen ≡ Some st → Open (suc n) m c (level (group_of seen) c) (at c v ∷ []) st.0 st.1
starts_open n m again below_is c v (sight.Bare j key) is st e = opens_open n m again below_is c v (sight.Bare j key) is j key (refl, refl) [] [] none st e
starts_open n m again below_is c v (sight.Before j key i) is st e = opens_open n m again below_is c v (sight.Before j key i) is j key (refl, refl) [] [] none st e
starts_open n m again below_is c v sight.Other is st e = (inlined_open (suc n) m c v (r.inline (suc n) v) refl st e).0

starts_none : (m c : ℕ) (v : List ℕ) (seen : Sight) → (st : State) → k.starts (λ _. None) (k.inlined m (r.inline 0 v)) c seen ≡ Some st → Open 0 m c (level (group_of seen) c) (at c v ∷ []) st.0 st.1
starts_none m c v (sight.Bare j key) st e = let fresh = if_some (is_new j key []) None e in absurd cc
starts_none m c v (sight.Before j key i) st e = let fresh = if_some (is_new j key []) None e in absurd cc
starts_none m c v sight.Other st e = (inlined_open 0 m c v (r.inline 0 v) refl st e).0

pub begin_open : (n : ℕ) → Begins n (k.begin n)
unfolding k.begin
begin_open zero m c v st e = starts_none m c v (r.sees v) st e
begin_open (suc n) m c v st e = starts_open n m (k.begin n) (begin_open n) c v (r.sees v) (sees_sound v) st e

stuck : {n m c lv : ℕ} {ls : List Line} {leaf : Leaf} → Open n m c lv ls [] leaf → (n' m' low d : ℕ) (v : List ℕ) (st : State) → k.add n' m' low [] leaf d v ≡ Some st → ⊥
unfolding k.add
stuck (value q t skips) n' m' low d v st e = absurd cc
stuck (closed h t k skips out) n' m' low d v st e = absurd cc
stuck (block h t k) n' m' low d v st e = absurd cc

level_same : (i j : Group) (c d : ℕ) → level i c ≡ level j d → (i ≡ j) × (c ≡ d)
level_same Listed Listed c d e = (refl, omega arith)
level_same Mapped Mapped c d e = (refl, omega arith)
level_same Listed Mapped c d e = absurd (omega arith)
level_same Mapped Listed c d e = absurd (omega arith)

next_open : (n m : ℕ) (j : Group) (c d : ℕ) (v : List ℕ) (seen : Sight) → IsSeen v seen → level j c ≡ level (group_of seen) d → (a : List Line) (ps : List Pair) (key : List ℕ) (x : Tree) → Parts n j c a (ps ++ pair key x ∷ [])
    → (st : State) → k.next (k.inside n (k.begin n) c v) (frame j c ps key) x seen ≡ Some st → Open (suc n) m c (level j c) (a ++ at d v ∷ []) st.0 st.1
next_open n m j c d v (sight.Bare i key') is same a ps key x parts st e =
    let both = level_same j i c d same in
    let e' = subst (λ (z : Group). k.opens (k.inside n (k.begin n) c v) z key' c (ps ++ pair key x ∷ []) (sight.Bare i key') ≡ Some st) (sym both.0) e in
    subst (λ (z : ℕ). Open (suc n) m c (level j c) (a ++ at z v ∷ []) st.0 st.1) both.1
    (opens_open n m (k.begin n) (begin_open n) c v (sight.Bare i key') is j key' (sym both.0, refl) a (ps ++ pair key x ∷ []) (some parts) st e')
next_open n m j c d v (sight.Before i key' count) is same a ps key x parts st e =
    let both = level_same j i c d same in
    let e' = subst (λ (z : Group). k.opens (k.inside n (k.begin n) c v) z key' c (ps ++ pair key x ∷ []) (sight.Before i key' count) ≡ Some st) (sym both.0) e in
    subst (λ (z : ℕ). Open (suc n) m c (level j c) (a ++ at z v ∷ []) st.0 st.1) both.1
    (opens_open n m (k.begin n) (begin_open n) c v (sight.Before i key' count) is j key' (sym both.0, refl) a (ps ++ pair key x ∷ []) (some parts) st e')
next_open n m j c d v sight.Other is same a ps key x parts st e = absurd cc

mutual
  unfolding k.add

  add_open : {n m c lv : ℕ} {ls : List Line} {fs : List Frame} {leaf : Leaf} → Open n m c lv ls fs leaf → (low d : ℕ) (v : List ℕ) (st : State) → k.add n m low fs leaf d v ≡ Some st → Open n m c lv (ls ++ at d v ∷ []) st.0 st.1
  add_open (value q t skips) low d v st e = absurd cc
  add_open (closed h t k skips out) low d v st e = absurd cc
  add_open (block h t k) low d v st e = absurd cc
  add_open (group {n} {m} {c} {k = j} {a} {b} {ps} {key} {fs} {leaf} before q fresh) low d v st e = elim (chosen (ltb (level j c) (line_level d v)) _ _ e) [
    | inl p ↦ (let inner = below_some (frame j c ps key) (k.add n (suc c) (suc (level j c)) fs leaf d v) st p.1 in
        subst (λ (z : List Line). Open (suc n) m c (level j c) z st.0 st.1) (sym (append_assoc a b (at d v ∷ [])))
        (subst (λ (z : State). Open (suc n) m c (level j c) (a ++ (b ++ at d v ∷ [])) z.0 z.1) inner.2 (group before (part_add q (suc (level j c)) d v (ltb-true _ _ p.0) inner.0 inner.1) fresh)))
    | inr p ↦ (let there = if_some (eqb (level j c) (line_level d v)) _ p.1 in
        next_open n m j c d v (r.sees v) (sees_sound v) (eqb-true _ _ there.0) (a ++ b) ps key (close fs leaf) (parts_more before (part_ended q) fresh) st there.1)
  ]

  part_add : {n c : ℕ} {j : Group} {ls : List Line} {key : List ℕ} {fs : List Frame} {leaf : Leaf} → OpenPart n j c ls key fs leaf → (low d : ℕ) (v : List ℕ) → level j c < line_level d v → (st : State) → k.add n (suc c) low fs leaf d v ≡ Some st → OpenPart n j c (ls ++ at d v ∷ []) key st.0 st.1
  part_add (here i head q) low d v lt st e = absurd (stuck q _ _ low d v st e)
  part_add (within i at_is q) low d v lt st e = within i at_is (add_open q low d v st e)
  part_add (below {n} {c} {d = d'} {k = j} {p} {t} {key} {a} {b} head tail skips deeper q) low d v lt st e =
      subst (λ (z : List Line). OpenPart n j c (at c (p ++ t) ∷ z) key st.0 st.1) (sym (append_assoc a b (at d v ∷ []))) (below head tail skips deeper (add_open q low d v st e))
  part_add (null {n} {c} head tail skips) low d v lt st e =
      let there = if_some (leb low (line_level d v)) (k.begin n (suc c) d v) e in
      below head tail skips lt (begin_open n (suc c) d v st there.1)

pub no_hole : {n m c lv : ℕ} {ls : List Line} → Open n m c lv ls [] lf.Hole → ⊥
no_hole q = elim q [ ]

-- the same block scalar, shut
mutual
  shut_open : {o : Block} {n m c lv : ℕ} {ls : List Line} {fs : List Frame} (u : Line) → is_inside o.least u ≡ false → IsTrue (is_skipped u) → Open n m c lv ls fs (lf.Block o) → Open n m c lv (ls ++ u ∷ []) fs (lf.Done (block_tree o))
  shut_open {o} u out is q = open_grows (lf.Block o) (lf.Done (block_tree o)) (u ∷ []) (shut_grows u out is) (λ h. absurd cc) q

-- what is shut takes lines as what is open does
add_shut : (n m low : ℕ) (fs : List Frame) (o : Block) (d : ℕ) (v : List ℕ) → k.add n m low fs (lf.Done (block_tree o)) d v ≡ k.add n m low fs (lf.Block o) d v
unfolding k.add
add_shut n m low [] o d v = refl
add_shut zero m low (f ∷ fs) o d v = refl
add_shut (suc n) m low (f ∷ fs) o d v =
    let inner = add_shut n (suc f.column) (suc (level f.group f.column)) fs o d v in
    let closed = close_shut fs o in rw (inner, closed) refl
  where
    close_shut : (fs : List Frame) (o : Block) → close fs (lf.Done (block_tree o)) ≡ close fs (lf.Block o)
    close_shut [] o = refl
    close_shut (f ∷ fs) o = ap (λ (z : Tree). whole f.group (f.parts ++ pair f.key z ∷ [])) (close_shut fs o)

unless_open : {n m c lv : ℕ} (ls : List Line) {fs : List Frame} (low : ℕ) (shut : Leaf) (l : Line) → (IsTrue (is_skipped l) → Open n m c lv (ls ++ l ∷ []) fs shut) → ((d : ℕ) (v : List ℕ) (st : State) → k.add n m low fs shut d v ≡ Some st → Open n m c lv (ls ++ at d v ∷ []) st.0 st.1)
    → (st : State) → k.unless_skipped n m low fs shut l ≡ Some st → Open n m c lv (ls ++ l ∷ []) st.0 st.1
unless_open {n} {m} {c} {lv} ls {fs} low shut (at d v) skips adds st e = elim (chosen (is_skipped (at d v)) _ _ e) [
  | inl p ↦ (let same : (fs, shut) ≡ st = (let e' = p.1 in cc) in subst (λ (z : State). Open n m c lv (ls ++ at d v ∷ []) z.0 z.1) same (skips p.0))
  | inr p ↦ adds d v st p.1
]

block_some : (fs : List Frame) (o : Option Block) (st : State) → k.with_block fs o ≡ Some st → (b : Block) × (o ≡ Some b) × ((fs, lf.Block b) ≡ st)
block_some fs None st e = absurd cc
block_some fs (Some b) st e = (b, refl, cc)

pub advance_open : {n m c lv : ℕ} {ls : List Line} {fs : List Frame} {leaf : Leaf} → Open n m c lv ls fs leaf → (low : ℕ) (l : Line) (st : State) → k.advance n m low fs leaf l ≡ Some st → Open n m c lv (ls ++ l ∷ []) st.0 st.1
unfolding k.advance
advance_open {ls = ls} {leaf = lf.Hole} q low l st e = unless_open ls low lf.Hole l (λ is. open_grows lf.Hole lf.Hole (l ∷ []) (λ n m c lv ls h. absurd (no_hole h)) (λ _. (s.more {ls = []} l s.none is, refl)) q) (λ d v st e. add_open q low d v st e) st e
advance_open {ls = ls} {leaf = lf.Done x} q low l st e = unless_open ls low (lf.Done x) l (λ is. open_grows (lf.Done x) (lf.Done x) (l ∷ []) (done_grows l is) (λ h. absurd cc) q) (λ d v st e. add_open q low d v st e) st e
advance_open {n} {m} {c} {lv} {ls} {fs} {leaf = lf.Block o} q low l st e = elim (chosen (is_inside o.least l) _ _ e) [
  | inl p ↦ (let there = block_some fs (grown o l) st p.1 in
      subst (λ (z : State). Open n m c lv (ls ++ l ∷ []) z.0 z.1) there.2 (open_grows (lf.Block o) (lf.Block there.0) (l ∷ []) (row_grows l p.0 there.1) (λ h. absurd cc) q))
  | inr p ↦ unless_open ls low (lf.Done (block_tree o)) l (λ is. shut_open l p.0 is q) (λ d v st e. add_open q low d v st (sym (add_shut n m low fs o d v) ∙ e)) st p.1
]

-- ---- all lines

document_parts : (a : ℕ) (l : Line) → k.is_document a l ≡ true → IsDocument a l
document_parts a (at c []) e = absurd (false≢true e)
document_parts a (at c (b ∷ [])) e = absurd (false≢true e)
document_parts a (at c (b ∷ d ∷ [])) e = absurd (false≢true e)
document_parts a (at c (b ∷ d ∷ f ∷ t)) e =
    let one = and_parts (eqb c 0) _ e in let two = and_parts (eqb b a) _ one.1 in let three = and_parts (eqb d a) _ two.1 in let four = and_parts (eqb f a) (r.is_tail t) three.1 in
    subst (λ (z : ℕ). IsDocument a (at z (b ∷ d ∷ f ∷ t))) (sym (eqb-true c 0 one.0)) (subst (λ (z : ℕ). IsDocument a (at 0 (z ∷ d ∷ f ∷ t))) (sym (eqb-true b a two.0)) (subst (λ (z : ℕ). IsDocument a (at 0 (a ∷ z ∷ f ∷ t))) (sym (eqb-true d a three.0))
    (subst (λ (z : ℕ). IsDocument a (at 0 (a ∷ a ∷ z ∷ t))) (sym (eqb-true f a four.0)) (s.document (tail_sound t four.1)))))

pub document_sound : (a : ℕ) (l : Line) → k.is_document a l ≡ true → IsDocument a l
document_sound a l e = document_parts a l e

pub document_true : {a : ℕ} {l : Line} → IsDocument a l → k.is_document a l ≡ true
document_true (s.document {a} q) = let same = eq-eqb a a refl in rw (same, tail_true q) refl

pub document_false : (a : ℕ) (l : Line) → k.is_document a l ≡ false → IsDocument a l → ⊥
document_false a l e q = false≢true (sym e ∙ document_true q)

-- behind a start line or without one
pub data Rooted : Bool → List Line → List Frame → Leaf → Type 0 where
  none : {ls : List Line} → Skips ls → Rooted false ls [] lf.Hole
  started : {a b : List Line} {l : Line} → Skips a → IsDocument 45 l → Skips b → Rooted true (a ++ l ∷ b) [] lf.Hole
  some : {lv : ℕ} {a b : List Line} {fs : List Frame} {leaf : Leaf} → Skips a → Open 32 0 0 lv b fs leaf → (BeginsDocument b → ⊥) → Rooted false (a ++ b) fs leaf
  behind : {lv : ℕ} {a b d : List Line} {l : Line} {fs : List Frame} {leaf : Leaf} → Skips a → IsDocument 45 l → Skips d → Open 32 0 0 lv b fs leaf → (BeginsDocument b → ⊥) → Rooted true (a ++ l ∷ (d ++ b)) fs leaf

pub rooted_spells : {start : Bool} {ls : List Line} {fs : List Frame} {leaf : Leaf} → Rooted start ls fs leaf → Spells ls (close fs leaf)
rooted_spells (none skips) = s.no_start (s.nothing skips)
rooted_spells (started skips is others) = s.start skips is (s.nothing others)
rooted_spells (some skips q fresh) = s.no_start (s.node skips (ended_node (open_ended q)) fresh)
rooted_spells (behind skips is others q fresh) = s.start skips is (s.node others (ended_node (open_ended q)) fresh)

start_some : (begun : Bool) (o : Option State) (st : Reader) → k.with_start begun o ≡ Some st → (inner : State) × (o ≡ Some inner) × ((begun, inner) ≡ st)
start_some begun None st e = absurd cc
start_some begun (Some inner) st e = (inner, refl, cc)

no_document : (l : Line) → k.is_document 45 l ≡ false → k.is_document 46 l ≡ false → BeginsDocument (l ∷ []) → ⊥
no_document l no_start no_end (inl q) = document_false 45 l no_start q
no_document l no_start no_end (inr q) = document_false 46 l no_end q

-- what a first line does
pub data FirstDone (start : Bool) (l : Line) (st : Reader) : Type 0 where
  skipped : IsTrue (is_skipped l) → (start, ([], lf.Hole)) ≡ st → FirstDone start l st
  opens : start ≡ false → IsDocument 45 l → (true, ([], lf.Hole)) ≡ st → FirstDone start l st
  begins_node : {lv : ℕ} {fs : List Frame} {leaf : Leaf} → Open 32 0 0 lv (l ∷ []) fs leaf → (BeginsDocument (l ∷ []) → ⊥) → (start, (fs, leaf)) ≡ st → FirstDone start l st

first_done : (start : Bool) (l : Line) (st : Reader) → k.first_line start l ≡ Some st → FirstDone start l st
first_done start (at c v) st e = elim (chosen (is_skipped (at c v)) _ _ e) [
  | inl p ↦ skipped p.0 (let e' = p.1 in cc)
  | inr p ↦ elim (chosen (k.is_document 45 (at c v)) _ _ p.1) [
    | inl q ↦ go start q.1 (document_parts 45 (at c v) q.0)
    | inr q ↦ elim (chosen (k.is_document 46 (at c v)) _ _ q.1) [
      | inl w ↦ (let e' = w.1 in absurd cc)
      | inr w ↦ (let there = if_some (eqb c 0) (k.with_start start (k.begin 32 0 c v)) w.1 in
          let inner = start_some start (k.begin 32 0 c v) st there.1 in
          let begun : Open 32 0 0 (line_level c v) (at c v ∷ []) inner.0.0 inner.0.1 = subst (λ (z : ℕ). Open 32 0 z (line_level c v) (at c v ∷ []) inner.0.0 inner.0.1) (eqb-true c 0 there.0) (begin_open 32 0 c v inner.0 inner.1) in
          begins_node begun (no_document (at c v) q.0 w.0) inner.2)
    ]
  ]
]
  where
    go : (start : Bool) → cond start None (Some (true, ([], lf.Hole))) ≡ Some st → IsDocument 45 (at c v) → FirstDone start (at c v) st
    go true e is = absurd cc
    go false e is = opens refl is cc

first_none : {a : List Line} → Skips a → (l : Line) (st : Reader) → FirstDone false l st → Rooted st.0 (a ++ l ∷ []) st.1.0 st.1.1
first_none {a} skips l st (skipped is same) = subst (λ (z : Reader). Rooted z.0 (a ++ l ∷ []) z.1.0 z.1.1) same (none (s.more l skips is))
first_none {a} skips l st (opens fresh is same) = subst (λ (z : Reader). Rooted z.0 (a ++ l ∷ []) z.1.0 z.1.1) same (started skips is s.none)
first_none {a} skips l st (begins_node q fresh same) = subst (λ (z : Reader). Rooted z.0 (a ++ l ∷ []) z.1.0 z.1.1) same (some skips q fresh)

first_started : {a b : List Line} {d : Line} → Skips a → IsDocument 45 d → Skips b → (l : Line) (st : Reader) → FirstDone true l st → Rooted st.0 (a ++ d ∷ (b ++ l ∷ [])) st.1.0 st.1.1
first_started {a} {b} {d} skips at_d others l st (skipped is same) = subst (λ (z : Reader). Rooted z.0 (a ++ d ∷ (b ++ l ∷ [])) z.1.0 z.1.1) same (started skips at_d (s.more l others is))
first_started {a} {b} {d} skips at_d others l st (opens fresh is same) = absurd cc
first_started {a} {b} {d} skips at_d others l st (begins_node q fresh same) = subst (λ (z : Reader). Rooted z.0 (a ++ d ∷ (b ++ l ∷ [])) z.1.0 z.1.1) same (behind skips at_d others q fresh)

begins_grows : (b us : List Line) → (b ≡ [] → ⊥) → (BeginsDocument b → ⊥) → BeginsDocument (b ++ us) → ⊥
begins_grows [] us there fresh q = there refl
begins_grows (l ∷ b) us there fresh q = fresh q

open_some : {n m c lv : ℕ} {ls : List Line} {fs : List Frame} {leaf : Leaf} → Open n m c lv ls fs leaf → ls ≡ [] → ⊥
open_some (value q t skips) e = absurd cc
open_some (closed h t k skips out) e = absurd cc
open_some (block h t k) e = absurd cc
open_some (group {a = a} {b = b} before q fresh) e = part_some q (none_left a b e)
  where
    none_left : (a b : List Line) → a ++ b ≡ [] → b ≡ []
    none_left [] b e = e
    none_left (x ∷ a) b e = absurd cc

    part_some : {n c : ℕ} {j : Group} {ls : List Line} {key : List ℕ} {fs : List Frame} {leaf : Leaf} → OpenPart n j c ls key fs leaf → ls ≡ [] → ⊥
    part_some (here i head q) e = absurd cc
    part_some (within i at_is q) e = absurd cc
    part_some (below head t a lt q) e = absurd cc
    part_some (null head t q) e = absurd cc

-- lines of the node
node_more : {start : Bool} {ls : List Line} {fs : List Frame} {leaf : Leaf} → Rooted start ls fs leaf → (leaf ≡ lf.Hole → fs ≡ [] → ⊥) → (l : Line) (st : State) → k.advance 32 0 0 fs leaf l ≡ Some st → Rooted start (ls ++ l ∷ []) st.0 st.1
node_more (none skips) there l st e = absurd (there refl refl)
node_more (started skips is others) there l st e = absurd (there refl refl)
node_more (some {a = a} {b = b} skips q fresh) there l st e =
    subst (λ (z : List Line). Rooted false z st.0 st.1) (sym (append_assoc a b (l ∷ []))) (some skips (advance_open q 0 l st e) (begins_grows b (l ∷ []) (open_some q) fresh))
node_more (behind {a = a} {b = b} {d = d} {l = h} skips is others q fresh) there l st e =
    let text : (a ++ h ∷ (d ++ b)) ++ l ∷ [] ≡ a ++ h ∷ (d ++ (b ++ l ∷ [])) = simp append_assoc in
    subst (λ (z : List Line). Rooted true z st.0 st.1) (sym text) (behind skips is others (advance_open q 0 l st e) (begins_grows b (l ∷ []) (open_some q) fresh))

stepped : {start : Bool} {ls : List Line} {fs : List Frame} {leaf : Leaf} → Rooted start ls fs leaf → (leaf ≡ lf.Hole → fs ≡ [] → ⊥) → (l : Line) (st : Reader) → k.with_start start (k.advance 32 0 0 fs leaf l) ≡ Some st → Rooted st.0 (ls ++ l ∷ []) st.1.0 st.1.1
stepped {start} {ls} {fs} {leaf} q there l st e =
    let inner = start_some start (k.advance 32 0 0 fs leaf l) st e in
    subst (λ (z : Reader). Rooted z.0 (ls ++ l ∷ []) z.1.0 z.1.1) inner.2 (node_more q there l inner.0 inner.1)

pub step_rooted : {start : Bool} {ls : List Line} {fs : List Frame} {leaf : Leaf} → Rooted start ls fs leaf → (l : Line) (st : Reader) → k.step start fs leaf l ≡ Some st → Rooted st.0 (ls ++ l ∷ []) st.1.0 st.1.1
unfolding k.step
step_rooted (none skips) l st e = first_none skips l st (first_done false l st e)
step_rooted (started {a = a} {b = b} {l = d} skips is others) l st e =
    subst (λ (z : List Line). Rooted st.0 z st.1.0 st.1.1) (sym (append_assoc a (d ∷ b) (l ∷ []))) (first_started skips is others l st (first_done true l st e))
step_rooted {fs = []} {leaf = lf.Hole} (some skips q fresh) l st e = absurd (no_hole q)
step_rooted {fs = []} {leaf = lf.Hole} (behind skips is others q fresh) l st e = absurd (no_hole q)
step_rooted {fs = []} {leaf = lf.Done x} (some skips q fresh) l st e = stepped (some skips q fresh) (λ h. absurd cc) l st e
step_rooted {fs = []} {leaf = lf.Done x} (behind skips is others q fresh) l st e = stepped (behind skips is others q fresh) (λ h. absurd cc) l st e
step_rooted {fs = []} {leaf = lf.Block b} (some skips q fresh) l st e = stepped (some skips q fresh) (λ h. absurd cc) l st e
step_rooted {fs = []} {leaf = lf.Block b} (behind skips is others q fresh) l st e = stepped (behind skips is others q fresh) (λ h. absurd cc) l st e
step_rooted {fs = f ∷ fs} (some skips q fresh) l st e = stepped (some skips q fresh) (λ h e'. absurd cc) l st e
step_rooted {fs = f ∷ fs} (behind skips is others q fresh) l st e = stepped (behind skips is others q fresh) (λ h e'. absurd cc) l st e

reads_some : (o : Option Reader) (f : Reader → Option Reader) (st : Reader) → k.then_reads o f ≡ Some st → (mid : Reader) × (o ≡ Some mid) × (f mid ≡ Some st)
reads_some None f st e = absurd cc
reads_some (Some mid) f st e = (mid, refl, e)

pub reads_rooted : (us : List Line) {ls : List Line} (st st' : Reader) → Rooted st.0 ls st.1.0 st.1.1 → k.reads st us ≡ Some st' → Rooted st'.0 (ls ++ us) st'.1.0 st'.1.1
reads_rooted [] {ls} st st' q e =
    let same : st ≡ st' = cc in
    subst (λ (z : List Line). Rooted st'.0 z st'.1.0 st'.1.1) (sym (append-nil ls)) (subst (λ (z : Reader). Rooted z.0 ls z.1.0 z.1.1) same q)
reads_rooted (l ∷ us) {ls} st st' q e =
    let mid = reads_some (k.step st.0 st.1.0 st.1.1 l) (λ next. k.reads next us) st' e in
    subst (λ (z : List Line). Rooted st'.0 z st'.1.0 st'.1.1) (append_assoc ls (l ∷ []) us) (reads_rooted us mid.0 st' (step_rooted q l mid.0 mid.1) mid.2)

-- What is read is spelled so.
pub reads_sound : (ls : List Line) (st : Reader) → k.reads k.start ls ≡ Some st → Spells ls (close st.1.0 st.1.1)
reads_sound ls st e = rooted_spells (reads_rooted ls {ls = []} k.start st (none s.none) e)
