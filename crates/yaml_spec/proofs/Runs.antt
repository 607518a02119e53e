-- What is spelled is read.
use Rattle.std.proofs.Common.{◌≡◌, ℕ, zero, suc, ◌+◌, ◌*◌, ◌<◌, ◌≤◌, Bool, true, false, cond, not, ◌||◌, leb, eqb, IsTrue, List, [], ◌∷◌, ◌++◌, length, Option, Some, None, inl, inr, refl, sym, ap, subst, ◌∙◌, arith, le-leb, le-ltb, lt-ltb, eq-eqb}
use Rattle.std.proofs.lemmas.Bool.{leb-true, or_cases, lt-leb, or_left, or_right, and_parts, not-true, or_parts, or_from}
use Rattle.yaml_spec.specs.declared.state.Group.{Group}
use Rattle.yaml_spec.specs.declared.state.Group.TheVariants.{Listed, Mapped}
use Rattle.yaml_spec.specs.declared.state.Frame.{Frame}
use Rattle.yaml_spec.specs.declared.state.Block.{Block}
use Rattle.yaml_spec.specs.declared.state.Leaf.{Leaf}
use Rattle.yaml_spec.specs.declared.state.Leaf.TheVariants as lf
use Rattle.yaml_spec.specs.declared.sights.Sight.{Sight}
use Rattle.yaml_spec.specs.declared.sights.Sight.TheVariants as sight
use Rattle.yaml_spec.specs.declared.tree.Tree.{Tree}
use Rattle.yaml_spec.specs.declared.tree.Tree.TheVariants as tree
use Rattle.yaml_spec.specs.declared.tree.Pair.{Pair}
use Rattle.yaml_spec.specs.Line.{spaces, begins, IsTail, Head, Value, BlockHead, is_new, pair, whole}
use Rattle.yaml_spec.specs.Line as l
use Rattle.yaml_spec.specs.Spells.{Line, at, Skips, BlockLines, Ends, Inline, Node, Parts, Part, is_empty, is_blank, is_skipped, is_inside, indentation, block_text, column, content}
use Rattle.yaml_spec.specs.Spells as s
use Rattle.yaml_spec.specs.Reading as r
use Rattle.yaml_spec.specs.Machine as k
use Rattle.yaml_spec.specs.Machine.{State, frame, close, level, line_level, leaf_tree, block_tree, grown, group_of}
use Rattle.yaml_spec.proofs.Heads.{is_solid, sees_bare, sees_before, head_solid, drop_spaces}
use Rattle.yaml_spec.proofs.Values.{value_other, value_again, head_other, head_again}
use Rattle.yaml_spec.proofs.Rows.{Held, held_none, held_more, held_grows, held_text, held_least}

-- skipped, or no less deep than low
abbrev pub Deep : ℕ → Line → Type 0
Deep low u = IsTrue (is_skipped u || leb low (line_level (column u) (content u)))

pub data Deeps : ℕ → List Line → Type 0 where
  none : {low : ℕ} → Deeps low []
  more : {low : ℕ} {u : Line} {us : List Line} → Deep low u → Deeps low us → Deeps low (u ∷ us)

deeps_append : {low : ℕ} {a b : List Line} → Deeps low a → Deeps low b → Deeps low (a ++ b)
deeps_append none q = q
deeps_append (more d p) q = more d (deeps_append p q)

skips_deep : {low : ℕ} {a : List Line} → Skips a → Deeps low a
skips_deep s.none = none
skips_deep (s.more u p is) = deeps_append (skips_deep p) (more (or_left _ _ is) none)

level_least : (j : Group) (c : ℕ) → 2 * c ≤ level j c
level_least Listed c = omega arith
level_least Mapped c = omega arith

deep_from : (low : ℕ) (u : Line) → low ≤ 2 * column u → Deep low u
deep_from low u le = let least = level_least (group_of (r.sees (content u))) (column u) in or_right (is_skipped u) _ (le-leb _ _ (omega arith))

blank_skipped : (u : Line) → IsTrue (is_blank u) → IsTrue (is_skipped u)
blank_skipped (at c v) is = or_left _ _ is

block_deep : {m low : ℕ} {b : List Line} → low ≤ 2 * m → BlockLines m b → Deeps low b
block_deep le s.none = none
block_deep {m} {low} le (s.more u p is fits) = deeps_append (block_deep le p) (more (elim (or_cases (is_blank u) (leb m (column u)) is) [
  | inl blank ↦ or_left _ _ (blank_skipped u blank)
  | inr past ↦ (let there = leb-true _ _ past in deep_from low u (omega arith))
]) none)

-- ---- states under a frame

unless_under : (n m low : ℕ) (f : Frame) (fs : List Frame) (leaf : Leaf) (u : Line) → Deep (suc (level f.group f.column)) u
    → k.unless_skipped (suc n) m low (f ∷ fs) leaf u ≡ k.below f (k.unless_skipped n (suc f.column) (suc (level f.group f.column)) fs leaf u)
unfolding k.add
unless_under n m low f fs leaf (at c v) deep = go (is_skipped (at c v)) deep
  where
    go : (b : Bool) → IsTrue (b || leb (suc (level f.group f.column)) (line_level c v))
        → cond b (Some (f ∷ fs, leaf)) (k.add (suc n) m low (f ∷ fs) leaf c v) ≡ k.below f (cond b (Some (fs, leaf)) (k.add n (suc f.column) (suc (level f.group f.column)) fs leaf c v))
    go true is = refl
    go false is = let lt = leb-true _ _ is in rw (lt-ltb (level f.group f.column) (line_level c v) (omega arith)) refl

advance_under : (n m low : ℕ) (f : Frame) (fs : List Frame) (leaf : Leaf) (u : Line) → Deep (suc (level f.group f.column)) u
    → k.advance (suc n) m low (f ∷ fs) leaf u ≡ k.below f (k.advance n (suc f.column) (suc (level f.group f.column)) fs leaf u)
unfolding k.advance
advance_under n m low f fs lf.Hole u deep = unless_under n m low f fs lf.Hole u deep
advance_under n m low f fs (lf.Done x) u deep = unless_under n m low f fs (lf.Done x) u deep
advance_under n m low f fs (lf.Block o) u deep = go (is_inside o.least u) (grown o u)
  where
    go : (b : Bool) (d : Option Block) → cond b (k.with_block (f ∷ fs) d) (k.unless_skipped (suc n) m low (f ∷ fs) (lf.Done (block_tree o)) u)
        ≡ k.below f (cond b (k.with_block fs d) (k.unless_skipped n (suc f.column) (suc (level f.group f.column)) fs (lf.Done (block_tree o)) u))
    go true None = refl
    go true (Some b) = refl
    go false d = unless_under n m low f fs (lf.Done (block_tree o)) u deep

then_below : (f : Frame) (o : Option State) (g h : State → Option State) → ((st : State) → g (f ∷ st.0, st.1) ≡ k.below f (h st)) → k.then_reads (k.below f o) g ≡ k.below f (k.then_reads o h)
then_below f None g h same = refl
then_below f (Some st) g h same = same st

runs_under : (n m low : ℕ) (f : Frame) (st : State) (us : List Line) → Deeps (suc (level f.group f.column)) us
    → k.runs (suc n) m low (f ∷ st.0, st.1) us ≡ k.below f (k.runs n (suc f.column) (suc (level f.group f.column)) st us)
runs_under n m low f st [] deep = refl
runs_under n m low f st (u ∷ us) (more d deep) = rw (advance_under n m low f st.0 st.1 u d)
    (then_below f (k.advance n (suc f.column) (suc (level f.group f.column)) st.0 st.1 u) _ _ (λ next. runs_under n m low f next us deep))

then_then : (o : Option State) (f g : State → Option State) → k.then_reads (k.then_reads o f) g ≡ k.then_reads o (λ st. k.then_reads (f st) g)
then_then None f g = refl
then_then (Some st) f g = refl

then_same : (o : Option State) (f g : State → Option State) → ((st : State) → f st ≡ g st) → k.then_reads o f ≡ k.then_reads o g
then_same None f g same = refl
then_same (Some st) f g same = same st

runs_append : (n m low : ℕ) (st : State) (a b : List Line) → k.runs n m low st (a ++ b) ≡ k.then_reads (k.runs n m low st a) (λ next. k.runs n m low next b)
runs_append n m low st [] b = refl
runs_append n m low st (u ∷ a) b = then_same (k.advance n m low st.0 st.1 u) _ _ (λ next. runs_append n m low next a b) ∙ sym (then_then (k.advance n m low st.0 st.1 u) _ _)

-- ---- skipped lines and block scalars

unless_skips : (n m low : ℕ) (fs : List Frame) (leaf : Leaf) (u : Line) → IsTrue (is_skipped u) → k.unless_skipped n m low fs leaf u ≡ Some (fs, leaf)
unless_skips n m low fs leaf (at c v) is = rw is refl

done_runs : (n m low : ℕ) (fs : List Frame) (x : Tree) (a : List Line) → Skips a → k.runs n m low (fs, lf.Done x) a ≡ Some (fs, lf.Done x)
unfolding k.advance
done_runs n m low fs x _ s.none = refl
done_runs n m low fs x _ (s.more {ls = a} u p is) = runs_append n m low (fs, lf.Done x) a (u ∷ []) ∙ rw (done_runs n m low fs x a p, unless_skips n m low fs (lf.Done x) u is) refl

hole_runs : (n m low : ℕ) (fs : List Frame) (a : List Line) → Skips a → k.runs n m low (fs, lf.Hole) a ≡ Some (fs, lf.Hole)
unfolding k.advance
hole_runs n m low fs _ s.none = refl
hole_runs n m low fs _ (s.more {ls = a} u p is) = runs_append n m low (fs, lf.Hole) a (u ∷ []) ∙ rw (hole_runs n m low fs a p, unless_skips n m low fs lf.Hole u is) refl

-- the block that the lines leave
record BlockRun (m : ℕ) (folds keeps : Bool) (b : List Line) : Type 0 where
  last : Block
  held : Held m folds keeps b last
  runs : (n m' low : ℕ) (fs : List Frame) → k.runs n m' low (fs, lf.Block (k.open_block m folds keeps)) b ≡ Some (fs, lf.Block last)

row_step : (n m low : ℕ) (fs : List Frame) (o z : Block) (u : Line) → is_inside o.least u ≡ true → grown o u ≡ Some z → k.advance n m low fs (lf.Block o) u ≡ Some (fs, lf.Block z)
unfolding k.advance
row_step n m low fs o z u inside grows = rw (inside, grows) refl

block_run : (m : ℕ) (folds keeps : Bool) (b : List Line) → BlockLines m b → BlockRun m folds keeps b
block_run m folds keeps _ s.none = record { last = k.open_block m folds keeps; held = held_none m folds keeps; runs = λ n m' low fs. refl }
block_run m folds keeps _ (s.more {ls = b} u p is fits) =
    let before = block_run m folds keeps b p in
    let next = held_grows before.held u fits in
    let inside : is_inside before.last.least u ≡ true = ap (λ (z : ℕ). is_inside z u) (held_least before.held) ∙ is in
    record {
      last = next.0;
      held = held_more before.held u is next.1;
      runs = λ n m' low fs. runs_append n m' low (fs, lf.Block (k.open_block m folds keeps)) b (u ∷ []) ∙ (ap (λ (z : Option State). k.then_reads z (λ st. k.runs n m' low st (u ∷ []))) (before.runs n m' low fs) ∙ rw (row_step n m' low fs before.last next.0 u inside next.1) refl);
    }

-- the skipped lines, the first one taken apart
data Skipped : List Line → Type 0 where
  none : Skipped []
  next : {u : Line} {us : List Line} → IsTrue (is_skipped u) → Skips us → Skipped (u ∷ us)

skipped_more : {a : List Line} → Skipped a → (u : Line) → IsTrue (is_skipped u) → Skipped (a ++ u ∷ [])
skipped_more none u is = next is s.none
skipped_more (next {us = us} first p) u is = next first (s.more u p is)

skipped_of : {a : List Line} → Skips a → Skipped a
skipped_of s.none = none
skipped_of (s.more u p is) = skipped_more (skipped_of p) u is

-- what the block scalar's lines and the skipped lines behind it leave
abbrev left_open : Block → List Line → Leaf
left_open o [] = lf.Block o
left_open o (u ∷ us) = lf.Done (block_tree o)

shut_step : (n m low : ℕ) (fs : List Frame) (o : Block) (u : Line) → is_inside o.least u ≡ false → IsTrue (is_skipped u) → k.advance n m low fs (lf.Block o) u ≡ Some (fs, lf.Done (block_tree o))
unfolding k.advance
shut_step n m low fs o u out is = rw out (unless_skips n m low fs (lf.Done (block_tree o)) u is)

ended_runs : (n m low : ℕ) (fs : List Frame) (o : Block) (a : List Line) → Skipped a → Ends o.least a → k.runs n m low (fs, lf.Block o) a ≡ Some (fs, left_open o a)
ended_runs n m low fs o _ none out = refl
ended_runs n m low fs o _ (next {u} {us} is p) (s.next out) = rw (shut_step n m low fs o u (not-true _ out) is) (done_runs n m low fs (block_tree o) us p)

left_tree : (o : Block) (a : List Line) → leaf_tree (left_open o a) ≡ block_tree o
left_tree o [] = refl
left_tree o (u ∷ us) = refl

-- ---- nodes

-- a block scalar that is still open has its lines at m or past it
abbrev pub IsPast : ℕ → Leaf → Type 0
IsPast m lf.Hole = Unit {0}
IsPast m (lf.Done x) = Unit {0}
IsPast m (lf.Block o) = m ≤ o.least

left_past : (m : ℕ) (o : Block) (a : List Line) → o.least ≡ m → IsPast m (left_open o a)
left_past m o [] e = omega arith
left_past m o (u ∷ us) e = tt

past_less : (m m' : ℕ) (leaf : Leaf) → m' ≤ m → IsPast m leaf → IsPast m' leaf
past_less m m' lf.Hole le is = tt
past_less m m' (lf.Done x) le is = tt
past_less m m' (lf.Block o) le is = omega arith

-- how the lines of a node are read
pub record NodeRun (n m c : ℕ) (ls : List Line) (x : Tree) : Type 0 where
  pub text : List ℕ
  pub rest : List Line
  pub first : State
  pub last : State
  pub parts : ls ≡ at c text ∷ rest
  pub solid : IsTrue (is_solid text)
  pub begins : k.begin n m c text ≡ Some first
  pub runs : (low : ℕ) → k.runs n m low first rest ≡ Some last
  pub closes : close last.0 last.1 ≡ x
  pub past : IsPast m last.1

pub record PartsRun (n : ℕ) (j : Group) (c : ℕ) (ls : List Line) (ps : List Pair) : Type 0 where
  pub text : List ℕ
  pub rest : List Line
  pub first : State
  pub before : List Pair
  pub key : List ℕ
  pub frames : List Frame
  pub leaf : Leaf
  pub parts : ls ≡ at c text ∷ rest
  pub solid : IsTrue (is_solid text)
  pub begins : (m : ℕ) → k.begin (suc n) m c text ≡ Some first
  pub runs : (m low : ℕ) → k.runs (suc n) m low first rest ≡ Some (frame j c before key ∷ frames, leaf)
  pub closes : before ++ pair key (close frames leaf) ∷ [] ≡ ps
  pub past : IsPast (suc c) leaf
  pub leveled : line_level c text ≡ level j c

abbrev pub HasHead : Group → List ℕ → Sight → Type 0
HasHead j key (sight.Bare i key') = (i ≡ j) × (key' ≡ key)
HasHead j key (sight.Before i key' n) = (i ≡ j) × (key' ≡ key)
HasHead j key sight.Other = ⊥

pub record PartRun (n : ℕ) (j : Group) (c : ℕ) (ls : List Line) (p : Pair) : Type 0 where
  pub text : List ℕ
  pub rest : List Line
  pub seen : Sight
  pub first : State
  pub last : State
  pub parts : ls ≡ at c text ∷ rest
  pub solid : IsTrue (is_solid text)
  pub sees : r.sees text ≡ seen
  pub is : HasHead j p.key seen
  pub begins : k.inside n (k.begin n) c text seen ≡ Some first
  pub runs : k.runs n (suc c) (suc (level j c)) first rest ≡ Some last
  pub closes : close last.0 last.1 ≡ p.value
  pub past : IsPast (suc c) last.1
  pub deep : Deeps (suc (level j c)) rest

-- ---- how deep the lines of a node stand

pub solid_not_skipped : (c : ℕ) (v : List ℕ) → IsTrue (is_solid v) → is_skipped (at c v) ≡ false
solid_not_skipped c [] is = absurd cc
solid_not_skipped c (d ∷ v) is = let both = and_parts (not (eqb d 32)) (not (eqb d 35)) is in rw (not-true _ both.1) refl

bare_level : {j : Group} {p t key : List ℕ} (c : ℕ) → Head j p key → IsTail t → line_level c (p ++ t) ≡ level j c
bare_level {j} c head tail = ap (λ (z : Sight). level (group_of z) c) (sees_bare head tail)

before_level : {j : Group} {p key : List ℕ} (c i : ℕ) (v : List ℕ) → Head j p key → IsTrue (is_solid v) → line_level c (p ++ (spaces (suc i) ++ v)) ≡ level j c
before_level {j} c i v head solid = ap (λ (z : Sight). level (group_of z) c) (sees_before head i v solid)

level_deep : (low c : ℕ) (v : List ℕ) (j : Group) → low ≤ level j c → line_level c v ≡ level j c → Deep low (at c v)
level_deep low c v j le e = or_right (is_skipped (at c v)) _ (le-leb low (line_level c v) (omega arith))

inline_solid : {n m : ℕ} {v : List ℕ} {ls : List Line} {x : Tree} → Inline n m v ls x → IsTrue (is_solid v)
inline_solid (s.value q t skips) = (value_other q t).1
inline_solid (s.block h t b skips out) = (head_other h t).1

inline_deep : {n m low : ℕ} {v : List ℕ} {ls : List Line} {x : Tree} → low ≤ 2 * m → Inline n m v ls x → Deeps low ls
inline_deep le (s.value q t skips) = skips_deep skips
inline_deep le (s.block h t b skips out) = deeps_append (block_deep le b) (skips_deep skips)

rest_deep : {low : ℕ} {u : Line} {us : List Line} → Deeps low (u ∷ us) → Deeps low us
rest_deep (more d q) = q

up : (j : Group) (c low : ℕ) → low ≤ level j c → low ≤ 2 * suc c
up Listed c low le = omega arith
up Mapped c low le = omega arith

abbrev first_solid : List Line → Bool
first_solid [] = false
first_solid (u ∷ us) = is_solid (content u)

first_append : (a b : List Line) → IsTrue (first_solid a) → IsTrue (first_solid (a ++ b))
first_append [] b is = absurd cc
first_append (u ∷ a) b is = is

part_solid : {n c : ℕ} {j : Group} {ls : List Line} {p : Pair} → Part n j c ls p → IsTrue (first_solid ls)
part_solid (s.here i {v = v} head q) = head_solid head (spaces (suc i) ++ v)
part_solid (s.within i {v = v} q) = head_solid l.dash (spaces (suc i) ++ v)
part_solid (s.below {t = t} head tail a lt q) = head_solid head t
part_solid (s.level {t = t} head tail a q) = head_solid head t
part_solid (s.null {t = t} head tail a) = head_solid head t

parts_solid : {n c : ℕ} {j : Group} {ls : List Line} {ps : List Pair} → Parts n j c ls ps → IsTrue (first_solid ls)
parts_solid (s.one q) = part_solid q
parts_solid (s.more {a = a} {b = b} q p fresh) = first_append a b (parts_solid q)

-- the lines of a part below its first stand deeper than its mark; all lines stand no less deep
mutual
  node_deep : {n m c low : ℕ} {ls : List Line} {x : Tree} → low ≤ 2 * c → low ≤ 2 * m → Node n m c ls x → Deeps low ls
  node_deep {c = c} {low} le le' (s.inline {s = v} q) = more (deep_from low (at c v) le) (inline_deep le' q)
  node_deep {c = c} {low} le le' (s.group {k = j} q) = let least = level_least j c in parts_deep (omega arith) q

  parts_deep : {n c low : ℕ} {j : Group} {ls : List Line} {ps : List Pair} → low ≤ level j c → Parts n j c ls ps → Deeps low ls
  parts_deep le (s.one q) = part_deep le q
  parts_deep le (s.more q p fresh) = deeps_append (parts_deep le q) (part_deep le p)

  part_deep : {n c low : ℕ} {j : Group} {ls : List Line} {p : Pair} → low ≤ level j c → Part n j c ls p → Deeps low ls
  part_deep {c = c} {low} {j} le (s.here i {s = p} {v = v} head q) =
      more (level_deep low c _ j le (before_level c i v head (inline_solid q))) (inline_deep (up j c low le) q)
  part_deep {c = c} {low} le (s.within i {j} {v} q) = more (level_deep low c _ Listed le (before_level c i v l.dash (parts_solid q))) (rest_deep (let least = level_least j (c + i + 2) in parts_deep (omega arith) q))
  part_deep {c = c} {low} {j} le (s.below {d = d} head t a lt q) = more (level_deep low c _ j le (bare_level c head t)) (deeps_append (skips_deep a) (let u = up j c low le in node_deep (omega arith) u q))
  part_deep {c = c} {low} le (s.level head t a q) = more (level_deep low c _ Mapped le (bare_level c head t)) (deeps_append (skips_deep a) (parts_deep (omega arith) q))
  part_deep {c = c} {low} {j} le (s.null head t a) = more (level_deep low c _ j le (bare_level c head t)) (skips_deep a)

-- ---- every node is read

fresh_first : (j : Group) (key : List ℕ) → is_new j key [] ≡ true
fresh_first Listed key = refl
fresh_first Mapped key = refl

opens_first : (n : ℕ) (j : Group) (c : ℕ) (text key : List ℕ) (ps : List Pair) (seen : Sight) (st : State) → is_new j key ps ≡ true → k.inside n (k.begin n) c text seen ≡ Some st → k.opens (k.inside n (k.begin n) c text) j key c ps seen ≡ Some (frame j c ps key ∷ st.0, st.1)
opens_first n j c text key ps seen st fresh is = rw (fresh, is) refl

opens_is : (n : ℕ) (j i : Group) (c : ℕ) (text key key' : List ℕ) (ps ps' : List Pair) (seen : Sight) (st : State) → i ≡ j → key' ≡ key → ps' ≡ ps → is_new j key ps ≡ true → k.inside n (k.begin n) c text seen ≡ Some st → k.opens (k.inside n (k.begin n) c text) i key' c ps' seen ≡ Some (frame j c ps key ∷ st.0, st.1)
opens_is n j i c text key key' ps ps' seen st groups keys all fresh e =
    let goal : State = (frame j c ps key ∷ st.0, st.1) in
    subst (λ (z : Group). k.opens (k.inside n (k.begin n) c text) z key' c ps' seen ≡ Some goal) (sym groups)
    (subst (λ (z : List ℕ). k.opens (k.inside n (k.begin n) c text) j z c ps' seen ≡ Some goal) (sym keys)
    (subst (λ (z : List Pair). k.opens (k.inside n (k.begin n) c text) j key c z seen ≡ Some goal) (sym all) (opens_first n j c text key ps seen st fresh e)))

starts_first : (n m : ℕ) (j : Group) (c : ℕ) (text key : List ℕ) (o : Option State) (seen : Sight) (st : State) → HasHead j key seen → k.inside n (k.begin n) c text seen ≡ Some st → k.starts (k.inside n (k.begin n) c text) o c seen ≡ Some (frame j c [] key ∷ st.0, st.1)
starts_first n m j c text key o (sight.Bare i key') st is e = opens_is n j i c text key key' [] [] (sight.Bare i key') st is.0 is.1 refl (fresh_first j key) e
starts_first n m j c text key o (sight.Before i key' count) st is e = opens_is n j i c text key key' [] [] (sight.Before i key' count) st is.0 is.1 refl (fresh_first j key) e
starts_first n m j c text key o sight.Other st is e = absurd is

begin_first : (n m : ℕ) (j : Group) (c : ℕ) (key text : List ℕ) (seen : Sight) (st : State) → r.sees text ≡ seen → HasHead j key seen → k.inside n (k.begin n) c text seen ≡ Some st → k.begin (suc n) m c text ≡ Some (frame j c [] key ∷ st.0, st.1)
unfolding k.begin
begin_first n m j c key text seen st sees is e = rw sees (starts_first n m j c text key (k.inlined m (r.inline (suc n) text)) seen st is e)

seen_level : (j : Group) (key : List ℕ) (c : ℕ) (seen : Sight) → HasHead j key seen → level (group_of seen) c ≡ level j c
seen_level j key c (sight.Bare i key') is = ap (λ (z : Group). level z c) is.0
seen_level j key c (sight.Before i key' count) is = ap (λ (z : Group). level z c) is.0
seen_level j key c sight.Other is = absurd is

one_run : {n c : ℕ} {j : Group} {ls : List Line} {p : Pair} → PartRun n j c ls p → PartsRun n j c ls (p ∷ [])
one_run {n} {c} {j} {ls} {p} q = record {
  text = q.text;
  rest = q.rest;
  first = (frame j c [] p.key ∷ q.first.0, q.first.1);
  before = [];
  key = p.key;
  frames = q.last.0;
  leaf = q.last.1;
  parts = q.parts;
  solid = q.solid;
  begins = λ m. begin_first n m j c p.key q.text q.seen q.first q.sees q.is q.begins;
  runs = λ m low. runs_under n m low (frame j c [] p.key) q.first q.rest q.deep ∙ ap (λ (o : Option State). k.below (frame j c [] p.key) o) q.runs;
  closes = ap (λ (x : Tree). pair p.key x ∷ []) q.closes;
  past = q.past;
  leveled = ap (λ (z : Sight). level (group_of z) c) q.sees ∙ seen_level j p.key c q.seen q.is;
}

next_first : (n : ℕ) (j : Group) (c : ℕ) (text key before_key : List ℕ) (before : List Pair) (x : Tree) (ps : List Pair) (seen : Sight) (st : State) → before ++ pair before_key x ∷ [] ≡ ps → HasHead j key seen → is_new j key ps ≡ true → k.inside n (k.begin n) c text seen ≡ Some st → k.next (k.inside n (k.begin n) c text) (frame j c before before_key) x seen ≡ Some (frame j c ps key ∷ st.0, st.1)
next_first n j c text key before_key before x ps (sight.Bare i key') st all is fresh e = opens_is n j i c text key key' ps _ (sight.Bare i key') st is.0 is.1 all fresh e
next_first n j c text key before_key before x ps (sight.Before i key' count) st all is fresh e = opens_is n j i c text key key' ps _ (sight.Before i key' count) st is.0 is.1 all fresh e
next_first n j c text key before_key before x ps sight.Other st all is fresh e = absurd is

add_next : (n m low : ℕ) (j : Group) (c : ℕ) (key text before_key : List ℕ) (before : List Pair) (fs : List Frame) (leaf : Leaf) (ps : List Pair) (seen : Sight) (st : State) → r.sees text ≡ seen → HasHead j key seen → before ++ pair before_key (close fs leaf) ∷ [] ≡ ps → is_new j key ps ≡ true → k.inside n (k.begin n) c text seen ≡ Some st
    → k.add (suc n) m low (frame j c before before_key ∷ fs) leaf c text ≡ Some (frame j c ps key ∷ st.0, st.1)
unfolding k.add
add_next n m low j c key text before_key before fs leaf ps seen st sees is all fresh e =
    let same : line_level c text ≡ level j c = ap (λ (z : Sight). level (group_of z) c) sees ∙ seen_level j key c seen is in
    rw (same, le-ltb (level j c) (level j c) (omega arith), eq-eqb (level j c) (level j c) refl, sees) (next_first n j c text key before_key before (close fs leaf) ps seen st all is fresh e)

unless_adds : (n m low : ℕ) (fs : List Frame) (leaf : Leaf) (c : ℕ) (text : List ℕ) → IsTrue (is_solid text) → k.unless_skipped n m low fs leaf (at c text) ≡ k.add n m low fs leaf c text
unless_adds n m low fs leaf c text solid = rw (solid_not_skipped c text solid) refl

close_shut : (fs : List Frame) (o : Block) → close fs (lf.Done (block_tree o)) ≡ close fs (lf.Block o)
close_shut [] o = refl
close_shut (f ∷ fs) o = ap (λ (z : Tree). whole f.group (f.parts ++ pair f.key z ∷ [])) (close_shut fs o)

outside_block : (n m low : ℕ) (fs : List Frame) (o : Block) (c : ℕ) (text : List ℕ) → is_inside o.least (at c text) ≡ false → k.advance n m low fs (lf.Block o) (at c text) ≡ k.unless_skipped n m low fs (lf.Done (block_tree o)) (at c text)
unfolding k.advance
outside_block n m low fs o c text out = rw out refl

advance_next : (n m low : ℕ) (j : Group) (c : ℕ) (key text before_key : List ℕ) (before : List Pair) (fs : List Frame) (leaf : Leaf) (ps : List Pair) (seen : Sight) (st : State) → IsTrue (is_solid text) → IsPast (suc c) leaf → r.sees text ≡ seen → HasHead j key seen → before ++ pair before_key (close fs leaf) ∷ [] ≡ ps → is_new j key ps ≡ true → k.inside n (k.begin n) c text seen ≡ Some st
    → k.advance (suc n) m low (frame j c before before_key ∷ fs) leaf (at c text) ≡ Some (frame j c ps key ∷ st.0, st.1)
unfolding k.advance
advance_next n m low j c key text before_key before fs lf.Hole ps seen st solid past sees is all fresh e =
    unless_adds (suc n) m low (frame j c before before_key ∷ fs) lf.Hole c text solid ∙ add_next n m low j c key text before_key before fs lf.Hole ps seen st sees is all fresh e
advance_next n m low j c key text before_key before fs (lf.Done x) ps seen st solid past sees is all fresh e =
    unless_adds (suc n) m low (frame j c before before_key ∷ fs) (lf.Done x) c text solid ∙ add_next n m low j c key text before_key before fs (lf.Done x) ps seen st sees is all fresh e
advance_next n m low j c key text before_key before fs (lf.Block o) ps seen st solid past sees is all fresh e =
    let not_blank = or_parts (is_empty text) (begins 35 text) (solid_not_skipped c text solid) in
    outside_block (suc n) m low (frame j c before before_key ∷ fs) o c text (or_from (is_empty text) (leb o.least c) not_blank.0 (lt-leb o.least c past)) ∙ (unless_adds (suc n) m low (frame j c before before_key ∷ fs) (lf.Done (block_tree o)) c text solid
    ∙ add_next n m low j c key text before_key before fs (lf.Done (block_tree o)) ps seen st sees is (ap (λ (z : Tree). before ++ pair before_key z ∷ []) (close_shut fs o) ∙ all) fresh e)

more_run : {n c : ℕ} {j : Group} {a b : List Line} {ps : List Pair} {p : Pair} → PartsRun n j c a ps → PartRun n j c b p → IsTrue (is_new j p.key ps) → PartsRun n j c (a ++ b) (ps ++ p ∷ [])
more_run {n} {c} {j} {a} {b} {ps} {p} g q fresh = record {
  text = g.text;
  rest = g.rest ++ b;
  first = g.first;
  before = ps;
  key = p.key;
  frames = q.last.0;
  leaf = q.last.1;
  parts = ap (λ (z : List Line). z ++ b) g.parts;
  solid = g.solid;
  begins = g.begins;
  runs = λ m low. runs_append (suc n) m low g.first g.rest b ∙ rw (g.runs m low, q.parts, advance_next n m low j c p.key q.text g.key g.before g.frames g.leaf ps q.seen q.first q.solid g.past q.sees q.is g.closes fresh q.begins)
      (runs_under n m low (frame j c ps p.key) q.first q.rest q.deep ∙ ap (λ (o : Option State). k.below (frame j c ps p.key) o) q.runs);
  closes = ap (λ (x : Tree). ps ++ pair p.key x ∷ []) q.closes;
  past = q.past;
  leveled = g.leveled;
}

suc_level : (j : Group) (c d : ℕ) → c < d → suc (level j c) ≤ 2 * d
suc_level Listed c d lt = omega arith
suc_level Mapped c d lt = omega arith

record InlineRun (n m : ℕ) (v : List ℕ) (ls : List Line) (x : Tree) : Type 0 where
  first : Leaf
  last : Leaf
  sees : r.sees v ≡ sight.Other
  reads : k.inlined m (r.inline n v) ≡ Some ([], first)
  runs : (n' m' low : ℕ) → k.runs n' m' low ([], first) ls ≡ Some ([], last)
  closes : leaf_tree last ≡ x
  past : IsPast m last

ends_at : (m m' : ℕ) (ls : List Line) → m ≡ m' → Ends m ls → Ends m' ls
ends_at m m' ls e q = subst (λ (z : ℕ). Ends z ls) e q

inline_run : {n m : ℕ} {v : List ℕ} {ls : List Line} {x : Tree} → Inline n m v ls x → InlineRun n m v ls x
inline_run {n} {m} (s.value {ls = ls} {x = x} q t skips) = record {
  first = lf.Done x;
  last = lf.Done x;
  sees = (value_other q t).0;
  reads = ap (k.inlined m) (value_again q t);
  runs = λ n' m' low. done_runs n' m' low [] x ls skips;
  closes = refl;
  past = tt;
}
inline_run {n} {m} (s.block {b = b} {ls = ls} {folds = folds} {keeps = keeps} h t q skips out) =
    let run = block_run m folds keeps b q in
    let least = held_least run.held in
    record {
      first = lf.Block (k.open_block m folds keeps);
      last = left_open run.last ls;
      sees = (head_other h t).0;
      reads = ap (k.inlined m) (head_again n h t);
      runs = λ n' m' low. runs_append n' m' low ([], lf.Block (k.open_block m folds keeps)) b ls ∙ (ap (λ (z : Option State). k.then_reads z (λ st. k.runs n' m' low st ls)) (run.runs n' m' low []) ∙ ended_runs n' m' low [] run.last ls (skipped_of skips) (ends_at m run.last.least ls (sym least) out));
      closes = left_tree run.last ls ∙ held_text run.held;
      past = left_past m run.last ls least;
    }

begin_inline : (n m c : ℕ) (v : List ℕ) (st : State) → r.sees v ≡ sight.Other → k.inlined m (r.inline n v) ≡ Some st → k.begin n m c v ≡ Some st
unfolding k.begin
begin_inline zero m c v st sees e = rw sees e
begin_inline (suc n) m c v st sees e = rw sees e

inside_inline : (n c i : ℕ) (j : Group) (p key v : List ℕ) (st : State) → r.sees v ≡ sight.Other → k.inlined (suc c) (r.inline n v) ≡ Some st → k.inside n (k.begin n) c (p ++ (spaces (suc i) ++ v)) (sight.Before j key (length p + suc i)) ≡ Some st
inside_inline n c i Listed p key v st sees e = ap (λ (z : List ℕ). k.begin n (suc c) (c + (length p + suc i)) z) (drop_spaces p (suc i) v) ∙ begin_inline n (suc c) (c + (length p + suc i)) v st sees e
inside_inline n c i Mapped p key v st sees e = ap (λ (z : List ℕ). k.inlined (suc c) (r.inline n z)) (drop_spaces p (suc i) v) ∙ e

here_run : {n c : ℕ} (i : ℕ) {j : Group} {p v key : List ℕ} {ls : List Line} {x : Tree} → Head j p key → Inline n (suc c) v ls x → PartRun n j c (at c (p ++ (spaces (suc i) ++ v)) ∷ ls) (pair key x)
here_run {n} {c} i {j} {p} {v} {key} {ls} head q = let run = inline_run q in record {
  text = p ++ (spaces (suc i) ++ v);
  rest = ls;
  seen = sight.Before j key (length p + suc i);
  first = ([], run.first);
  last = ([], run.last);
  parts = refl;
  solid = head_solid head (spaces (suc i) ++ v);
  sees = sees_before head i v (inline_solid q);
  is = (refl, refl);
  begins = inside_inline n c i j p key v ([], run.first) run.sees run.reads;
  runs = run.runs n (suc c) (suc (level j c));
  closes = run.closes;
  past = run.past;
  deep = inline_deep (suc_level j c (suc c) (omega arith)) q;
}

null_run : {n c : ℕ} {j : Group} {p t key : List ℕ} {ls : List Line} → Head j p key → IsTail t → Skips ls → PartRun n j c (at c (p ++ t) ∷ ls) (pair key tree.Null)
null_run {n} {c} {j} {p} {t} {key} {ls} head tail skips = record {
  text = p ++ t;
  rest = ls;
  seen = sight.Bare j key;
  first = ([], lf.Hole);
  last = ([], lf.Hole);
  parts = refl;
  solid = head_solid head t;
  sees = sees_bare head tail;
  is = (refl, refl);
  begins = refl;
  runs = hole_runs n (suc c) (suc (level j c)) [] ls skips;
  closes = refl;
  past = tt;
  deep = skips_deep skips;
}

-- a node that begins below its mark
hole_next : (n m low d : ℕ) (v : List ℕ) (st : State) → IsTrue (is_solid v) → low ≤ line_level d v → k.begin n m d v ≡ Some st → k.advance n m low [] lf.Hole (at d v) ≡ Some st
unfolding k.advance k.add
hole_next n m low d v st solid le e = rw (solid_not_skipped d v solid, le-leb low (line_level d v) le) e

below_run : {n c d : ℕ} {j : Group} {p t key : List ℕ} {a b : List Line} {x : Tree} → Head j p key → IsTail t → Skips a → (v : List ℕ) (rest : List Line) (first last : State) → b ≡ at d v ∷ rest → IsTrue (is_solid v) → suc (level j c) ≤ line_level d v
    → k.begin n (suc c) d v ≡ Some first → k.runs n (suc c) (suc (level j c)) first rest ≡ Some last → close last.0 last.1 ≡ x → IsPast (suc c) last.1 → Deeps (suc (level j c)) b → PartRun n j c (at c (p ++ t) ∷ a ++ b) (pair key x)
below_run {n} {c} {d} {j} {p} {t} {key} {a} {b} head tail skips v rest first last is solid le begins runs closes past deep = record {
  text = p ++ t;
  rest = a ++ b;
  seen = sight.Bare j key;
  first = ([], lf.Hole);
  last = last;
  parts = refl;
  solid = head_solid head t;
  sees = sees_bare head tail;
  is = (refl, refl);
  begins = refl;
  runs = runs_append n (suc c) (suc (level j c)) ([], lf.Hole) a b ∙ rw (hole_runs n (suc c) (suc (level j c)) [] a skips, is, hole_next n (suc c) (suc (level j c)) d v first solid le begins) runs;
  closes = closes;
  past = past;
  deep = deeps_append (skips_deep skips) deep;
}

inner_column : (c i : ℕ) → c + (length {A = ℕ} (45 ∷ []) + suc i) ≡ c + i + 2
inner_column c i = omega arith

mutual
  pub node_run : {n m c : ℕ} {ls : List Line} {x : Tree} → m ≤ suc c → Node n m c ls x → NodeRun n m c ls x
  node_run {n} {m} {c} le (s.inline {s = v} {ls} q) = let run = inline_run q in record {
    text = v;
    rest = ls;
    first = ([], run.first);
    last = ([], run.last);
    parts = refl;
    solid = inline_solid q;
    begins = begin_inline n m c v ([], run.first) run.sees run.reads;
    runs = λ low. run.runs n m low;
    closes = run.closes;
    past = run.past;
  }
  node_run {m = m} {c = c} le (s.group {k = j} q) = let run = parts_run q in record {
    text = run.text;
    rest = run.rest;
    first = run.first;
    last = (frame j c run.before run.key ∷ run.frames, run.leaf);
    parts = run.parts;
    solid = run.solid;
    begins = run.begins m;
    runs = λ low. run.runs m low;
    closes = ap (whole j) run.closes;
    past = past_less (suc c) m run.leaf le run.past;
  }

  pub parts_run : {n c : ℕ} {j : Group} {ls : List Line} {ps : List Pair} → Parts n j c ls ps → PartsRun n j c ls ps
  parts_run (s.one q) = one_run (part_run q)
  parts_run (s.more q p fresh) = more_run (parts_run q) (part_run p) fresh

  pub part_run : {n c : ℕ} {j : Group} {ls : List Line} {p : Pair} → Part n j c ls p → PartRun n j c ls p
  part_run (s.here i head q) = here_run i head q
  part_run (s.null head t a) = null_run head t a
  part_run {c = c} {j = j} (s.below {d = d} head t a lt q) =
      let run = node_run (omega arith) q in
      let least = level_least (group_of (r.sees run.text)) d in
      let low = suc_level j c d lt in
      below_run head t a run.text run.rest run.first run.last run.parts run.solid (omega arith) run.begins (run.runs (suc (level j c))) run.closes run.past (node_deep low (suc_level j c (suc c) (omega arith)) q)
  part_run {c = c} (s.level head t a q) =
      let run = parts_run q in
      let there = run.leveled in
      below_run head t a run.text run.rest run.first (frame Listed c run.before run.key ∷ run.frames, run.leaf) run.parts run.solid (omega arith) (run.begins (suc c)) (run.runs (suc c) (suc (level Mapped c))) (ap (whole Listed) run.closes) run.past (parts_deep (omega arith) q)
  part_run {c = c} (s.within {r = n} i {j} {v} {ls} {ps} q) =
      let run = parts_run q in
      let text_is : run.text ≡ v = (let e = run.parts in cc) in
      let rest_is : run.rest ≡ ls = (let e = run.parts in cc) in
      let least = level_least j (c + i + 2) in
      record {
        text = 45 ∷ spaces (suc i) ++ v;
        rest = ls;
        seen = sight.Before Listed [] (length {A = ℕ} (45 ∷ []) + suc i);
        first = run.first;
        last = (frame j (c + i + 2) run.before run.key ∷ run.frames, run.leaf);
        parts = refl;
        solid = head_solid l.dash (spaces (suc i) ++ v);
        sees = sees_before l.dash i v (parts_solid q);
        is = (refl, refl);
        begins = ap (λ (z : List ℕ). k.begin (suc n) (suc c) (c + (length {A = ℕ} (45 ∷ []) + suc i)) z) (drop_spaces (45 ∷ []) (suc i) v)
            ∙ (ap (λ (z : ℕ). k.begin (suc n) (suc c) z v) (inner_column c i) ∙ subst (λ (z : List ℕ). k.begin (suc n) (suc c) (c + i + 2) z ≡ Some run.first) text_is (run.begins (suc c)));
        runs = subst (λ (z : List Line). k.runs (suc n) (suc c) (suc (level Listed c)) run.first z ≡ Some (frame j (c + i + 2) run.before run.key ∷ run.frames, run.leaf)) rest_is (run.runs (suc c) (suc (level Listed c)));
        closes = ap (whole j) run.closes;
        past = past_less (suc (c + i + 2)) (suc c) run.leaf (omega arith) run.past;
        deep = rest_deep (parts_deep (omega arith) q);
      }
