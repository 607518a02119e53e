-- The frames that one more line leaves open.
use Rattle.std.proofs.Common.{◌≡◌, ℕ, zero, suc, ◌+◌, ◌-◌, ◌<◌, ◌≤◌, Bool, true, false, ◌||◌, if◌then◌else◌, eqb, leb, ltb, List, [], ◌∷◌, ◌++◌, length, take, drop, get_or, Option, Some, None, inl, inr, refl, sym, ap, subst, ◌∙◌, arith, ne_eqb, eq-eqb, lt-ltb, le-ltb, le-leb, length-append}
use Rattle.std.proofs.lemmas.Bool.{cases_lt, lt-leb}
use Rattle.std.proofs.lemmas.List.{take-append-le, same_from_push}
use Rattle.yaml_spec.specs.declared.state.Group.{Group}
use Rattle.yaml_spec.specs.declared.state.Frame.{Frame}
use Rattle.yaml_spec.specs.declared.state.Block.{Block}
use Rattle.yaml_spec.specs.declared.state.Leaf.{Leaf}
use Rattle.yaml_spec.specs.declared.state.Leaf.TheVariants as leaf
use Rattle.yaml_spec.specs.declared.sights.Sight.{Sight}
use Rattle.yaml_spec.specs.declared.sights.Sight.TheVariants as sight
use Rattle.yaml_spec.specs.declared.tree.Tree.{Tree}
use Rattle.yaml_spec.specs.declared.tree.Pair.{Pair}
use Rattle.udb_yaml.specs.declared.nodes.Place.{Place}
use Rattle.udb_yaml.specs.declared.steps.State.{State as Open}
use Rattle.yaml_spec.specs.Line.{is_new, pair, whole, begins}
use Rattle.yaml_spec.specs.Spells.{at, is_empty, is_inside}
use Rattle.yaml_spec.specs.Reading.{sees}
use Rattle.yaml_spec.specs.Machine as k
use Rattle.yaml_spec.specs.Machine.{State, frame, close, level, line_level, group_of}
use Rattle.udb_yaml.specs.Steps.{Begun, Stepped, Reaches, reader_of, mark_of, at_place, kept_count, bound, behind_all, next_of, next_at, under_all, is_start}
use Rattle.udb_yaml.proofs.NodeLemmas.{begun_below, some_triple, inside_place, no_mark}

-- ---- frames that close

closed : Frame → Tree → Tree
closed f x = whole f.group (f.parts ++ pair f.key x ∷ [])

pub close_leaf : (fs : List Frame) (l : Leaf) (x : Tree) → x ≡ k.leaf_tree l → close fs (leaf.Done x) ≡ close fs l
close_leaf [] l x e = e
close_leaf (f ∷ fs) l x e = ap (λ (z : Tree). whole f.group (f.parts ++ pair f.key z ∷ [])) (close_leaf fs l x e)

close_more : (fs : List Frame) (g : Frame) (x : Tree) → close (fs ++ g ∷ []) (leaf.Done x) ≡ close fs (leaf.Done (whole g.group (g.parts ++ pair g.key x ∷ [])))
close_more [] g x = refl
close_more (f ∷ fs) g x = ap (λ (z : Tree). whole f.group (f.parts ++ pair f.key z ∷ [])) (close_more fs g x)

drop_push : {A : Type 0} (n : ℕ) (xs : List A) (x : A) → n ≤ length xs → drop n (xs ++ x ∷ []) ≡ drop n xs ++ x ∷ []
drop_push zero xs x le = refl
drop_push (suc n) [] x le = absurd (omega arith)
drop_push (suc n) (y ∷ xs) x le = drop_push n xs x (omega arith)

-- one frame fewer
pub close_pop : (n : ℕ) (all fs : List Frame) (g : Frame) (x y : Tree) → all ≡ fs ++ g ∷ [] → n < length all → y ≡ whole g.group (g.parts ++ pair g.key x ∷ [])
    → (close (drop n fs) (leaf.Done y) ≡ close (drop n all) (leaf.Done x)) × (take n fs ≡ take n all) × (n ≤ length fs) × (length fs < length all)
close_pop n all fs g x y is lt e =
    let long : length all ≡ length fs + 1 = ap length is ∙ length-append fs (g ∷ []) in
    let le : n ≤ length fs = omega arith in (
      ap (λ (z : Tree). close (drop n fs) (leaf.Done z)) e ∙ sym (ap (λ (z : List Frame). close (drop n z) (leaf.Done x)) is ∙ (ap (λ (z : List Frame). close z (leaf.Done x)) (drop_push n fs g le) ∙ close_more (drop n fs) g x)),
      sym (ap (take n) is ∙ take-append-le n fs (g ∷ []) le),
      le,
      omega arith,
    )

-- ---- the frames that stay

behind_below : (f : Frame) (fs : List Frame) (st : Option State) → k.below f (behind_all fs st) ≡ behind_all (f ∷ fs) st
behind_below f fs None = refl
behind_below f fs (Some st) = refl

behind_none : (st : Option State) → st ≡ behind_all [] st
behind_none None = refl
behind_none (Some st) = refl

abbrev next_in : ℕ → ℕ → ℕ → List Frame → List Frame → Leaf → List ℕ → Option State
next_in r n here kept [] l s = None
next_in r n here kept (f ∷ fs) l s = if ltb n r then (if eqb (level f.group f.column) here then behind_all kept (k.next (k.inside (r - suc n) (k.begin (r - suc n)) f.column s) f (close fs l) (sees s)) else None) else None

next_below : (r n here : ℕ) (g : Frame) (kept fs : List Frame) (l : Leaf) (s : List ℕ) → k.below g (next_in r n here kept fs l s) ≡ next_in (suc r) (suc n) here (g ∷ kept) fs l s
next_below r n here g kept [] l s = refl
next_below r n here g kept (f ∷ fs) l s = elim (cases_lt n r) [ inl lt ↦ room lt | inr le ↦ rw (le-ltb n r le, le-ltb (suc n) (suc r) (omega arith)) refl ]
  where
    room : n < r → k.below g (next_in r n here kept (f ∷ fs) l s) ≡ next_in (suc r) (suc n) here (g ∷ kept) (f ∷ fs) l s
    room lt = let less : suc r - suc (suc n) ≡ r - suc n = omega arith in rw (lt-ltb n r lt, lt-ltb (suc n) (suc r) (omega arith), less) (at (eqb (level f.group f.column) here))
      where
        at : (b : Bool) → k.below g (if b then behind_all kept (k.next (k.inside (r - suc n) (k.begin (r - suc n)) f.column s) f (close fs l) (sees s)) else None) ≡ (if b then behind_all (g ∷ kept) (k.next (k.inside (r - suc n) (k.begin (r - suc n)) f.column s) f (close fs l) (sees s)) else None)
        at true = behind_below g kept (k.next (k.inside (r - suc n) (k.begin (r - suc n)) f.column s) f (close fs l) (sees s))
        at false = refl

-- a frame at the line's level, or deeper
next_walk : (r m low : ℕ) (fs : List Frame) (l : Leaf) (c : ℕ) (s : List ℕ) → kept_count (line_level c s) fs < length fs
    → k.add r m low fs l c s ≡ next_in r (kept_count (line_level c s) fs) (line_level c s) (take (kept_count (line_level c s) fs) fs) (drop (kept_count (line_level c s) fs) fs) l s
unfolding k.add
next_walk r m low [] l c s lt = absurd (omega arith)
next_walk zero m low (f ∷ fs) l c s lt = go (kept_count (line_level c s) (f ∷ fs)) (drop (kept_count (line_level c s) (f ∷ fs)) (f ∷ fs))
  where
    go : (n : ℕ) (rest : List Frame) → None ≡ next_in zero n (line_level c s) (take (kept_count (line_level c s) (f ∷ fs)) (f ∷ fs)) rest l s
    go n [] = refl
    go n (g ∷ gs) = rw (le-ltb n 0 (omega arith)) refl
next_walk (suc r) m low (f ∷ fs) l c s lt = at (ltb (level f.group f.column) (line_level c s)) refl (λ e. next_walk r (suc f.column) (suc (level f.group f.column)) fs l c s (shorter e))
  where
    shorter : ltb (level f.group f.column) (line_level c s) ≡ true → kept_count (line_level c s) fs < length fs
    shorter e = let h : suc (kept_count (line_level c s) fs) < suc (length fs) = subst (λ (b : Bool). (if b then suc (kept_count (line_level c s) fs) else 0) < suc (length fs)) e lt in omega arith

    last : (b : Bool) → (if b then k.next (k.inside r (k.begin r) f.column s) f (close fs l) (sees s) else None) ≡ (if b then behind_all [] (k.next (k.inside r (k.begin r) f.column s) f (close fs l) (sees s)) else None)
    last true = behind_none (k.next (k.inside r (k.begin r) f.column s) f (close fs l) (sees s))
    last false = refl

    at : (b : Bool) → ltb (level f.group f.column) (line_level c s) ≡ b
        → (ltb (level f.group f.column) (line_level c s) ≡ true → k.add r (suc f.column) (suc (level f.group f.column)) fs l c s ≡ next_in r (kept_count (line_level c s) fs) (line_level c s) (take (kept_count (line_level c s) fs) fs) (drop (kept_count (line_level c s) fs) fs) l s)
        → (if b then k.below f (k.add r (suc f.column) (suc (level f.group f.column)) fs l c s) else if eqb (level f.group f.column) (line_level c s) then k.next (k.inside r (k.begin r) f.column s) f (close fs l) (sees s) else None)
        ≡ next_in (suc r) (if b then suc (kept_count (line_level c s) fs) else 0) (line_level c s) (take (if b then suc (kept_count (line_level c s) fs) else 0) (f ∷ fs)) (drop (if b then suc (kept_count (line_level c s) fs) else 0) (f ∷ fs)) l s
    at true e again = ap (k.below f) (again e) ∙ next_below r (kept_count (line_level c s) fs) (line_level c s) f (take (kept_count (line_level c s) fs) fs) (drop (kept_count (line_level c s) fs) fs) l s
    at false e again = let less : suc r - 1 ≡ r = omega arith in rw (lt-ltb 0 (suc r) (omega arith), less) (last (eqb (level f.group f.column) (line_level c s)))

next_same : (n here : ℕ) (kept fs : List Frame) (l : Leaf) (s : List ℕ) → next_in 32 n here kept fs l s ≡ next_of n here kept fs l s
next_same n here kept [] l s = refl
next_same n here kept (f ∷ fs) l s = let room : 32 - suc n ≡ 31 - n = omega arith in rw room refl

pub add_next : (n : ℕ) (fs : List Frame) (l : Leaf) (c : ℕ) (s : List ℕ) → n ≡ kept_count (line_level c s) fs → n < length fs → k.add 32 0 0 fs l c s ≡ next_at n (line_level c s) fs l s
add_next n fs l c s is lt =
    let lt' : kept_count (line_level c s) fs < length fs = omega arith in
    next_walk 32 0 0 fs l c s lt' ∙ (next_same (kept_count (line_level c s) fs) (line_level c s) (take (kept_count (line_level c s) fs) fs) (drop (kept_count (line_level c s) fs) fs) l s ∙ ap (λ (z : ℕ). next_at z (line_level c s) fs l s) (sym is))

abbrev under_in : ℕ → ℕ → List Frame → Leaf → ℕ → List ℕ → Option State
under_in r m fs leaf.Hole c s = if leb (length fs) r then k.begin (r - length fs) (bound m fs) c s else None
under_in r m fs (leaf.Done x) c s = None
under_in r m fs (leaf.Block b) c s = None

-- all frames stand less deep
under_walk : (r m low : ℕ) (fs : List Frame) (l : Leaf) (c : ℕ) (s : List ℕ) → kept_count (line_level c s) fs ≡ length fs → low ≤ line_level c s → k.add r m low fs l c s ≡ behind_all fs (under_in r m fs l c s)
unfolding k.add
under_walk r m low [] leaf.Hole c s e le = let whole_room : r - 0 ≡ r = omega arith in rw (le-leb low (line_level c s) le, le-leb 0 r (omega arith), whole_room) (behind_none (k.begin r m c s))
under_walk r m low [] (leaf.Done x) c s e le = refl
under_walk r m low [] (leaf.Block b) c s e le = refl
under_walk zero m low (f ∷ fs) leaf.Hole c s e le = rw (lt-leb (suc (length fs)) 0 (omega arith)) refl
under_walk zero m low (f ∷ fs) (leaf.Done x) c s e le = refl
under_walk zero m low (f ∷ fs) (leaf.Block b) c s e le = refl
under_walk (suc r) m low (f ∷ fs) l c s e le = elim (cases_lt (level f.group f.column) (line_level c s)) [ inl lt ↦ inner (λ lt all. under_walk r (suc f.column) (suc (level f.group f.column)) fs l c s all (omega arith)) lt | inr other ↦ absurd (none other) ]
  where
    none : line_level c s ≤ level f.group f.column → ⊥
    none other = let h : 0 ≡ suc (length fs) = subst (λ (b : Bool). (if b then suc (kept_count (line_level c s) fs) else 0) ≡ suc (length fs)) (le-ltb (level f.group f.column) (line_level c s) other) e in omega arith

    one_more : (l : Leaf) → under_in r (suc f.column) fs l c s ≡ under_in (suc r) m (f ∷ fs) l c s
    one_more leaf.Hole = elim (cases_lt r (length fs)) [ inl more ↦ rw (lt-leb (length fs) r more, lt-leb (suc (length fs)) (suc r) (omega arith)) refl | inr le ↦ let less : suc r - suc (length fs) ≡ r - length fs = omega arith in rw (le-leb (length fs) r le, le-leb (suc (length fs)) (suc r) (omega arith), less) refl ]
    one_more (leaf.Done x) = refl
    one_more (leaf.Block b) = refl

    inner : (level f.group f.column < line_level c s → kept_count (line_level c s) fs ≡ length fs → k.add r (suc f.column) (suc (level f.group f.column)) fs l c s ≡ behind_all fs (under_in r (suc f.column) fs l c s)) → level f.group f.column < line_level c s → k.add (suc r) m low (f ∷ fs) l c s ≡ behind_all (f ∷ fs) (under_in (suc r) m (f ∷ fs) l c s)
    inner again lt =
        let h : suc (kept_count (line_level c s) fs) ≡ suc (length fs) = subst (λ (b : Bool). (if b then suc (kept_count (line_level c s) fs) else 0) ≡ suc (length fs)) (lt-ltb (level f.group f.column) (line_level c s) lt) e in
        rw (lt-ltb (level f.group f.column) (line_level c s) lt) (ap (k.below f) (again lt (omega arith)) ∙ (behind_below f fs (under_in r (suc f.column) fs l c s) ∙ ap (behind_all (f ∷ fs)) (one_more l)))

pub add_under : (n : ℕ) (fs : List Frame) (l : Leaf) (c : ℕ) (s : List ℕ) → n ≡ kept_count (line_level c s) fs → n ≡ length fs → k.add 32 0 0 fs l c s ≡ behind_all fs (under_all fs l c s)
add_under n fs l c s is e = under_walk 32 0 0 fs l c s (sym is ∙ e) (omega arith) ∙ ap (behind_all fs) (same l)
  where
    same : (l : Leaf) → under_in 32 0 fs l c s ≡ under_all fs l c s
    same leaf.Hole = refl
    same (leaf.Done x) = refl
    same (leaf.Block b) = refl

pub begun_stepped : (st all : Option State) (old new : List Frame) (o : Option Leaf) → all ≡ behind_all old st → Begun st old new o → Stepped all new o
begun_stepped st all old new None e b = e ∙ ap (behind_all old) b
begun_stepped st all old new (Some l) e b = e ∙ (ap (behind_all old) b.1 ∙ ap (λ (z : List Frame). Some (z, l)) (sym b.2))

pub stepped_same : (st all : Option State) (new : List Frame) (o : Option Leaf) → all ≡ st → Stepped st new o → Stepped all new o
stepped_same st all new None e b = e ∙ b
stepped_same st all new (Some l) e b = e ∙ b

-- ---- a part behind others

-- the frames up to a place
pub last_kept : (n : ℕ) (fs ps : List Frame) (f : Frame) → n < length fs → take (suc n) fs ≡ ps ++ f ∷ [] → (take n fs ≡ ps) × (drop n fs ≡ f ∷ drop (suc n) fs)
last_kept n [] ps f lt e = absurd (omega arith)
last_kept zero (g ∷ fs) ps f lt e = let same = same_from_push [] ps g f e in (same.0, ap (λ (z : Frame). z ∷ fs) same.1)
last_kept (suc n) (g ∷ fs) [] f lt e = absurd (short fs lt (ap length e))
  where
    short : (fs : List Frame) → suc n < length (g ∷ fs) → length (take (suc (suc n)) (g ∷ fs)) ≡ 1 → ⊥
    short [] lt e = absurd (omega arith)
    short (h ∷ hs) lt e = absurd (omega arith)
last_kept (suc n) (g ∷ fs) (p ∷ ps) f lt e =
    let first : g ≡ p = cc in
    let rest : take (suc n) fs ≡ ps ++ f ∷ [] = cc in
    let same = last_kept n fs ps f (omega arith) rest in (ap (λ (z : Frame). z ∷ take n fs) first ∙ ap (λ (z : List Frame). p ∷ z) same.0, same.1)

abbrev next_here : ℕ → ℕ → List Frame → Frame → Tree → List ℕ → Option State
next_here n here kept f x s = if ltb n 32 then (if eqb (level f.group f.column) here then behind_all kept (k.next (k.inside (31 - n) (k.begin (31 - n)) f.column s) f x (sees s)) else None) else None

at_frame : (n here : ℕ) (fs ps all : List Frame) (f : Frame) (l : Leaf) (x : Tree) (s : List ℕ) → n < length fs → x ≡ close (drop (suc n) fs) l → all ≡ take (suc n) fs → all ≡ ps ++ f ∷ [] → next_at n here fs l s ≡ next_here n here ps f x s
at_frame n here fs ps all f l x s lt is e pushed =
    let same = last_kept n fs ps f lt (sym e ∙ pushed) in
    ap (λ (z : List Frame). next_of n here z (drop n fs) l s) same.0 ∙ (ap (λ (z : List Frame). next_of n here ps z l s) same.1 ∙ ap (λ (z : Tree). next_here n here ps f z s) (sym is))

pub next_full : (n here : ℕ) (fs ps all : List Frame) (f : Frame) (l : Leaf) (x : Tree) (s : List ℕ) → n < length fs → x ≡ close (drop (suc n) fs) l → all ≡ take (suc n) fs → all ≡ ps ++ f ∷ [] → 32 ≤ n → next_at n here fs l s ≡ None
next_full n here fs ps all f l x s lt is e pushed full = at_frame n here fs ps all f l x s lt is e pushed ∙ rw (le-ltb n 32 full) refl

pub next_other : (n here lv : ℕ) (fs ps all : List Frame) (f : Frame) (l : Leaf) (x : Tree) (s : List ℕ) → n < length fs → x ≡ close (drop (suc n) fs) l → all ≡ take (suc n) fs → all ≡ ps ++ f ∷ [] → lv ≡ level f.group f.column → (lv ≡ here → ⊥) → next_at n here fs l s ≡ None
next_other n here lv fs ps all f l x s lt is e pushed lv_is other = at_frame n here fs ps all f l x s lt is e pushed ∙ rw (ne_eqb (level f.group f.column) here (λ same. other (lv_is ∙ same))) (none (ltb n 32))
  where
    none : (b : Bool) → ◌≡◌ {A = Option State} (if b then None else None) None
    none true = refl
    none false = refl

pub next_shown : (n here lv : ℕ) (fs ps all : List Frame) (f : Frame) (l : Leaf) (x : Tree) (s : List ℕ) → n < length fs → x ≡ close (drop (suc n) fs) l → all ≡ take (suc n) fs → all ≡ ps ++ f ∷ [] → lv ≡ level f.group f.column → lv ≡ here → n < 32 → (seen : Sight) → seen ≡ sees s
    → next_at n here fs l s ≡ behind_all ps (k.next (k.inside (31 - n) (k.begin (31 - n)) f.column s) f x seen)
next_shown n here lv fs ps all f l x s lt is e pushed lv_is same room seen seen_is = at_frame n here fs ps all f l x s lt is e pushed ∙ (here_shown ∙ ap (λ (z : Sight). behind_all ps (k.next (k.inside (31 - n) (k.begin (31 - n)) f.column s) f x z)) (sym seen_is))
  where
    here_shown : next_here n here ps f x s ≡ behind_all ps (k.next (k.inside (31 - n) (k.begin (31 - n)) f.column s) f x (sees s))
    here_shown = rw (lt-ltb n 32 room, eq-eqb (level f.group f.column) here (sym lv_is ∙ same)) refl

pub next_none : (within : Sight → Option State) (f : Frame) (x : Tree) (seen : Sight) → None ≡ mark_of seen → k.next within f x seen ≡ None
next_none within f x seen e = let other = no_mark seen (sym e) in ap (k.next within f x) other

next_mark : (within : Sight → Option State) (f : Frame) (x : Tree) (seen : Sight) (g : Group) (key : List ℕ) (p : Place) → mark_of seen ≡ Some (g, key, p) → k.next within f x seen ≡ k.opens within g key f.column (f.parts ++ pair f.key x ∷ []) seen
next_mark within f x sight.Other g key p e = absurd cc
next_mark within f x (sight.Bare j key') g key p e = let t = some_triple e in ap (λ (z : Group). k.opens within z key' f.column (f.parts ++ pair f.key x ∷ []) (sight.Bare j key')) t.0 ∙ ap (λ (z : List ℕ). k.opens within g z f.column (f.parts ++ pair f.key x ∷ []) (sight.Bare j key')) t.1
next_mark within f x (sight.Before j key' i) g key p e = let t = some_triple e in ap (λ (z : Group). k.opens within z key' f.column (f.parts ++ pair f.key x ∷ []) (sight.Before j key' i)) t.0 ∙ ap (λ (z : List ℕ). k.opens within g z f.column (f.parts ++ pair f.key x ∷ []) (sight.Before j key' i)) t.1

pub next_twice : (within : Sight → Option State) (f : Frame) (x : Tree) (seen : Sight) (g : Group) (key : List ℕ) (p : Place) (ps : List Pair) (b : Bool) → Some (g, key, p) ≡ mark_of seen → ps ≡ f.parts ++ pair f.key x ∷ [] → b ≡ is_new g key ps → b ≡ false → k.next within f x seen ≡ None
next_twice within f x seen g key p ps b is all news old =
    next_mark within f x seen g key p (sym is) ∙ rw (ap (is_new g key) (sym all) ∙ (sym news ∙ old)) refl

pub next_opens : (r : ℕ) (s : List ℕ) (f : Frame) (x : Tree) (seen : Sight) (g : Group) (key : List ℕ) (p : Place) (ps : List Pair) (b : Bool) → Some (g, key, p) ≡ mark_of seen → ps ≡ f.parts ++ pair f.key x ∷ [] → b ≡ is_new g key ps → b ≡ true
    → k.next (k.inside r (k.begin r) f.column s) f x seen ≡ k.below (frame g f.column ps key) (at_place r (k.begin r) f.column s p)
next_opens r s f x seen g key p ps b is all news new =
    next_mark (k.inside r (k.begin r) f.column s) f x seen g key p (sym is)
    ∙ (rw (ap (is_new g key) (sym all) ∙ (sym news ∙ new)) (ap (λ (z : List Pair). k.below (frame g f.column z key) (k.inside r (k.begin r) f.column s seen)) (sym all))
    ∙ ap (k.below (frame g f.column ps key)) (inside_place r (k.begin r) f.column s seen g key p (sym is)))

pub next_pushed : (r column : ℕ) (s : List ℕ) (f : Frame) (x : Tree) (seen : Sight) (g : Group) (key : List ℕ) (p : Place) (ps : List Pair) (b : Bool) (old mid new : List Frame) (o : Option Leaf)
    → Some (g, key, p) ≡ mark_of seen → column ≡ f.column → ps ≡ f.parts ++ pair f.key x ∷ [] → b ≡ is_new g key ps → b ≡ true → mid ≡ old ++ frame g column ps key ∷ [] → Begun (at_place r (k.begin r) column s p) mid new o
    → Begun (k.next (k.inside r (k.begin r) f.column s) f x seen) old new o
next_pushed r column s f x seen g key p ps b old mid new o is at_column all news opens pushed begun =
    let next = next_opens r s f x seen g key p ps b is all news opens ∙ ap (λ (z : ℕ). k.below (frame g z ps key) (at_place r (k.begin r) z s p)) (sym at_column) in
    begun_below (frame g column ps key) (at_place r (k.begin r) column s p) _ old mid new o next pushed begun

-- ---- a node below the last mark

pub under_full : (fs : List Frame) (c : ℕ) (s : List ℕ) → 32 < length fs → under_all fs leaf.Hole c s ≡ None
under_full fs c s full = rw (lt-leb (length fs) 32 full) refl

pub under_room : (fs : List Frame) (c m : ℕ) (s : List ℕ) → (32 < length fs → ⊥) → m ≡ bound 0 fs → under_all fs leaf.Hole c s ≡ k.begin (32 - length fs) m c s
under_room fs c m s room e = rw (le-leb (length fs) 32 (omega arith)) (ap (λ (z : ℕ). k.begin (32 - length fs) z c s) (sym e))

pub one_less : (n : ℕ) → (n ≡ 0 → ⊥) → n ≡ suc (n - 1)
one_less n more = omega arith

pub bound_last : (m n : ℕ) (fs : List Frame) (d : Frame) → length fs ≡ suc n → bound m fs ≡ suc (get_or fs n d).column
bound_last m n [] d e = absurd (omega arith)
bound_last m zero (f ∷ []) d e = refl
bound_last m (suc n) (f ∷ []) d e = absurd (omega arith)
bound_last m zero (f ∷ g ∷ fs) d e = absurd (omega arith)
bound_last m (suc n) (f ∷ g ∷ fs) d e = bound_last (suc f.column) n (g ∷ fs) d (omega arith)

-- a line's level, as it is computed
level_same : (lv : ℕ) (g : Group) (x : Sight) (c : ℕ) (s : List ℕ) → x ≡ sees s → g ≡ group_of x → lv ≡ level g c → lv ≡ line_level c s
level_same lv g x c s x_is g_is lv_is = lv_is ∙ ap (λ (z : Group). level z c) (g_is ∙ ap group_of x_is)

pub adds_next : (n lv : ℕ) (g : Group) (x : Sight) (fs : List Frame) (l : Leaf) (c : ℕ) (s : List ℕ) → x ≡ sees s → g ≡ group_of x → lv ≡ level g c → n ≡ kept_count lv fs → n < length fs → k.add 32 0 0 fs l c s ≡ next_at n lv fs l s
adds_next n lv g x fs l c s x_is g_is lv_is n_is lt =
    let same = level_same lv g x c s x_is g_is lv_is in
    add_next n fs l c s (n_is ∙ ap (λ (z : ℕ). kept_count z fs) same) lt ∙ ap (λ (z : ℕ). next_at n z fs l s) (sym same)

pub adds_under : (n lv : ℕ) (g : Group) (x : Sight) (fs : List Frame) (l : Leaf) (c : ℕ) (s : List ℕ) → x ≡ sees s → g ≡ group_of x → lv ≡ level g c → n ≡ kept_count lv fs → n ≤ length fs → length fs ≤ n → k.add 32 0 0 fs l c s ≡ behind_all fs (under_all fs l c s)
adds_under n lv g x fs l c s x_is g_is lv_is n_is le more =
    add_under n fs l c s (n_is ∙ ap (λ (z : ℕ). kept_count z fs) (level_same lv g x c s x_is g_is lv_is)) (omega arith)

-- ---- one more line

first_is : (b : Bool) (c : ℕ) (s : List ℕ) (skips : Bool) → skips ≡ (is_empty s || begins 35 s) → skips ≡ false → (if k.is_document 45 (at c s) then (if b then None else Some (true, ([], leaf.Hole))) else if k.is_document 46 (at c s) then None else if eqb c 0 then k.with_start b (k.begin 32 0 c s) else None) ≡ k.first_line b (at c s)
first_is b c s skips is off = sym (rw (sym is ∙ off) refl)

pub first_skipped : (b : Bool) (c : ℕ) (s : List ℕ) (skips : Bool) (o : Open) → skips ≡ (is_empty s || begins 35 s) → skips ≡ true → reader_of o ≡ (b, ([], leaf.Hole)) → Reaches (k.first_line b (at c s)) (Some o)
first_skipped b c s skips o is on e = rw (sym is ∙ on) (ap Some (sym e))

pub first_ended : (b : Bool) (c : ℕ) (s : List ℕ) (skips opens ends : Bool) → skips ≡ (is_empty s || begins 35 s) → skips ≡ false → opens ≡ k.is_document 45 (at c s) → opens ≡ false → ends ≡ k.is_document 46 (at c s) → ends ≡ true → k.first_line b (at c s) ≡ None
first_ended b c s skips opens ends is off opens_is shut ends_is ended = sym (first_is b c s skips is off) ∙ rw (sym opens_is ∙ shut, sym ends_is ∙ ended) refl

pub first_apart : (b : Bool) (c : ℕ) (s : List ℕ) (skips opens ends : Bool) → skips ≡ (is_empty s || begins 35 s) → skips ≡ false → opens ≡ k.is_document 45 (at c s) → opens ≡ false → ends ≡ k.is_document 46 (at c s) → ends ≡ false → (c ≡ 0 → ⊥) → k.first_line b (at c s) ≡ None
first_apart b c s skips opens ends is off opens_is shut ends_is runs apart = sym (first_is b c s skips is off) ∙ rw (sym opens_is ∙ shut, sym ends_is ∙ runs, ne_eqb c 0 apart) refl

pub first_begins : (b : Bool) (c : ℕ) (s : List ℕ) (skips opens ends : Bool) → skips ≡ (is_empty s || begins 35 s) → skips ≡ false → opens ≡ k.is_document 45 (at c s) → opens ≡ false → ends ≡ k.is_document 46 (at c s) → ends ≡ false → c ≡ 0 → k.first_line b (at c s) ≡ k.with_start b (k.begin 32 0 c s)
first_begins b c s skips opens ends is off opens_is shut ends_is runs same = sym (first_is b c s skips is off) ∙ rw (sym opens_is ∙ shut, sym ends_is ∙ runs, eq-eqb c 0 same) refl

pub begun_none : (b : Bool) (st : Option State) (all : Option k.Reader) (old new : List Frame) → all ≡ k.with_start b st → Begun st old new None → all ≡ None
begun_none b st all old new is e = is ∙ ap (k.with_start b) e

pub begun_some : (b : Bool) (st : Option State) (all : Option k.Reader) (old new : List Frame) (l : Leaf) → all ≡ k.with_start b st → old ≡ [] → Begun st old new (Some l) → all ≡ Some (b, (new, l))
begun_some b st all old new l is none e = is ∙ (ap (k.with_start b) e.1 ∙ ap (λ (z : List Frame). Some (b, (z, l))) (sym (e.2 ∙ ap (λ (z : List Frame). z ++ e.0) none)))

pub stays : (b skips : Bool) (fs : List Frame) (l : Leaf) (c : ℕ) (s : List ℕ) → skips ≡ (is_empty s || begins 35 s) → skips ≡ true → k.with_start b (k.unless_skipped 32 0 0 fs l (at c s)) ≡ Some (b, (fs, l))
stays b skips fs l c s is on = rw (sym is ∙ on) refl

pub stepped_none : (b skips : Bool) (fs new : List Frame) (l : Leaf) (c : ℕ) (s : List ℕ) → skips ≡ (is_empty s || begins 35 s) → skips ≡ false → Stepped (k.add 32 0 0 fs l c s) new None → k.with_start b (k.unless_skipped 32 0 0 fs l (at c s)) ≡ None
stepped_none b skips fs new l c s is off e = rw (sym is ∙ off) (ap (k.with_start b) e)

pub stepped_some : (b skips : Bool) (fs new : List Frame) (l next : Leaf) (c : ℕ) (s : List ℕ) → skips ≡ (is_empty s || begins 35 s) → skips ≡ false → Stepped (k.add 32 0 0 fs l c s) new (Some next) → k.with_start b (k.unless_skipped 32 0 0 fs l (at c s)) ≡ Some (b, (new, next))
stepped_some b skips fs new l next c s is off e = rw (sym is ∙ off) (ap (k.with_start b) e)

pub reaches_same : (st all : Option k.Reader) (o : Option Open) → all ≡ st → Reaches st o → Reaches all o
reaches_same st all None e is = e ∙ is
reaches_same st all (Some x) e is = e ∙ is

pub advance_hole : (b : Bool) (fs : List Frame) (l : Leaf) (c : ℕ) (s : List ℕ) → l ≡ leaf.Hole → k.with_start b (k.advance 32 0 0 fs l (at c s)) ≡ k.with_start b (k.unless_skipped 32 0 0 fs leaf.Hole (at c s))
unfolding k.advance
advance_hole b fs l c s e = ap (λ (z : Leaf). k.with_start b (k.advance 32 0 0 fs z (at c s))) e

pub advance_done : (b : Bool) (fs : List Frame) (l : Leaf) (x : Tree) (c : ℕ) (s : List ℕ) → l ≡ leaf.Done x → k.with_start b (k.advance 32 0 0 fs l (at c s)) ≡ k.with_start b (k.unless_skipped 32 0 0 fs (leaf.Done x) (at c s))
unfolding k.advance
advance_done b fs l x c s e = ap (λ (z : Leaf). k.with_start b (k.advance 32 0 0 fs z (at c s))) e

pub advance_block : (b : Bool) (fs : List Frame) (l : Leaf) (x : Block) (c : ℕ) (s : List ℕ) → l ≡ leaf.Block x → k.with_start b (k.advance 32 0 0 fs l (at c s)) ≡ k.with_start b (k.advance 32 0 0 fs (leaf.Block x) (at c s))
advance_block b fs l x c s e = ap (λ (z : Leaf). k.with_start b (k.advance 32 0 0 fs z (at c s))) e

pub row_within : (b here : Bool) (fs : List Frame) (x : Block) (o : Option Block) (c : ℕ) (s : List ℕ) → here ≡ is_inside x.least (at c s) → here ≡ true → o ≡ k.grown x (at c s) → k.with_start b (k.advance 32 0 0 fs (leaf.Block x) (at c s)) ≡ k.with_start b (k.with_block fs o)
unfolding k.advance
row_within b here fs x o c s is on e = rw (sym is ∙ on) (ap (λ (z : Option Block). k.with_start b (k.with_block fs z)) (sym e))

pub row_behind : (b here : Bool) (fs : List Frame) (x : Block) (t : Tree) (c : ℕ) (s : List ℕ) → here ≡ is_inside x.least (at c s) → here ≡ false → t ≡ k.block_tree x → k.with_start b (k.advance 32 0 0 fs (leaf.Block x) (at c s)) ≡ k.with_start b (k.unless_skipped 32 0 0 fs (leaf.Done t) (at c s))
unfolding k.advance
row_behind b here fs x t c s is off e = rw (sym is ∙ off) (ap (λ (z : Tree). k.with_start b (k.unless_skipped 32 0 0 fs (leaf.Done z) (at c s))) (sym e))

pub steps_first : (b : Bool) (fs : List Frame) (l : Leaf) (c : ℕ) (s : List ℕ) → is_start fs l ≡ true → k.step b fs l (at c s) ≡ k.first_line b (at c s)
unfolding k.step
steps_first b [] leaf.Hole c s e = refl
steps_first b [] (leaf.Done x) c s e = absurd cc
steps_first b [] (leaf.Block x) c s e = absurd cc
steps_first b (f ∷ fs) l c s e = absurd cc

pub steps_next : (b : Bool) (fs : List Frame) (l : Leaf) (c : ℕ) (s : List ℕ) → is_start fs l ≡ false → k.step b fs l (at c s) ≡ k.with_start b (k.advance 32 0 0 fs l (at c s))
unfolding k.step
steps_next b [] leaf.Hole c s e = absurd cc
steps_next b [] (leaf.Done x) c s e = refl
steps_next b [] (leaf.Block x) c s e = refl
steps_next b (f ∷ fs) l c s e = refl
