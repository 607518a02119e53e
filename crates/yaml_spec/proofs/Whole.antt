-- All lines: what is spelled is read, and the line of a fault is the least.
use Rattle.std.proofs.Common.{◌≡◌, ℕ, suc, Bool, true, false, IsTrue, List, [], ◌∷◌, ◌++◌, length, take, drop, Option, Some, None, inl, inr, refl, sym, ap, subst, ◌∙◌, append_assoc, length-append, arith}
use Rattle.std.proofs.lemmas.List.{take_at, take-append-le, take-append-drop}
use Rattle.std.proofs.lemmas.Bool.{false_from_ne_true}
use Rattle.yaml_spec.specs.declared.state.Frame.{Frame}
use Rattle.yaml_spec.specs.declared.state.Leaf.{Leaf}
use Rattle.yaml_spec.specs.declared.state.Leaf.TheVariants as lf
use Rattle.yaml_spec.specs.declared.tree.Tree.{Tree}
use Rattle.yaml_spec.specs.Spells.{Line, at, Skips, Node, is_skipped, IsDocument, BeginsDocument, Root, Spells}
use Rattle.yaml_spec.specs.Spells as s
use Rattle.yaml_spec.specs.Machine as k
use Rattle.yaml_spec.specs.Machine.{State, Reader, close}
use Rattle.yaml_spec.specs.Faults.{IsLeast}
use Rattle.yaml_spec.proofs.Open.{Open, advance_open, begin_open, no_hole, reads_sound, document_sound, document_true}
use Rattle.yaml_spec.proofs.Runs.{NodeRun, node_run, solid_not_skipped}

step_is : {n m c lv : ℕ} {ls : List Line} {fs : List Frame} {leaf : Leaf} → Open n m c lv ls fs leaf → (start : Bool) (u : Line) → k.step start fs leaf u ≡ k.with_start start (k.advance 32 0 0 fs leaf u)
unfolding k.step
step_is {fs = []} {leaf = lf.Hole} q start u = absurd (no_hole q)
step_is {fs = []} {leaf = lf.Done x} q start u = refl
step_is {fs = []} {leaf = lf.Block b} q start u = refl
step_is {fs = f ∷ fs} q start u = refl

then_started : (start : Bool) (o : Option State) (f : Reader → Option Reader) (g : State → Option State) → ((st : State) → o ≡ Some st → f (start, st) ≡ k.with_start start (g st)) → k.then_reads (k.with_start start o) f ≡ k.with_start start (k.then_reads o g)
then_started start None f g same = refl
then_started start (Some st) f g same = same st refl

reads_runs : {lv : ℕ} {ls : List Line} (start : Bool) (st : State) → Open 32 0 0 lv ls st.0 st.1 → (us : List Line) → k.reads (start, st) us ≡ k.with_start start (k.runs 32 0 0 st us)
reads_runs start st q [] = refl
reads_runs {ls} start st q (u ∷ us) = rw (step_is q start u) (then_started start (k.advance 32 0 0 st.0 st.1 u) _ _ (λ next e. reads_runs {ls = ls ++ u ∷ []} start next (advance_open q 0 u next e) us))

then_then : (o : Option Reader) (f g : Reader → Option Reader) → k.then_reads (k.then_reads o f) g ≡ k.then_reads o (λ st. k.then_reads (f st) g)
then_then None f g = refl
then_then (Some st) f g = refl

same_then : (o : Option Reader) (f g : Reader → Option Reader) → ((st : Reader) → f st ≡ g st) → k.then_reads o f ≡ k.then_reads o g
same_then None f g same = refl
same_then (Some st) f g same = same st

pub reads_append : (st : Reader) (a b : List Line) → k.reads st (a ++ b) ≡ k.then_reads (k.reads st a) (λ next. k.reads next b)
reads_append st [] b = refl
reads_append st (u ∷ a) b = same_then (k.step st.0 st.1.0 st.1.1 u) _ _ (λ next. reads_append next a b) ∙ sym (then_then (k.step st.0 st.1.0 st.1.1 u) _ _)

first_skips : (start : Bool) (u : Line) → IsTrue (is_skipped u) → k.first_line start u ≡ Some (start, ([], lf.Hole))
first_skips start (at c v) is = rw is refl

reads_skips : (start : Bool) (a : List Line) → Skips a → k.reads (start, ([], lf.Hole)) a ≡ Some (start, ([], lf.Hole))
unfolding k.step
reads_skips start _ s.none = refl
reads_skips start _ (s.more {ls = a} u p is) = reads_append (start, ([], lf.Hole)) a (u ∷ []) ∙ rw (reads_skips start a p, first_skips start u is) refl

not_document : (a c : ℕ) (v : List ℕ) → (IsDocument a (at c v) → ⊥) → k.is_document a (at c v) ≡ false
not_document a c v fresh = false_from_ne_true (k.is_document a (at c v)) (λ e. fresh (document_sound a (at c v) e))

reads_node : (start : Bool) (b : List Line) (x : Tree) → NodeRun 32 0 0 b x → (BeginsDocument b → ⊥) → (st : Reader) × (k.reads (start, ([], lf.Hole)) b ≡ Some st) × (close st.1.0 st.1.1 ≡ x)
unfolding k.step
reads_node start b x run fresh =
    let begun = begin_open 32 0 0 run.text run.first run.begins in
    let fresh' : BeginsDocument (at 0 run.text ∷ run.rest) → ⊥ = subst (λ (z : List Line). BeginsDocument z → ⊥) run.parts fresh in
    let no_start = not_document 45 0 run.text (λ q. fresh' (inl q)) in
    let no_end = not_document 46 0 run.text (λ q. fresh' (inr q)) in
    ((start, run.last), rw (run.parts, solid_not_skipped 0 run.text run.solid, no_start, no_end, run.begins, reads_runs start run.first begun run.rest, run.runs 0) refl, run.closes)

reads_root : (start : Bool) (ls : List Line) (x : Tree) → Root ls x → (st : Reader) × (k.reads (start, ([], lf.Hole)) ls ≡ Some st) × (close st.1.0 st.1.1 ≡ x)
reads_root start _ x (s.node {a} {b} skips q fresh) =
    let read = reads_node start b x (node_run (omega arith) q) fresh in
    (read.0, reads_append (start, ([], lf.Hole)) a b ∙ rw (reads_skips start a skips) read.1, read.2)
reads_root start ls _ (s.nothing skips) = ((start, ([], lf.Hole)), reads_skips start ls skips, refl)

document_skipped : {l : Line} → IsDocument 45 l → is_skipped l ≡ false
document_skipped (s.document q) = refl

start_line : (l : Line) → IsDocument 45 l → k.first_line false l ≡ Some (true, ([], lf.Hole))
start_line (at c v) is = rw (document_skipped is, document_true is) refl

reads_start : (l : Line) (b : List Line) → IsDocument 45 l → k.reads k.start (l ∷ b) ≡ k.reads (true, ([], lf.Hole)) b
unfolding k.step
reads_start l b is = rw (start_line l is) refl

-- What is spelled is read as that.
pub spells_reads : (ls : List Line) (x : Tree) → Spells ls x → (st : Reader) × (k.reads k.start ls ≡ Some st) × (close st.1.0 st.1.1 ≡ x)
spells_reads ls x (s.no_start q) = reads_root false ls x q
spells_reads _ x (s.start {a} {b} {l} skips is q) =
    let read = reads_root true b x q in
    (read.0, reads_append k.start a (l ∷ b) ∙ (rw (reads_skips false a skips) (reads_start l b is ∙ read.1)), read.2)

-- Lines spell at most one tree.
pub spells_one : (ls : List Line) (x y : Tree) → Spells ls x → Spells ls y → x ≡ y
spells_one ls x y p q = let one = spells_reads ls x p in let two = spells_reads ls y q in let same : one.0 ≡ two.0 = cc in sym one.2 ∙ ap (λ (st : Reader). close st.1.0 st.1.1) same ∙ two.2

-- ---- the line of a fault

some_front : (o : Option Reader) (f : Reader → Option Reader) (st : Reader) → k.then_reads o f ≡ Some st → (mid : Reader) × (o ≡ Some mid)
some_front None f st e = absurd cc
some_front (Some mid) f st e = (mid, refl)

front_reads : (a b : List Line) (st : Reader) → k.reads k.start (a ++ b) ≡ Some st → (mid : Reader) × (k.reads k.start a ≡ Some mid)
front_reads a b st e = some_front (k.reads k.start a) (λ next. k.reads next b) st (sym (reads_append k.start a b) ∙ e)

-- A line that is no step behind lines that are read is the least n such that the first n lines spell no tree.
pub fault_least : (ls front rest : List Line) (l : Line) (st : Reader) → ls ≡ front ++ l ∷ rest → k.reads k.start front ≡ Some st → k.step st.0 st.1.0 st.1.1 l ≡ None → IsLeast ls (suc (length front))
fault_least ls front rest l st is reads fault = record {
  within = omega (arith, ap length is, length-append front (l ∷ rest));
  spells_none = λ x q.
      let shown : take (suc (length front)) ls ≡ front ++ l ∷ [] = ap (take (suc (length front))) (is ∙ sym (append_assoc front (l ∷ []) rest)) ∙ take_at (front ++ l ∷ []) rest (suc (length front)) (omega (arith, length-append front (l ∷ []))) in
      let read = spells_reads (front ++ l ∷ []) x (subst (λ (z : List Line). Spells z x) shown q) in
      let none : k.reads k.start (front ++ l ∷ []) ≡ None = reads_append k.start front (l ∷ []) ∙ rw (reads, fault) refl in
      let other = read.1 in absurd cc;
  before = λ n lt.
      let shown : take n ls ≡ take n front = ap (take n) is ∙ take-append-le n front (l ∷ rest) (omega arith) in
      let read = front_reads (take n front) (drop n front) st (ap (k.reads k.start) (take-append-drop n front) ∙ reads) in
      (close read.0.1.0 read.0.1.1, subst (λ (z : List Line). Spells z (close read.0.1.0 read.0.1.1)) (sym shown) (reads_sound (take n front) read.0 read.1));
}

-- Lines that spell a tree have no fault.
pub least_none : (ls : List Line) (n : ℕ) (x : Tree) → IsLeast ls n → Spells ls x → ⊥
least_none ls n x least q =
    let read = spells_reads ls x q in
    let front = front_reads (take n ls) (drop n ls) read.0 (ap (k.reads k.start) (take-append-drop n ls) ∙ read.1) in
    least.spells_none (close front.0.1.0 front.0.1.1) (reads_sound (take n ls) front.0 front.1)
