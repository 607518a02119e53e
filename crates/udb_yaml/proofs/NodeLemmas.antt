-- Nodes that begin on a line, and the frames that one more line leaves open.
use Rattle.std.proofs.Common.{◌≡◌, ℕ, zero, suc, ◌-◌, true, List, [], ◌∷◌, ◌++◌, Option, Some, None, option_map, refl, sym, ap, subst, ◌∙◌, append_assoc, append-nil, arith}
use Rattle.yaml_spec.specs.declared.state.Group.{Group}
use Rattle.yaml_spec.specs.declared.state.Group.TheVariants.{Listed, Mapped}
use Rattle.yaml_spec.specs.declared.state.Frame.{Frame}
use Rattle.yaml_spec.specs.declared.state.Leaf.{Leaf}
use Rattle.yaml_spec.specs.declared.sights.Sight.{Sight}
use Rattle.yaml_spec.specs.declared.sights.Sight.TheVariants as sight
use Rattle.yaml_spec.specs.declared.sights.Got.{Got}
use Rattle.yaml_spec.specs.declared.tree.Pair.{Pair}
use Rattle.udb_yaml.specs.declared.nodes.Place.{Place}
use Rattle.yaml_spec.specs.Line.{is_new}
use Rattle.yaml_spec.specs.Reading.{sees, inline}
use Rattle.yaml_spec.specs.Machine as k
use Rattle.yaml_spec.specs.Machine.{State, frame, close, level, line_level, group_of}
use Rattle.udb_yaml.specs.Steps.{Begun, mark_of, at_place}

-- ---- nodes that begin

new_first : (g : Group) (key : List ℕ) → is_new g key [] ≡ true
new_first Listed key = refl
new_first Mapped key = refl

pub some_triple : {A B C : Type 0} {p q : A × B × C} → ◌≡◌ {A = Option (A × B × C)} (Some p) (Some q) → (p.0 ≡ q.0) × (p.1 ≡ q.1) × (p.2 ≡ q.2)
some_triple {A} {B} {C} {p} {q} e =
    let inner : p ≡ q = cc in (ap (λ (p : A × B × C). p.0) inner, ap (λ (p : A × B × C). p.1) inner, ap (λ (p : A × B × C). p.2) inner)

pub inside_place : (n : ℕ) (again : ℕ → ℕ → List ℕ → Option State) (c : ℕ) (s : List ℕ) (x : Sight) (g : Group) (key : List ℕ) (p : Place) → mark_of x ≡ Some (g, key, p) → k.inside n again c s x ≡ at_place n again c s p
inside_place n again c s sight.Other g key p e = absurd cc
inside_place n again c s (sight.Bare j key') g key p e = ap (at_place n again c s) (some_triple e).2
inside_place n again c s (sight.Before Listed key' i) g key p e = ap (at_place n again c s) (some_triple e).2
inside_place n again c s (sight.Before Mapped key' i) g key p e = ap (at_place n again c s) (some_triple e).2

starts_mark : (within : Sight → Option State) (o : Option State) (c : ℕ) (x : Sight) (g : Group) (key : List ℕ) (p : Place) → mark_of x ≡ Some (g, key, p) → k.starts within o c x ≡ k.below (frame g c [] key) (within x)
starts_mark within o c sight.Other g key p e = absurd cc
starts_mark within o c (sight.Bare j key') g key p e =
    let group = (some_triple e).0 in let same = (some_triple e).1 in
    rw (new_first j key') (ap (λ (z : Group). k.below (frame z c [] key') (within (sight.Bare j key'))) group ∙ ap (λ (z : List ℕ). k.below (frame g c [] z) (within (sight.Bare j key'))) same)
starts_mark within o c (sight.Before j key' i) g key p e =
    let group = (some_triple e).0 in let same = (some_triple e).1 in
    rw (new_first j key') (ap (λ (z : Group). k.below (frame z c [] key') (within (sight.Before j key' i))) group ∙ ap (λ (z : List ℕ). k.below (frame g c [] z) (within (sight.Before j key' i))) same)

pub no_mark : (x : Sight) → mark_of x ≡ None → x ≡ sight.Other
no_mark sight.Other e = refl
no_mark (sight.Bare j key) e = absurd cc
no_mark (sight.Before j key i) e = absurd cc

pub begin_value : (n m c : ℕ) (s : List ℕ) (x : Sight) → x ≡ sees s → None ≡ mark_of x → k.begin n m c s ≡ k.inlined m (inline n s)
unfolding k.begin
begin_value zero m c s x is none = let other = sym is ∙ no_mark x (sym none) in rw other refl
begin_value (suc n) m c s x is none = let other = sym is ∙ no_mark x (sym none) in rw other refl

pub begin_full : (n m c : ℕ) (s : List ℕ) (x : Sight) (g : Group) (key : List ℕ) (p : Place) → x ≡ sees s → Some (g, key, p) ≡ mark_of x → n ≡ 0 → k.begin n m c s ≡ None
unfolding k.begin
begin_full zero m c s x g key p is some none = starts_mark (λ _. None) (k.inlined m (inline 0 s)) c (sees s) g key p (ap mark_of (sym is) ∙ sym some)
begin_full (suc n) m c s x g key p is some none = absurd (omega arith)

pub begin_mark : (n m c : ℕ) (s : List ℕ) (x : Sight) (g : Group) (key : List ℕ) (p : Place) → x ≡ sees s → Some (g, key, p) ≡ mark_of x → (n ≡ 0 → ⊥) → k.begin n m c s ≡ k.below (frame g c [] key) (at_place (n - 1) (k.begin (n - 1)) c s p)
unfolding k.begin
begin_mark zero m c s x g key p is some more = absurd (more refl)
begin_mark (suc n) m c s x g key p is some more =
    let mark = ap mark_of (sym is) ∙ sym some in
    let same : suc n - 1 ≡ n = omega arith in
    starts_mark (k.inside n (k.begin n) c s) (k.inlined m (inline (suc n) s)) c (sees s) g key p mark ∙ (ap (k.below (frame g c [] key)) (inside_place n (k.begin n) c s (sees s) g key p mark) ∙ ap (λ (z : ℕ). k.below (frame g c [] key) (at_place z (k.begin z) c s p)) (sym same))

pub begun_value : (m : ℕ) (st : Option State) (got : Option Got) (fs : List Frame) (o : Option Leaf) → st ≡ k.inlined m got → o ≡ option_map (k.leaf_of m) got → Begun st fs fs o
begun_value m st got fs o is e = subst (Begun st fs fs) (sym e) (go got is)
  where
    go : (got : Option Got) → st ≡ k.inlined m got → Begun st fs fs (option_map (k.leaf_of m) got)
    go None is = is
    go (Some g) is = ([], is, sym (append-nil fs))

pub begun_below : (f : Frame) (st all : Option State) (old mid new : List Frame) (o : Option Leaf) → all ≡ k.below f st → mid ≡ old ++ f ∷ [] → Begun st mid new o → Begun all old new o
begun_below f st all old mid new None is pushed e = is ∙ ap (k.below f) e
begun_below f st all old mid new (Some leaf) is pushed e = (f ∷ e.0, is ∙ ap (k.below f) e.1, e.2 ∙ (ap (λ (z : List Frame). z ++ e.0) pushed ∙ append_assoc old (f ∷ []) e.0))

pub pushed_first : (now new : List Frame) (g : Group) (c : ℕ) (ps : List Pair) (key : List ℕ) → new ≡ now ++ frame g c ps key ∷ [] → ps ≡ [] → new ≡ now ++ frame g c [] key ∷ []
pushed_first now new g c ps key e none = e ∙ ap (λ (z : List Pair). now ++ frame g c z key ∷ []) none
