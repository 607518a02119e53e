-- Visible names, and words by the names that are visible.
use Rattle.std.proofs.Common.{◌≡◌, ◌<◌, ◌+◌, ℕ, Bool, true, false, List, [], ◌∷◌, ◌++◌, Option, None, Some, length, get_or, take, map, refl, sym, ap, ◌∙◌}
use Rattle.std.specs.Prelude.{option_map, if◌then◌else◌}
use Rattle.std.proofs.lemmas.Grind.{take_at_read}
use Rattle.udb_spec.specs.Conditions.{same_bytes}
use Rattle.udb_base.specs.declared.names.Name.{Name}
use Rattle.idl_spec.specs.Shapes.{or_else, innermost, word_kind}
use Rattle.idl_spec.specs.Demands as meant
use Rattle.type_kinds.specs.declared.views.Visible.{Visible}
use Rattle.type_kinds.specs.Views.{visible_of, parameter_kind}

or-else-none : {A : Type 0} (x : Option A) → or_else x None ≡ x
or-else-none None = refl
or-else-none (Some a) = refl

or-else-assoc : {A : Type 0} (x y z : Option A) → or_else (or_else x y) z ≡ or_else x (or_else y z)
or-else-assoc None y z = refl
or-else-assoc (Some a) y z = refl

-- the visible things with their names, as far as they are looked at
abbrev pub pairs : List Visible → List (List ℕ × meant.Visible)
pairs vs = map (λ v. (v.name, v)) (map visible_of vs)

abbrev own : {A : Type 0} → List ℕ × A → List ℕ → Option A
own p name = if same_bytes p.0 name then Some p.1 else None

innermost-last : {A : Type 0} (ps : List (List ℕ × A)) (p : List ℕ × A) (name : List ℕ) → innermost (ps ++ p ∷ []) name ≡ or_else (own p name) (innermost ps name)
innermost-last [] p name = sym (or-else-none (own p name))
innermost-last (q ∷ ps) p name =
    ap (λ x. or_else x (own q name)) (innermost-last ps p name) ∙ or-else-assoc (own p name) (innermost ps name) (own q name)

pairs-append : (vs : List Visible) (v : Visible) → pairs (vs ++ v ∷ []) ≡ pairs vs ++ (v.name, visible_of v) ∷ []
pairs-append [] v = refl
pairs-append (w ∷ vs) v = ap (λ ps. (w.name, visible_of w) ∷ ps) (pairs-append vs v)

pub one-more : (vs : List Visible) (i : ℕ) (v : Visible) (name : List ℕ) → i < length vs → v ≡ get_or vs i v
    → innermost (pairs (take (i + 1) vs)) name ≡ or_else (if same_bytes v.name name then Some (visible_of v) else None) (innermost (pairs (take i vs)) name)
one-more vs i v name lt is =
    let t : take (i + 1) vs ≡ take i vs ++ v ∷ [] = (take_at_read vs i v lt).1 ∙ ap (λ m. take i vs ++ m ∷ []) (sym is) in
    ap (λ ms. innermost (pairs ms) name) t ∙ ap (λ ps. innermost ps name) (pairs-append (take i vs) v)
    ∙ innermost-last (pairs (take i vs)) (v.name, visible_of v) name

-- ---- words

map-or-else : {A B : Type 0} (f : A → B) (x y : Option A) → option_map f (or_else x y) ≡ or_else (option_map f x) (option_map f y)
map-or-else f None y = refl
map-or-else f (Some a) y = refl

map-if : {A B : Type 0} (f : A → B) (b : Bool) (a : A) → option_map f (if b then Some a else None) ≡ (if b then Some (f a) else None)
map-if f true a = refl
map-if f false a = refl

kinds-innermost : (vs : List meant.Visible) (name : List ℕ) → innermost (map (λ v. (v.name, v.kind)) vs) name ≡ option_map (λ v. v.kind) (innermost (map (λ v. (v.name, v)) vs) name)
kinds-innermost [] name = refl
kinds-innermost (v ∷ vs) name =
    ap (λ o. or_else o (if same_bytes v.name name then Some v.kind else None)) (kinds-innermost vs name)
    ∙ ap (or_else (option_map (λ w. w.kind) (innermost (map (λ w. (w.name, w)) vs) name))) (sym (map-if (λ w. w.kind) (same_bytes v.name name) v))
    ∙ sym (map-or-else (λ w. w.kind) (innermost (map (λ w. (w.name, w)) vs) name) (if same_bytes v.name name then Some v else None))

word-is : (view : meant.View) (name : Name) → word_kind (meant.names_at view) name ≡ or_else (option_map (λ v. v.kind) (meant.visible_named view name)) (parameter_kind view.space.params name)
word-is view name = ap (λ o. or_else o (parameter_kind view.space.params name)) (kinds-innermost view.visible name)

pub word-found : (view : meant.View) (name : Name) (v : meant.Visible) → meant.visible_named view name ≡ Some v → word_kind (meant.names_at view) name ≡ Some v.kind
word-found view name v is = word-is view name ∙ ap (λ o. or_else (option_map (λ w. w.kind) o) (parameter_kind view.space.params name)) is

pub word-none : (view : meant.View) (name : Name) → meant.visible_named view name ≡ None → word_kind (meant.names_at view) name ≡ parameter_kind view.space.params name
word-none view name is = word-is view name ∙ ap (λ o. or_else (option_map (λ w. w.kind) o) (parameter_kind view.space.params name)) is
