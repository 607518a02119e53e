-- What a setting has to give the names of a body, and how names are looked up.
use Rattle.std.proofs.Common.{◌≡◌, ℕ, Bool, true, false, List, [], ◌∷◌, ◌++◌, map, Option, None, Some, refl, sym, ap, ◌∙◌, subst}
use Rattle.std.specs.Prelude.{option_map, if◌then◌else◌}
use Rattle.std.specs.Cmp.Lexicographic.{bytes_decides}
use Rattle.udb_spec.specs.Conditions.{same_bytes}
use Rattle.idl_tree.specs.declared.widths.Width.TheVariants as wd
use Rattle.idl_tree.specs.declared.programs.Variable.{Variable}
use Rattle.idl_spec.specs.Values.{Value}
use Rattle.idl_spec.specs.Shapes.{Kind, of_bits, or_else, innermost, parameter_named}
use Rattle.idl_spec.specs.Settings.{Setting, Scope}
use Rattle.idl_spec.specs.Demands.{Visible}
use Rattle.idl_spec.specs.Checks.{variable_names}
use Rattle.type_laws.specs.Kinds.{HasKind, IsLocal, Matches}
pub use Rattle.type_laws.specs.Worlds.{HasParameter, HasNumber, HasChoice, World}

-- ---- names

pub or_none : {A : Type 0} (o : Option A) → or_else o None ≡ o
or_none None = refl
or_none (Some a) = refl

or_assoc : {A : Type 0} (x y z : Option A) → or_else (or_else x y) z ≡ or_else x (or_else y z)
or_assoc None y z = refl
or_assoc (Some a) y z = refl

pub innermost_more : {A : Type 0} (ps qs : List (List ℕ × A)) (name : List ℕ) → innermost (ps ++ qs) name ≡ or_else (innermost qs name) (innermost ps name)
innermost_more [] qs name = sym (or_none (innermost qs name))
innermost_more (p ∷ ps) qs name =
    ap (λ o. or_else o (if same_bytes p.0 name then Some p.1 else None)) (innermost_more ps qs name)
    ∙ or_assoc (innermost qs name) (innermost ps name) (if same_bytes p.0 name then Some p.1 else None)

abbrev pub seen : List Visible → List (List ℕ × Visible)
seen vs = map (λ v. (v.name, v)) vs

abbrev pub kinds : List Visible → List (List ℕ × Kind)
kinds vs = map (λ v. (v.name, v.kind)) vs

or_map : {A B : Type 0} (f : A → B) (x y : Option A) → or_else (option_map f x) (option_map f y) ≡ option_map f (or_else x y)
or_map f None y = refl
or_map f (Some a) y = refl

if_map : {A B : Type 0} (f : A → B) (b : Bool) (a : A) → (if b then Some (f a) else None) ≡ option_map f (if b then Some a else None)
if_map f true a = refl
if_map f false a = refl

-- the kind of a name is that of the visible name
pub kinds_seen : (vs : List Visible) (name : List ℕ) → innermost (kinds vs) name ≡ option_map (λ v. v.kind) (innermost (seen vs) name)
kinds_seen [] name = refl
kinds_seen (v ∷ vs) name =
    ap (λ o. or_else o (if same_bytes v.name name then Some v.kind else None)) (kinds_seen vs name)
    ∙ (ap (λ o. or_else (option_map (λ (w : Visible). w.kind) (innermost (seen vs) name)) o) (if_map (λ (w : Visible). w.kind) (same_bytes v.name name) v)
    ∙ or_map (λ w. w.kind) (innermost (seen vs) name) (if same_bytes v.name name then Some v else None))

module _ (e : Setting) where
  -- a local has a value of its kind, and no parameter has its name
  abbrev pub IsFound : List ℕ → Option Visible → Option Value → Type 0
  IsFound name None None = Unit {0}
  IsFound name (Some v) (Some x) = HasKind e v.kind x × (parameter_named e.space.params name ≡ None)
  IsFound name _ _ = ⊥

  here : (v : Visible) (p : List ℕ × Value) (name : List ℕ) (b : Bool) → same_bytes v.name name ≡ b → IsLocal e v p → IsFound name (if b then Some v else None) (if b then Some p.1 else None)
  here v p name true is h = (h.kind, subst (λ (n : List ℕ). parameter_named e.space.params n ≡ None) ((bytes_decides v.name name).0 is) h.clear)
  here v p name false is h = tt

  inner_first : (name : List ℕ) (v w : Option Visible) (x y : Option Value) → IsFound name v x → IsFound name w y → IsFound name (or_else v w) (or_else x y)
  inner_first name None w None y h k = k
  inner_first name None w (Some x) y h k = absurd h
  inner_first name (Some v) w None y h k = absurd h
  inner_first name (Some v) w (Some x) y h k = h

  pub found : (vs : List Visible) (ps : Scope) (name : List ℕ) → Matches e vs ps → IsFound name (innermost (seen vs) name) (innermost ps name)
  found [] [] name h = tt
  found [] (p ∷ ps) name h = absurd h
  found (v ∷ vs) [] name h = absurd h
  found (v ∷ vs) (p ∷ ps) name h =
      inner_first name (innermost (seen vs) name) (if same_bytes v.name name then Some v else None) (innermost ps name) (if same_bytes p.0 name then Some p.1 else None) (found vs ps name h.1)
      (subst (λ (n : List ℕ). IsFound name (if same_bytes v.name name then Some v else None) (if same_bytes n name then Some p.1 else None)) (sym h.0.name) (here v p name (same_bytes v.name name) refl h.0))

-- the variable of a name counts with its bits
abbrev pub IsVariable : List ℕ → Option Visible → Type 0
IsVariable name None = Unit {0}
IsVariable name (Some v) = (v.kind ≡ of_bits (wd.Bits None name) false)

either_variable : (name : List ℕ) (v w : Option Visible) → IsVariable name v → IsVariable name w → IsVariable name (or_else v w)
either_variable name None w h k = k
either_variable name (Some v) w h k = h

one_variable : (name : List ℕ) (v : Variable) (b : Bool) → same_bytes v.name name ≡ b → IsVariable name (if b then Some (record { name = v.name; kind = of_bits (wd.Bits None v.name) false; is_assignable = false }) else None)
one_variable name v true is = ap (λ n. of_bits (wd.Bits None n) false) ((bytes_decides v.name name).0 is)
one_variable name v false is = tt

pub variable_seen : (vs : List Variable) (name : List ℕ) → IsVariable name (innermost (seen (variable_names vs)) name)
variable_seen [] name = tt
variable_seen (v ∷ vs) name =
    either_variable name (innermost (seen (variable_names vs)) name) _ (variable_seen vs name) (one_variable name v (same_bytes v.name name) refl)
