-- Arguments in turn, each in its declared shape.
use Rattle.std.proofs.Common.{◌≡◌, ℕ, ◌+◌, ◌<◌, ◌≤◌, List, [], ◌∷◌, ◌++◌, map, drop, length, get_or, Err, refl, sym, ap, ◌∙◌, arith}
use Rattle.std.proofs.lemmas.List.{drop_more, drop_all}
use Rattle.idl_tree.specs.declared.programs.Argument.{Argument}
use Rattle.idl_spec.specs.Values as meant
use Rattle.idl_spec.specs.Harts.{State, Outcome, done, stuck, and_then}
use Rattle.idl_spec.specs.Settings.{Setting, Scope}
use Rattle.idl_spec.specs.Mean.{in_shape}
use Rattle.idl_spec.specs.Programs.{arguments}
use Rattle.idl_forms.specs.declared.values.Value.{Value}
use Rattle.idl_forms.specs.declared.values.Scalar.{Scalar}
use Rattle.idl_forms.specs.declared.values.Stop.{Stop}
use Rattle.idl_forms.specs.States.{as_value, as_scalar, scalar_step, Ends}
use Rattle.idl_forms.proofs.Endings.{ends-same, early}
use Rattle.idl_forms.proofs.ShapeParts.{shape-first}

-- what follows the value of one argument
abbrev pub arguments_after : Setting → List Argument → List Value → ℕ → List ℕ → Scope → meant.Value → State → Outcome Scope
arguments_after e declared values at name scope w t = arguments e (drop (at + 1) declared) (map as_value (drop (at + 1) values)) (scope ++ (name, w) ∷ []) t

-- the argument at a place
pub argument-at : (e : Setting) (declared : List Argument) (values : List Value) (at : ℕ) (a : Argument) (v : Value) (scope : Scope) (s : State) → at < length declared → at < length values → a ≡ get_or declared at a → v ≡ get_or values at v
    → arguments e (drop at declared) (map as_value (drop at values)) scope s ≡ and_then (and_then (scalar_step (as_value v) s) (in_shape e a.shape)) (arguments_after e declared values at a.name scope)
argument-at e declared values at a v scope s h k p q =
    ap (λ (xs : List Argument). arguments e xs (map as_value (drop at values)) scope s) (drop_more declared at a h ∙ ap (λ (x : Argument). x ∷ drop (at + 1) declared) (sym p))
    ∙ ap (λ (ys : List Value). arguments e (a ∷ drop (at + 1) declared) (map as_value ys) scope s) (drop_more values at v k ∙ ap (λ (y : Value). y ∷ drop (at + 1) values) (sym q))
    ∙ ap (λ (o : Outcome meant.Value). and_then o (arguments_after e declared values at a.name scope)) (shape-first e a.shape (as_value v) s)

pub argument-more : (e : Setting) (declared : List Argument) (values : List Value) (at : ℕ) (a : Argument) (v : Value) (x y : Scalar) (scope : Scope) (s : State) → at < length declared → at < length values → a ≡ get_or declared at a → v ≡ get_or values at v
    → scalar_step (as_value v) s ≡ done (as_scalar x) s → in_shape e a.shape (as_scalar x) s ≡ done (as_scalar y) s
    → arguments e (drop at declared) (map as_value (drop at values)) scope s ≡ arguments e (drop (at + 1) declared) (map as_value (drop (at + 1) values)) (scope ++ (a.name, as_scalar y) ∷ []) s
argument-more e declared values at a v x y scope s h k p q d f =
    argument-at e declared values at a v scope s h k p q
    ∙ ap (λ (o : Outcome meant.Value). and_then (and_then o (in_shape e a.shape)) (arguments_after e declared values at a.name scope)) d
    ∙ ap (λ (o : Outcome meant.Value). and_then o (arguments_after e declared values at a.name scope)) f

-- a text as an argument
pub argument-text : {C : Type 0} (g : C → Scope) (e : Setting) (declared : List Argument) (values : List Value) (at : ℕ) (a : Argument) (v : Value) (scope : Scope) (stop : Stop) (s : State) → at < length declared → at < length values → a ≡ get_or declared at a → v ≡ get_or values at v
    → Ends as_scalar (scalar_step (as_value v) s) (Err stop) s → Ends g (arguments e (drop at declared) (map as_value (drop at values)) scope s) (Err stop) s
argument-text g e declared values at a v scope stop s h k p q m =
    ends-same g _ _ (Err stop) (Err stop) s (argument-at e declared values at a v scope s h k p q) refl
    (early as_scalar g (and_then (scalar_step (as_value v) s) (in_shape e a.shape)) (arguments_after e declared values at a.name scope) stop s
    (early as_scalar as_scalar (scalar_step (as_value v) s) (in_shape e a.shape) stop s m))

-- a value that isn't of its shape
pub argument-apart : {C : Type 0} (g : C → Scope) (e : Setting) (declared : List Argument) (values : List Value) (at : ℕ) (a : Argument) (v : Value) (x : Scalar) (scope : Scope) (stop : Stop) (s : State) → at < length declared → at < length values → a ≡ get_or declared at a → v ≡ get_or values at v
    → scalar_step (as_value v) s ≡ done (as_scalar x) s → Ends as_scalar (in_shape e a.shape (as_scalar x) s) (Err stop) s → Ends g (arguments e (drop at declared) (map as_value (drop at values)) scope s) (Err stop) s
argument-apart g e declared values at a v x scope stop s h k p q d m =
    ends-same g _ _ (Err stop) (Err stop) s
    (argument-at e declared values at a v scope s h k p q ∙ ap (λ (o : Outcome meant.Value). and_then (and_then o (in_shape e a.shape)) (arguments_after e declared values at a.name scope)) d) refl
    (early as_scalar g (in_shape e a.shape (as_scalar x) s) (arguments_after e declared values at a.name scope) stop s m)

-- too many values
pub too-many : (e : Setting) (declared : List Argument) (values : List Value) (at : ℕ) (scope : Scope) (s : State) → length declared ≤ at → at < length values → arguments e (drop at declared) (map as_value (drop at values)) scope s ≡ stuck
too-many e declared [] at scope s h k = absurd (omega (arith, k))
too-many e declared (v ∷ vs) at scope s h k =
    ap (λ (xs : List Argument). arguments e xs (map as_value (drop at (v ∷ vs))) scope s) (drop_all at declared h)
    ∙ ap (λ (ys : List Value). arguments e [] (map as_value ys) scope s) (drop_more (v ∷ vs) at v k)
