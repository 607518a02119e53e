-- Values brought to a shape: a text has none.
use Rattle.std.proofs.Common.{◌≡◌, ℕ, List, Option, Some, None, Result, Ok, Err, refl, sym, ap, ◌∙◌, subst}
use Rattle.idl_tree.specs.declared.widths.Shape.{Shape}
use Rattle.idl_tree.specs.declared.widths.Shape.TheVariants as sh
use Rattle.idl_spec.specs.Values.{bits, flag, member, given_text, written_text}
use Rattle.idl_spec.specs.Values as meant
use Rattle.idl_spec.specs.Harts.{State, Outcome, done, raised, stuck, and_then, or_stuck, required}
use Rattle.idl_spec.specs.Shapes.{innermost}
use Rattle.idl_spec.specs.Settings.{Setting, Scope, Flow}
use Rattle.idl_spec.specs.Mean.{in_shape, in_shape_of, set_local}
use Rattle.idl_spec.specs.Programs as bodies
use Rattle.idl_forms.specs.declared.values.Value.{Value}
use Rattle.idl_forms.specs.declared.values.Scalar.{Scalar}
use Rattle.idl_forms.specs.declared.values.Stop.{Stop}
use Rattle.idl_forms.specs.declared.values.Stop.TheVariants.{Memory, Raised, Stuck}
use Rattle.idl_forms.specs.States.{as_value, as_scalar, scalar_step, value_if_any, or_stop, Ends, Gives, Maps}
use Rattle.idl_forms.specs.Steps.{set_word_step}
use Rattle.idl_forms.proofs.Endings.{early}

pub shape-first : (e : Setting) (shape : Shape) (v : meant.Value) (s : State) → in_shape e shape v s ≡ and_then (scalar_step v s) (in_shape e shape)
shape-first e shape (bits v) s = refl
shape-first e shape (flag x) s = refl
shape-first e shape (member k n) s = refl
shape-first e (sh.Bits signed width) (given_text x) s = refl
shape-first e sh.Boolean (given_text x) s = refl
shape-first e (sh.Enum kind) (given_text x) s = refl
shape-first e (sh.Bits signed width) (written_text x) s = refl
shape-first e sh.Boolean (written_text x) s = refl
shape-first e (sh.Enum kind) (written_text x) s = refl

-- a local's new value, once it is given
abbrev pub word_change : Scope → List ℕ → meant.Value → State → Outcome Flow
word_change scope name v s = or_stuck (innermost scope name) (λ old. or_stuck (in_shape_of old v) (λ new. set_local scope name new s))

no-shape : (x : Option meant.Value) (v : meant.Value) (next : meant.Value → Outcome Flow) → ((old : meant.Value) → in_shape_of old v ≡ None) → or_stuck x (λ old. or_stuck (in_shape_of old v) next) ≡ stuck
no-shape None v next h = refl
no-shape (Some old) v next h = ap (λ y. or_stuck y next) (h old)

no-given : (x : List ℕ) (old : meant.Value) → in_shape_of old (given_text x) ≡ None
no-given x (bits v) = refl
no-given x (flag b) = refl
no-given x (member k n) = refl
no-given x (given_text y) = refl
no-given x (written_text y) = refl

no-written : (x : List ℕ) (old : meant.Value) → in_shape_of old (written_text x) ≡ None
no-written x (bits v) = refl
no-written x (flag b) = refl
no-written x (member k n) = refl
no-written x (given_text y) = refl
no-written x (written_text y) = refl

pub word-shape : (scope : Scope) (name : List ℕ) (o : Outcome meant.Value) → set_word_step scope name o ≡ and_then (and_then o scalar_step) (word_change scope name)
word-shape scope name (done (bits v) s) = refl
word-shape scope name (done (flag x) s) = refl
word-shape scope name (done (member k n) s) = refl
word-shape scope name (done (given_text x) s) = no-shape (innermost scope name) (given_text x) (λ new. set_local scope name new s) (no-given x)
word-shape scope name (done (written_text x) s) = no-shape (innermost scope name) (written_text x) (λ new. set_local scope name new s) (no-written x)
word-shape scope name (raised code tval s) = refl
word-shape scope name stuck = refl

-- where the value and the local are known
pub word-known : (scope : Scope) (name : List ℕ) (o : Outcome meant.Value) (v old : meant.Value) (s : State) → and_then o scalar_step ≡ done v s → innermost scope name ≡ Some old → set_word_step scope name o ≡ or_stuck (in_shape_of old v) (λ new. set_local scope name new s)
word-known scope name o v old s e f =
    word-shape scope name o ∙ ap (λ (p : Outcome meant.Value). and_then p (word_change scope name)) e
    ∙ ap (λ (y : Option meant.Value). or_stuck y (λ was. or_stuck (in_shape_of was v) (λ new. set_local scope name new s))) f

-- what is required ends what is done with it
pub required-early : {A B C D : Type 0} (f : B → A) (g : C → D) (x : Option A) (next : A → Outcome D) (stop : Stop) (s : State) → Ends f (required x s) (Err stop) s → Ends g (or_stuck x next) (Err stop) s
required-early f g x next Memory s h = tt
required-early f g None next (Raised code tval) s h = absurd cc
required-early f g None next Stuck s h = refl
required-early f g (Some a) next (Raised code tval) s h = absurd cc
required-early f g (Some a) next Stuck s h = absurd cc

pub required-some : {A : Type 0} (x : Option A) (a : A) (s : State) → required x s ≡ done a s → x ≡ Some a
required-some None a s h = absurd cc
required-some (Some b) a s h = let same : b ≡ a = cc in ap Some same

-- what a function returns, from the part that is brought to its shape
pub result-early : {C : Type 0} (g : C → Option meant.Value) (e : Setting) (shape : Shape) (returned : Option Value) (part : Result Value Stop) (stop : Stop) → part ≡ or_stop returned → Maps as_scalar (λ o. and_then o (in_shape e shape)) part (Err stop)
    → (s : State) → Ends g (bodies.result e (Some shape) (value_if_any returned) s) (Err stop) s
result-early g e shape None part stop p m s =
    early as_scalar g stuck (λ (w : meant.Value) (t : State). done (Some w) t) stop s (m s stuck (subst (λ (q : Result Value Stop). Gives stuck q s) (sym p) refl))
result-early g e shape (Some v) part stop p m s =
    early as_scalar g (in_shape e shape (as_value v) s) (λ (w : meant.Value) (t : State). done (Some w) t) stop s
    (m s (done (as_value v) s) (subst (λ (q : Result Value Stop). Gives (done (as_value v) s) q s) (sym p) refl))

pub result-given : (e : Setting) (shape : Shape) (returned : Option Value) (part : Result Value Stop) (x : Scalar) → part ≡ or_stop returned → Maps as_scalar (λ o. and_then o (in_shape e shape)) part (Ok x)
    → (s : State) → bodies.result e (Some shape) (value_if_any returned) s ≡ done (Some (as_scalar x)) s
result-given e shape None part x p m s =
    let wrong : stuck ≡ done (as_scalar x) s = m s stuck (subst (λ (q : Result Value Stop). Gives stuck q s) (sym p) refl) in
    absurd cc
result-given e shape (Some v) part x p m s =
    ap (λ (o : Outcome meant.Value). and_then o (λ (w : meant.Value) (t : State). done (Some w) t))
    (m s (done (as_value v) s) (subst (λ (q : Result Value Stop). Gives (done (as_value v) s) q s) (sym p) refl))
