-- Operators between two operands, what stands before `.sw_read`, and the sides of a `? :`.
use Rattle.std.proofs.Common.{◌≡◌, Bool, true, false, Result, Ok, Err, Option, None, Some, refl, sym, ap, ◌∙◌}
use Rattle.std.specs.Prelude.{option_map}
use Rattle.udb_base.specs.declared.names.Name.{Name}
use Rattle.idl_tree.specs.declared.expressions.Binary.{Binary}
use Rattle.idl_tree.specs.declared.expressions.Binary.TheVariants as b
use Rattle.idl_tree.specs.declared.expressions.Expr.{Expr}
use Rattle.idl_spec.specs.Values as meant
use Rattle.idl_spec.specs.Values.{bits, flag, member, given_text, written_text}
use Rattle.idl_spec.specs.Harts.{State, Outcome, done, raised, stuck, and_then, required}
use Rattle.idl_spec.specs.Settings.{Setting, Scope, Reading, with_flag}
use Rattle.idl_spec.specs.Forms as forms
use Rattle.idl_spec.specs.Forms.{binary, binary_reading, addressed, addressed_by, csr_word, csr_of_name}
use Rattle.idl_forms.specs.declared.scenes.Scene.{Scene}
use Rattle.idl_forms.specs.declared.values.Value.{Value}
use Rattle.idl_forms.specs.declared.values.Stop.{Stop}
use Rattle.idl_forms.specs.declared.values.Stop.TheVariants.{Memory, Raised, Stuck}
use Rattle.idl_forms.specs.declared.fields.Addressed.{Addressed}
use Rattle.idl_forms.specs.States.{as_value, Ends, Finds, Gives, Maps}
use Rattle.idl_forms.specs.Scenes.{setting_of, addressed_of}
use Rattle.idl_forms.specs.Steps.{left_step, right_step, word_step, csr_at_step}
use Rattle.idl_forms.proofs.Endings.{ends-same, early}

-- ---- two operands

-- what the left operand settles, or the operator with the right one
abbrev settle : Binary → meant.Value → (State → Outcome meant.Value) → Option Bool → State → Outcome meant.Value
settle sign x right (Some known) s = done (flag known) s
settle sign x right None s = and_then (right s) (right_step sign x)

abbrev from-left : Binary → (State → Outcome meant.Value) → meant.Value → State → Outcome meant.Value
from-left sign right x s = and_then (left_step sign x s) (settle sign x right)

flag-as : (o : Outcome meant.Value) (x : meant.Value) (sign : Binary) → ((y : meant.Value) (s : State) → right_step sign x y s ≡ with_flag (done y s) (λ z t. done (flag z) t))
    → with_flag o (λ y t. done (flag y) t) ≡ and_then o (right_step sign x)
flag-as (done y s) x sign h = sym (h y s)
flag-as (raised code tval s) x sign h = refl
flag-as stuck x sign h = refl

and-left : (o : Outcome meant.Value) (right : State → Outcome meant.Value) → forms.and_also o right ≡ and_then o (from-left b.And right)
and-left (done (bits v) s) right = refl
and-left (done (flag true) s) right = flag-as (right s) (flag true) b.And (λ y t. refl)
and-left (done (flag false) s) right = refl
and-left (done (member k n) s) right = refl
and-left (done (given_text x) s) right = refl
and-left (done (written_text x) s) right = refl
and-left (raised code tval s) right = refl
and-left stuck right = refl

or-left : (o : Outcome meant.Value) (right : State → Outcome meant.Value) → forms.or_also o right ≡ and_then o (from-left b.Or right)
or-left (done (bits v) s) right = refl
or-left (done (flag true) s) right = refl
or-left (done (flag false) s) right = flag-as (right s) (flag false) b.Or (λ y t. refl)
or-left (done (member k n) s) right = refl
or-left (done (given_text x) s) right = refl
or-left (done (written_text x) s) right = refl
or-left (raised code tval s) right = refl
or-left stuck right = refl

-- the left operand, then what it leaves open
left-first : (sign : Binary) (left right : Reading) (scope : Scope) (s : State)
    → binary_reading sign left right scope s ≡ and_then (left scope s) (from-left sign (right scope))
left-first b.And left right scope s = and-left (left scope s) (right scope)
left-first b.Or left right scope s = or-left (left scope s) (right scope)
left-first b.BitOr left right scope s = refl
left-first b.BitXor left right scope s = refl
left-first b.BitAnd left right scope s = refl
left-first b.Equal left right scope s = refl
left-first b.NotEqual left right scope s = refl
left-first b.Below left right scope s = refl
left-first b.AtMost left right scope s = refl
left-first b.Above left right scope s = refl
left-first b.AtLeast left right scope s = refl
left-first b.Left left right scope s = refl
left-first b.Right left right scope s = refl
left-first b.RightSigned left right scope s = refl
left-first b.Add left right scope s = refl
left-first b.Sub left right scope s = refl
left-first b.WideAdd left right scope s = refl
left-first b.WideSub left right scope s = refl
left-first b.Mul left right scope s = refl
left-first b.WideMul left right scope s = refl
left-first b.Div left right scope s = refl
left-first b.Rem left right scope s = refl

after-left : (sign : Binary) (left right : Reading) (scope : Scope) (s t : State) (x : meant.Value) → left scope s ≡ done x t
    → binary_reading sign left right scope s ≡ from-left sign (right scope) x t
after-left sign left right scope s t x e =
    left-first sign left right scope s ∙ ap (λ (o : Outcome meant.Value). and_then o (from-left sign (right scope))) e

pub left-stops : (sign : Binary) (left right : Reading) (scope : Scope) (s t : State) (x : meant.Value) (stop : Stop) (r : Result Value Stop)
    → left scope s ≡ done x t → Finds (λ (k : Option Bool). k) (left_step sign x) (Err stop) → r ≡ Err stop
    → Gives (binary_reading sign left right scope s) r t
left-stops sign left right scope s t x stop r e h d =
    ends-same as_value (binary_reading sign left right scope s) (from-left sign (right scope) x t) r (Err stop) t
    (after-left sign left right scope s t x e) d (early (λ (k : Option Bool). k) as_value (left_step sign x t) (settle sign x (right scope)) stop t (h t))

pub left-settles : (sign : Binary) (left right : Reading) (scope : Scope) (s t : State) (x : meant.Value) (known : Bool) (r : Result Value Stop)
    → left scope s ≡ done x t → Finds (λ (k : Option Bool). k) (left_step sign x) (Ok (Some known)) → Finds as_value (done (flag known)) r
    → Gives (binary_reading sign left right scope s) r t
left-settles sign left right scope s t x known r e h k =
    ends-same as_value (binary_reading sign left right scope s) (done (flag known) t) r r t
    (after-left sign left right scope s t x e ∙ ap (λ (o : Outcome (Option Bool)). and_then o (settle sign x (right scope))) (h t)) refl (k t)

pub right-counts : (sign : Binary) (left right : Reading) (scope : Scope) (s t z : State) (x : meant.Value) (p r : Result Value Stop)
    → left scope s ≡ done x t → Finds (λ (k : Option Bool). k) (left_step sign x) (Ok None) → Gives (right scope t) p z
    → Maps as_value (λ o. and_then o (right_step sign x)) p r → Gives (binary_reading sign left right scope s) r z
right-counts sign left right scope s t z x p r e h g k =
    ends-same as_value (binary_reading sign left right scope s) (and_then (right scope t) (right_step sign x)) r r z
    (after-left sign left right scope s t x e ∙ ap (λ (o : Outcome (Option Bool)). and_then o (settle sign x (right scope))) (h t)) refl (k z (right scope t) g)

-- ---- a truth value

flag-next : {A : Type 0} (o : Outcome meant.Value) (next : Bool → State → Outcome A) → with_flag o next ≡ and_then (with_flag o done) next
flag-next (done (bits v) s) next = refl
flag-next (done (flag x) s) next = refl
flag-next (done (member k n) s) next = refl
flag-next (done (given_text x) s) next = refl
flag-next (done (written_text x) s) next = refl
flag-next (raised code tval s) next = refl
flag-next stuck next = refl

pub flag-given : {A : Type 0} (o : Outcome meant.Value) (next : Bool → State → Outcome A) (x : Bool) (s : State) → with_flag o done ≡ done x s → with_flag o next ≡ next x s
flag-given o next x s e = flag-next o next ∙ ap (λ (p : Outcome Bool). and_then p next) e

-- ---- what stands before `.sw_read`

word-stop : (x : Option forms.Addressed) (stop : Stop) (s : State)
    → Ends (option_map addressed_of) (and_then (required x s) (λ a t. done (Some a) t)) (Err stop) s → Ends addressed_of (required x s) (Err stop) s
word-stop None Memory s h = tt
word-stop None (Raised code tval) s h = absurd (cc)
word-stop None Stuck s h = refl
word-stop (Some a) Memory s h = tt
word-stop (Some a) (Raised code tval) s h = absurd (cc)
word-stop (Some a) Stuck s h = absurd (cc)

by-stop : (e : Setting) (w : Option Name) (reading : Reading) (scope : Scope) (stop : Stop) (s : State)
    → Ends (option_map addressed_of) (word_step e w s) (Err stop) s → Ends addressed_of (addressed_by e w reading scope s) (Err stop) s
by-stop e (Some name) reading scope stop s h = word-stop (csr_of_name e name) stop s h
by-stop e None reading scope Memory s h = tt
by-stop e None reading scope (Raised code tval) s h = absurd (cc)
by-stop e None reading scope Stuck s h = absurd (cc)

word-found : (x : Option forms.Addressed) (one : forms.Addressed) (s : State)
    → and_then (required x s) (λ a t. done (Some a) t) ≡ done (Some one) s → required x s ≡ done one s
word-found None one s h = absurd (cc)
word-found (Some a) one s h = cc

by-found : (e : Setting) (w : Option Name) (reading : Reading) (scope : Scope) (one : forms.Addressed) (s : State)
    → word_step e w s ≡ done (Some one) s → addressed_by e w reading scope s ≡ done one s
by-found e (Some name) reading scope one s h = word-found (csr_of_name e name) one s h
by-found e None reading scope one s h = absurd (cc)

named-lost : (x : Option forms.Addressed) (s : State) → and_then (required x s) (λ a t. done (Some a) t) ≡ done None s → ⊥
named-lost None s h = cc
named-lost (Some a) s h = cc

by-address : (e : Setting) (w : Option Name) (reading : Reading) (scope : Scope) (s : State)
    → word_step e w s ≡ done None s → addressed_by e w reading scope s ≡ csr_at_step e (reading scope s)
by-address e None reading scope s h = refl
by-address e (Some name) reading scope s h = absurd (named-lost (csr_of_name e name) s h)

-- software reads where the scene is loud
loud-addressed : (c : Scene) (address : Expr) (reading : Reading) (scope : Scope) (s : State) → c.loud ≡ true
    → addressed (setting_of c) address reading scope s ≡ addressed_by (setting_of c) (csr_word (setting_of c) scope address) reading scope s
loud-addressed c address reading scope s l = rw l refl

pub address-stops : (c : Scene) (address : Expr) (reading : Reading) (scope : Scope) (s : State) (stop : Stop) (r : Result Addressed Stop) → c.loud ≡ true
    → Finds (option_map addressed_of) (word_step (setting_of c) (csr_word (setting_of c) scope address)) (Err stop) → r ≡ Err stop
    → Ends addressed_of (addressed (setting_of c) address reading scope s) r s
address-stops c address reading scope s stop r l h d =
    let w = csr_word (setting_of c) scope address in
    ends-same addressed_of (addressed (setting_of c) address reading scope s) (addressed_by (setting_of c) w reading scope s) r (Err stop) s
    (loud-addressed c address reading scope s l) d (by-stop (setting_of c) w reading scope stop s (h s))

pub address-found : (c : Scene) (address : Expr) (reading : Reading) (scope : Scope) (s : State) (one : Addressed) → c.loud ≡ true
    → Finds (option_map addressed_of) (word_step (setting_of c) (csr_word (setting_of c) scope address)) (Ok (Some one))
    → addressed (setting_of c) address reading scope s ≡ done (addressed_of one) s
address-found c address reading scope s one l h =
    loud-addressed c address reading scope s l ∙ by-found (setting_of c) (csr_word (setting_of c) scope address) reading scope (addressed_of one) s (h s)

pub address-read : (c : Scene) (address : Expr) (reading : Reading) (scope : Scope) (s t : State) (p : Result Value Stop) (r : Result Addressed Stop) → c.loud ≡ true
    → Finds (option_map addressed_of) (word_step (setting_of c) (csr_word (setting_of c) scope address)) (Ok None)
    → Gives (reading scope s) p t → Maps addressed_of (csr_at_step (setting_of c)) p r
    → Ends addressed_of (addressed (setting_of c) address reading scope s) r t
address-read c address reading scope s t p r l h g k =
    ends-same addressed_of (addressed (setting_of c) address reading scope s) (csr_at_step (setting_of c) (reading scope s)) r r t
    (loud-addressed c address reading scope s l ∙ by-address (setting_of c) (csr_word (setting_of c) scope address) reading scope s (h s)) refl
    (k t (reading scope s) g)
