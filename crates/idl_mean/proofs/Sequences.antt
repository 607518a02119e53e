-- What is done in turn: from what is left to do at a place of a list.
use Rattle.std.proofs.Common.{◌≡◌, ℕ, suc, ◌+◌, ◌-◌, ◌<◌, List, [], ◌∷◌, ◌++◌, Err, Option, refl, sym, ap, ◌∙◌, arith}
use Rattle.std.proofs.lemmas.List.{append_assoc}
use Rattle.idl_bits.specs.BitVector.{BitVector}
use Rattle.idl_bits.specs.Operators.{unsigned_of, join_of}
use Rattle.idl_spec.specs.Values as meant
use Rattle.idl_spec.specs.Values.{bits, flag, member, given_text, written_text}
use Rattle.idl_spec.specs.Harts.{State, Outcome, done, raised, stuck, and_then}
use Rattle.idl_spec.specs.Settings.{Scope, Reading, Change, Flow, goes_on, returns, with_bits}
use Rattle.idl_spec.specs.Forms.{values_in_turn, joined, joined_onto}
use Rattle.idl_spec.specs.Mean.{in_turn, onward, turns}
use Rattle.idl_forms.specs.declared.values.Stop.{Stop}
use Rattle.idl_forms.specs.declared.values.Value.{Value}
use Rattle.idl_forms.specs.States.{as_value, Ends, Gives}
use Rattle.idl_forms.specs.Steps.{behind, side_by_side}
use Rattle.idl_forms.proofs.Endings.{ends-same, early, bits-given}
use Rattle.idl_mean.specs.Flows.{one_turn}

-- ---- outcomes

-- what is done next is the same from each end
pub next-same : {A B : Type 0} (o : Outcome A) (f g : A → State → Outcome B) → ((a : A) (s : State) → f a s ≡ g a s) → and_then o f ≡ and_then o g
next-same (done a s) f g h = h a s
next-same (raised code tval s) f g h = refl
next-same stuck f g h = refl

pub next-assoc : {A B C : Type 0} (o : Outcome A) (f : A → State → Outcome B) (g : B → State → Outcome C) → and_then (and_then o f) g ≡ and_then o (λ a s. and_then (f a s) g)
next-assoc (done a s) f g = refl
next-assoc (raised code tval s) f g = refl
next-assoc stuck f g = refl

-- ---- the values of arguments

abbrev pub values_behind : {A : Type 0} → List A → Outcome (List A) → Outcome (List A)
values_behind vs o = and_then o (λ more s. done (vs ++ more) s)

begin-with : {A : Type 0} (o : Outcome (List A)) → o ≡ values_behind [] o
begin-with (done vs t) = refl
begin-with (raised code tval t) = refl
begin-with stuck = refl

pub values-begin : (rs : List Reading) (scope : Scope) (s : State) → values_in_turn rs scope s ≡ values_behind [] (values_in_turn rs scope s)
values-begin rs scope s = begin-with (values_in_turn rs scope s)

pub values-more : (r : Reading) (rs : List Reading) (vs : List meant.Value) (v : meant.Value) (scope : Scope) (s t : State)
    → r scope s ≡ done v t → values_behind vs (values_in_turn (r ∷ rs) scope s) ≡ values_behind (vs ++ v ∷ []) (values_in_turn rs scope t)
values-more r rs vs v scope s t e =
    ap (λ (o : Outcome meant.Value). values_behind vs (and_then o (λ w z. and_then (values_in_turn rs scope z) (λ ws q. done (w ∷ ws) q)))) e
    ∙ next-assoc (values_in_turn rs scope t) (λ ws q. done (v ∷ ws) q) (λ more q. done (vs ++ more) q)
    ∙ next-same (values_in_turn rs scope t) (λ ws q. done (vs ++ v ∷ ws) q) (λ ws q. done ((vs ++ v ∷ []) ++ ws) q)
    (λ ws q. ap (λ (all : List meant.Value). done all q) (sym (append_assoc vs (v ∷ []) ws)))

-- ---- bits side by side

abbrev pub onto : BitVector → List BitVector → List Reading → Scope → State → Outcome meant.Value
onto v [] rs scope s = joined_onto v rs scope s
onto v (w ∷ ws) rs scope s = onto (join_of v w) ws rs scope s

abbrev pub bits_behind : List BitVector → List Reading → Scope → State → Outcome meant.Value
bits_behind [] rs scope s = joined rs scope s
bits_behind (v ∷ vs) rs scope s = onto (unsigned_of v) vs rs scope s

bits-next : {A : Type 0} (o : Outcome meant.Value) (next : BitVector → State → Outcome A) → with_bits o next ≡ and_then (with_bits o done) next
bits-next (done (bits v) s) next = refl
bits-next (done (flag x) s) next = refl
bits-next (done (member k n) s) next = refl
bits-next (done (given_text x) s) next = refl
bits-next (done (written_text x) s) next = refl
bits-next (raised code tval s) next = refl
bits-next stuck next = refl

-- a part that isn't bits ends what is done with it
pub bits-early : {C D : Type 0} (g : C → D) (o : Outcome meant.Value) (next : BitVector → State → Outcome D) (stop : Stop) (s : State)
    → Ends (λ (b : BitVector). b) (with_bits o done) (Err stop) s → Ends g (with_bits o next) (Err stop) s
bits-early g o next stop s h =
    ends-same g (with_bits o next) (and_then (with_bits o done) next) (Err stop) (Err stop) s (bits-next o next) refl
    (early (λ (b : BitVector). b) g (with_bits o done) next stop s h)

onto-more : (u : BitVector) (ws : List BitVector) (r : Reading) (rs : List Reading) (v : BitVector) (scope : Scope) (s t : State)
    → with_bits (r scope s) done ≡ done v t → onto u ws (r ∷ rs) scope s ≡ onto u (ws ++ v ∷ []) rs scope t
onto-more u [] r rs v scope s t e = bits-given (r scope s) (λ w z. joined_onto (join_of u w) rs scope z) v t e
onto-more u (w ∷ ws) r rs v scope s t e = onto-more (join_of u w) ws r rs v scope s t e

pub bits-more : (vs : List BitVector) (r : Reading) (rs : List Reading) (v : BitVector) (scope : Scope) (s t : State)
    → with_bits (r scope s) done ≡ done v t → bits_behind vs (r ∷ rs) scope s ≡ bits_behind (vs ++ v ∷ []) rs scope t
bits-more [] r rs v scope s t e = bits-given (r scope s) (λ w z. joined_onto (unsigned_of w) rs scope z) v t e
bits-more (w ∷ ws) r rs v scope s t e = onto-more (unsigned_of w) ws r rs v scope s t e

onto-early : (u : BitVector) (ws : List BitVector) (r : Reading) (rs : List Reading) (scope : Scope) (stop : Stop) (s t : State)
    → Ends (λ (b : BitVector). b) (with_bits (r scope s) done) (Err stop) t → Gives (onto u ws (r ∷ rs) scope s) (Err stop) t
onto-early u [] r rs scope stop s t h = bits-early as_value (r scope s) (λ w z. joined_onto (join_of u w) rs scope z) stop t h
onto-early u (w ∷ ws) r rs scope stop s t h = onto-early (join_of u w) ws r rs scope stop s t h

pub bits-stop : (vs : List BitVector) (r : Reading) (rs : List Reading) (scope : Scope) (stop : Stop) (s t : State)
    → Ends (λ (b : BitVector). b) (with_bits (r scope s) done) (Err stop) t → Gives (bits_behind vs (r ∷ rs) scope s) (Err stop) t
bits-stop [] r rs scope stop s t h = bits-early as_value (r scope s) (λ w z. joined_onto (unsigned_of w) rs scope z) stop t h
bits-stop (w ∷ ws) r rs scope stop s t h = onto-early (unsigned_of w) ws r rs scope stop s t h

onto-all : (u : BitVector) (ws : List BitVector) (scope : Scope) (s : State) → onto u ws [] scope s ≡ behind u ws s
onto-all u [] scope s = refl
onto-all u (w ∷ ws) scope s = onto-all (join_of u w) ws scope s

pub bits-all : (vs : List BitVector) (scope : Scope) (s : State) → bits_behind vs [] scope s ≡ side_by_side vs s
bits-all [] scope s = refl
bits-all (v ∷ vs) scope s = onto-all (unsigned_of v) vs scope s

-- ---- statements

pub turn-goes-on : (c : Change) (cs : List Change) (scope after : Scope) (s t : State)
    → c scope s ≡ done (goes_on after) t → in_turn (c ∷ cs) scope s ≡ in_turn cs after t
turn-goes-on c cs scope after s t e = ap (λ (o : Outcome Flow). and_then o (onward (in_turn cs))) e

pub turn-returns : (c : Change) (cs : List Change) (scope : Scope) (v : meant.Value) (s t : State)
    → c scope s ≡ done (returns v) t → in_turn (c ∷ cs) scope s ≡ done (returns v) t
turn-returns c cs scope v s t e = ap (λ (o : Outcome Flow). and_then o (onward (in_turn cs))) e

-- ---- loops

one-more : (high at : ℕ) → at < high → high - at ≡ suc (high - (at + 1))
one-more high at l = omega arith

turns-open : (name : List ℕ) (cs : List Change) (high at : ℕ) (scope : Scope) (s : State) → at < high
    → turns name cs (high - at) at scope s ≡ and_then (one_turn name cs at scope s) (onward (turns name cs (high - (at + 1)) (at + 1)))
turns-open name cs high at scope s l = ap (λ (n : ℕ). turns name cs n at scope s) (one-more high at l)

pub turns-go-on : (name : List ℕ) (cs : List Change) (high at : ℕ) (scope after : Scope) (s t : State) → at < high
    → one_turn name cs at scope s ≡ done (goes_on after) t
    → turns name cs (high - at) at scope s ≡ turns name cs (high - (at + 1)) (at + 1) after t
turns-go-on name cs high at scope after s t l e =
    turns-open name cs high at scope s l ∙ ap (λ (o : Outcome Flow). and_then o (onward (turns name cs (high - (at + 1)) (at + 1)))) e

pub turns-return : (name : List ℕ) (cs : List Change) (high at : ℕ) (scope : Scope) (v : meant.Value) (s t : State) → at < high
    → one_turn name cs at scope s ≡ done (returns v) t → turns name cs (high - at) at scope s ≡ done (returns v) t
turns-return name cs high at scope v s t l e =
    turns-open name cs high at scope s l ∙ ap (λ (o : Outcome Flow). and_then o (onward (turns name cs (high - (at + 1)) (at + 1)))) e

pub turns-stop : {A : Type 0} (f : A → Flow) (name : List ℕ) (cs : List Change) (high at : ℕ) (scope : Scope) (g : Option Value → Flow) (stop : Stop) (s t : State) → at < high
    → Ends g (one_turn name cs at scope s) (Err stop) t → Ends f (turns name cs (high - at) at scope s) (Err stop) t
turns-stop f name cs high at scope g stop s t l h =
    ends-same f (turns name cs (high - at) at scope s) (and_then (one_turn name cs at scope s) (onward (turns name cs (high - (at + 1)) (at + 1)))) (Err stop) (Err stop) t
    (turns-open name cs high at scope s l) refl
    (early g f (one_turn name cs at scope s) (onward (turns name cs (high - (at + 1)) (at + 1))) stop t h)
