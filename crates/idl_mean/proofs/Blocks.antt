-- Blocks and turns: what is declared inside is gone outside.
use Rattle.std.proofs.Common.{◌≡◌, ℕ, suc, List, [], ◌∷◌, ◌++◌, take, drop, length, Option, None, Some, refl, sym, ap, ◌∙◌, arith}
use Rattle.std.proofs.lemmas.List.{take-map, append-nil, take_all}
use Rattle.std.proofs.Math.ListN.{drop_of_length-le}
use Rattle.idl_spec.specs.Values.{bits, plain}
use Rattle.idl_spec.specs.Harts.{State, Outcome, done, and_then}
use Rattle.idl_spec.specs.Settings.{Scope, Change, Flow, goes_on}
use Rattle.idl_spec.specs.Mean.{in_turn, leaving, block, declared}
use Rattle.idl_forms.specs.declared.values.Local.{Local}
use Rattle.idl_forms.specs.declared.values.Value.{Value}
use Rattle.idl_forms.specs.States.{as_scalar, scope_of}
use Rattle.idl_mean.specs.Flows.{flow_of, one_turn}

-- the flow behind a block
pub leaving-flow : (count : ℕ) (inside : List Local) (v : Option Value) (t : State) → leaving count (flow_of inside v) t ≡ done (flow_of (take count inside) v) t
leaving-flow count inside None t = ap (λ (scope : Scope). done (goes_on scope) t) (take-map (λ (l : Local). (l.name, as_scalar l.value)) count inside)
leaving-flow count inside (Some v) t = refl

scope-length : (scope : List Local) → length (scope_of scope) ≡ length scope
scope-length [] = refl
scope-length (l ∷ scope) = ap suc (scope-length scope)

pub block-ends : (cs : List Change) (before inside after : List Local) (v : Option Value) (count : ℕ) (s t : State)
    → count ≡ length before → after ≡ take count inside → in_turn cs (scope_of before) s ≡ done (flow_of inside v) t
    → block cs (scope_of before) s ≡ done (flow_of after v) t
block-ends cs before inside after v count s t n k h =
    let same : length (scope_of before) ≡ count = scope-length before ∙ sym n in
    ap (λ (o : Outcome Flow). and_then o (leaving (length (scope_of before)))) h
    ∙ ap (λ (m : ℕ). leaving m (flow_of inside v) t) same
    ∙ leaving-flow count inside v t
    ∙ ap (λ (scope : List Local). done (flow_of scope v) t) (sym k)

pub turn-ends : (name : List ℕ) (cs : List Change) (counter : ℕ) (before begun inside after : List Local) (v : Option Value) (count : ℕ) (s t : State)
    → count ≡ length before → scope_of begun ≡ declared (scope_of before) name (bits (plain 32 counter)) → after ≡ take count inside
    → in_turn cs (scope_of begun) s ≡ done (flow_of inside v) t
    → one_turn name cs counter (scope_of before) s ≡ done (flow_of after v) t
turn-ends name cs counter before begun inside after v count s t n d k h =
    let same : length (scope_of before) ≡ count = scope-length before ∙ sym n in
    ap (λ (scope : Scope). and_then (in_turn cs scope s) (leaving (length (scope_of before)))) (sym d)
    ∙ ap (λ (o : Outcome Flow). and_then o (leaving (length (scope_of before)))) h
    ∙ ap (λ (m : ℕ). leaving m (flow_of inside v) t) same
    ∙ leaving-flow count inside v t
    ∙ ap (λ (scope : List Local). done (flow_of scope v) t) (sym k)

-- a whole list that was written through a slice
pub written-back : {X : Type 0} (n : ℕ) (xs ys : List X) → length xs ≡ n → length ys ≡ n → take n (xs ++ drop (length xs) ys) ≡ xs
written-back {X = X} n xs ys e d =
    let none : drop (length xs) ys ≡ [] = drop_of_length-le ys (omega arith) in
    ap (λ (zs : List X). take n (xs ++ zs)) none ∙ ap (take n) (append-nil xs) ∙ take_all n xs (omega arith)
