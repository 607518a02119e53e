-- What a pass knows after each node.
use Rattle.std.proofs.Common.{◌≡◌, ◌⊎◌, ◌∙◌, inl, inr, ℕ, ◌+◌, ◌<◌, ◌≤◌, List, Some, length, arith, sym, ap, subst}
use Rattle.std.specs.Prelude.{slice_get}
use Rattle.std.proofs.lemmas.Option.{slice_get_within}
use Rattle.idl_spec.specs.Demands.{Check}
use Rattle.idl_spec.specs.Faults.{Fault, node_number}
use Rattle.idl_types.specs.Passes.{NoneOf, NoneBefore, IsFirstOf}

pub last-or-before : (i n : ℕ) → i < n + 1 → (i < n) ⊎ (i ≡ n)
last-or-before i n h = grind arith

pub some-same : {X : Type 0} (x y : X) → Some x ≡ Some y → x ≡ y
some-same x y e = cc

module _ (Shows : Fault → Check → Type 0) (checks : List Check) where
  pub before-first : NoneBefore Shows checks 0
  before-first = record { none = λ f one lt at shown. absurd (omega (arith, lt)) }

  pub one-more : (node : ℕ) (one : Check) → slice_get checks node ≡ Some one → ((f : Fault) → Shows f one → ⊥) → NoneBefore Shows checks node → NoneBefore Shows checks (node + 1)
  one-more node one at none before = record {
    none = λ f other lt is shown. by f other is shown (last-or-before (node_number f) node lt);
  } where
    by : (f : Fault) (other : Check) → slice_get checks (node_number f) ≡ Some other → Shows f other → (node_number f < node) ⊎ (node_number f ≡ node) → ⊥
    by f other is shown (inl lt) = before.none f other lt is shown
    by f other is shown (inr same) =
        none f (subst (Shows f) (some-same other one (sym is ∙ (ap (slice_get checks) same ∙ at))) shown)

  pub none-left : (count : ℕ) → length checks ≤ count → NoneBefore Shows checks count → NoneOf Shows checks
  none-left count long before = λ f one at shown.
      let lt : node_number f < length checks = slice_get_within checks (node_number f) one at in
      before.none f one (omega (arith, lt, long)) at shown

  pub first-here : (node : ℕ) (one : Check) (f : Fault) → node_number f ≡ node → slice_get checks node ≡ Some one → Shows f one → NoneBefore Shows checks node → IsFirstOf Shows checks f
  first-here node one f same at shown before = record {
    one = one;
    at = ap (slice_get checks) same ∙ at;
    shown = shown;
    first = subst (NoneBefore Shows checks) (sym same) before;
  }
