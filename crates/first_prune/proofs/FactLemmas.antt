-- What is known of a test and after it, variant by variant.
use Rattle.std.proofs.Common.{◌≡◌, ℕ, Bool, List, Option, None, ap, sym, subst}
use Rattle.idl_tree.specs.declared.expressions.Unary.{Unary}
use Rattle.idl_tree.specs.declared.expressions.Expr.{Expr}
use Rattle.idl_tree.specs.declared.expressions.Expr.TheVariants as v
use Rattle.idl_tree.specs.declared.expressions.Expr.TheOpen.{Expr-F}
use Rattle.idl_tree.specs.declared.expressions.Expr.TheFolds.{fold-roll-Expr, ind-Expr, map-Expr}
use Rattle.idl_tree.specs.declared.expressions.Expr.TheViews.{roll-Expr}
use Rattle.first_prune.specs.Known.{Known}
use Rattle.first_prune.specs.Pruning.{Tells, known_truth, known_after, truth_step, after_step, truth-Word, truth-Unary, after-Word, after-Unary}

-- the expression is no name
abbrev NoWord : Expr → Type 0
NoWord x = (name : List ℕ) → x ≡ v.Word name → ⊥

abbrev NoUnary : Expr → Type 0
NoUnary x = (sign : Unary) (of : Expr) → x ≡ v.Unary sign of → ⊥

module _ (known : Known) where
  abbrev Unknown : Expr → Type 0
  Unknown x = NoWord x → NoUnary x → known_truth known x ≡ None

  unknown_layer : (y : Expr-F ((e : Expr) × Unknown e)) → Unknown (roll-Expr (map-Expr ((e : Expr) × Unknown e) Expr (λ e. e.0) y))
  unfolding known_truth
  unknown_layer (Expr-F.Word name) = λ h k. absurd (h name (v.rolls-Word name))
  unknown_layer (Expr-F.Unary sign of) = λ h k. absurd (k sign of.0 (v.rolls-Unary sign of.0))
  unknown_layer y = λ h k. fold-roll-Expr (Option Bool) (truth_step known) _

  unknown_test : (x : Expr) → Unknown x
  unknown_test = ind-Expr Unknown (λ x y is. subst (λ z. Unknown (roll-Expr z)) is (unknown_layer y))

  abbrev Same : Expr → Type 0
  Same x = NoWord x → NoUnary x → (b : Bool) → known_after known x b ≡ known

  same_layer : (y : Expr-F ((e : Expr) × Same e)) → Same (roll-Expr (map-Expr ((e : Expr) × Same e) Expr (λ e. e.0) y))
  unfolding known_after
  same_layer (Expr-F.Word name) = λ h k. absurd (h name (v.rolls-Word name))
  same_layer (Expr-F.Unary sign of) = λ h k. absurd (k sign of.0 (v.rolls-Unary sign of.0))
  same_layer y = λ h k b. ap (λ (f : Tells). f b) (fold-roll-Expr Tells (after_step known) _)

  same_test : (x : Expr) → Same x
  same_test = ind-Expr Same (λ x y is. subst (λ z. Same (roll-Expr z)) is (same_layer y))

-- nothing is known of a test that is neither a name nor has a sign
pub other_truth : (known : Known) (x : Expr) → ((name : List ℕ) → x ≡ v.Word name → ⊥) → ((sign : Unary) (of : Expr) → x ≡ v.Unary sign of → ⊥) → None ≡ known_truth known x
other_truth known x h k = sym (unknown_test known x h k)

pub other_after : (known : Known) (x : Expr) (b : Bool) → ((name : List ℕ) → x ≡ v.Word name → ⊥) → ((sign : Unary) (of : Expr) → x ≡ v.Unary sign of → ⊥) → known ≡ known_after known x b
other_after known x b h k = sym (same_test known x h k b)

pub ruleset fact_laws = (truth-Word, truth-Unary, after-Word, after-Unary)
