-- What is shown of statements, variant by variant and part by part.
use Rattle.std.proofs.Common.{◌≡◌, ℕ, Bool, true, false, List, [], ◌∷◌, ◌++◌, Option, None, Some, map, ap, sym, subst, ◌∙◌, refl, append_assoc, append-nil, take}
use Rattle.idl_tree.specs.declared.expressions.Expr.{Expr}
use Rattle.idl_tree.specs.declared.statements.Stmt.{Stmt}
use Rattle.idl_tree.specs.declared.statements.Stmt.TheVariants as v
use Rattle.idl_tree.specs.declared.statements.Stmt.TheOpen.{Stmt-F}
use Rattle.idl_tree.specs.declared.statements.Stmt.TheFolds.{ind-Stmt, map-Stmt}
use Rattle.idl_tree.specs.declared.statements.Stmt.TheViews.{roll-Stmt}
use Rattle.first_prune.specs.Known.{Known}
use Rattle.first_prune.specs.Pruning.{Prunes, prunes, pruned, pruned_if, known_truth, known_after, pruned_one, prune_step, pruned-Declare, pruned-Assign, pruned-Block, pruned-Return, pruned-If, pruned-For, pruned-Jump, pruned-Raise, pruned-WriteMemory, pruned-SoftWrite, pruned-Call}

pub pruned-append : (known : Known) (a b : List Stmt) → pruned known (a ++ b) ≡ pruned known a ++ pruned known b
pruned-append known [] b = refl
pruned-append known (x ∷ xs) b = ap (λ (ys : List Stmt). pruned_one x known ++ ys) (pruned-append known xs b) ∙ sym (append_assoc (pruned_one x known) (pruned known xs) (pruned known b))

module _ (known : Known) where
  abbrev pub Stays : Stmt → Type 0
  Stays x = ((ss : List Stmt) → x ≡ v.Block ss → ⊥) → ((test : Expr) (taken : List Stmt) (other : Option (List Stmt)) → x ≡ v.If test taken other → ⊥) → pruned_one x known ≡ x ∷ []

  stays_layer : (y : Stmt-F ((e : Stmt) × Stays e)) → Stays (roll-Stmt (map-Stmt ((e : Stmt) × Stays e) Stmt (λ e. e.0) y))
  stays_layer (Stmt-F.Block ss) = λ h k. absurd (h _ (v.rolls-Block _))
  stays_layer (Stmt-F.If test taken None) = λ h k. absurd (k test (map (λ e. e.0) taken) None (v.rolls-If test (map (λ e. e.0) taken) None))
  stays_layer (Stmt-F.If test taken (Some other)) = λ h k. absurd (k test (map (λ e. e.0) taken) (Some (map (λ e. e.0) other)) (v.rolls-If test (map (λ e. e.0) taken) (Some (map (λ e. e.0) other))))
  stays_layer (Stmt-F.Declare shape name value) = λ h k. subst (λ x. pruned_one x known ≡ x ∷ []) (sym (v.rolls-Declare shape name value)) (pruned-Declare shape name value known)
  stays_layer (Stmt-F.Assign target value) = λ h k. subst (λ x. pruned_one x known ≡ x ∷ []) (sym (v.rolls-Assign target value)) (pruned-Assign target value known)
  stays_layer (Stmt-F.Return value) = λ h k. subst (λ x. pruned_one x known ≡ x ∷ []) (sym (v.rolls-Return value)) (pruned-Return value known)
  stays_layer (Stmt-F.For name from to ss) = λ h k. subst (λ x. pruned_one x known ≡ x ∷ []) (sym (v.rolls-For name from to _)) (pruned-For name from to _ known)
  stays_layer (Stmt-F.Jump value) = λ h k. subst (λ x. pruned_one x known ≡ x ∷ []) (sym (v.rolls-Jump value)) (pruned-Jump value known)
  stays_layer (Stmt-F.Raise code tval) = λ h k. subst (λ x. pruned_one x known ≡ x ∷ []) (sym (v.rolls-Raise code tval)) (pruned-Raise code tval known)
  stays_layer (Stmt-F.WriteMemory count at value) = λ h k. subst (λ x. pruned_one x known ≡ x ∷ []) (sym (v.rolls-WriteMemory count at value)) (pruned-WriteMemory count at value known)
  stays_layer (Stmt-F.SoftWrite address value) = λ h k. subst (λ x. pruned_one x known ≡ x ∷ []) (sym (v.rolls-SoftWrite address value)) (pruned-SoftWrite address value known)
  stays_layer (Stmt-F.Call name args) = λ h k. subst (λ x. pruned_one x known ≡ x ∷ []) (sym (v.rolls-Call name args)) (pruned-Call name args known)

  pub stays : (x : Stmt) → Stays x
  stays = ind-Stmt Stays (λ x y is. subst (λ z. Stays (roll-Stmt z)) is (stays_layer y))

pub ruleset pruning_laws = (pruned-Block, pruned-If, append-nil)

-- an open `if` with its other block
pub shown_open : (known after before : Known) (x : Stmt) (test : Expr) (taken other shown rest : List Stmt) → x ≡ v.If test taken (Some other) → None ≡ known_truth known test → after ≡ known_after known test true → before ≡ known_after known test false → shown ≡ pruned after taken → rest ≡ pruned before other → pruned_one x known ≡ v.If test shown (Some rest) ∷ []
shown_open known after before x test taken other shown rest is unknown a b y n =
    ap (λ (z : Stmt). pruned_one z known) is
    ∙ (pruned-If test taken (Some other) known
    ∙ (ap (λ (o : Option Bool). pruned_if o known test (prunes taken) (Some (prunes other))) (sym unknown)
    ∙ (ap (λ (ys : List Stmt). v.If test ys (Some (pruned (known_after known test false) other)) ∷ []) (sym (y ∙ ap (λ (k : Known). pruned k taken) a))
    ∙ ap (λ (ys : List Stmt). v.If test shown (Some ys) ∷ []) (sym (n ∙ ap (λ (k : Known). pruned k other) b)))))
