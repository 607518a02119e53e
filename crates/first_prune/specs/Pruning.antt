-- What is shown of statements where truth values of names are known: an `if` whose test is known
-- becomes the block that is taken, in its own scope, or nothing.
use Rattle.std.specs.Prelude.{◌≡◌, ◌++◌, Bool, true, false, not, ℕ, List, [], ◌∷◌, map, Option, None, Some, refl}
use Rattle.std.specs.Option.{option_map}
use Rattle.std.proofs.Common.{ap, ◌∙◌}
use Rattle.idl_tree.specs.declared.widths.Width.{Width}
use Rattle.idl_tree.specs.declared.widths.Shape.{Shape}
use Rattle.idl_tree.specs.declared.expressions.Unary.{Unary}
use Rattle.idl_tree.specs.declared.expressions.Unary.TheVariants.{Not}
use Rattle.idl_tree.specs.declared.expressions.Expr.{Expr}
use Rattle.idl_tree.specs.declared.expressions.Expr.TheVariants as e
use Rattle.idl_tree.specs.declared.expressions.Expr.TheOpen.{Expr-F}
use Rattle.idl_tree.specs.declared.expressions.Expr.TheFolds.{fold-Expr}
use Rattle.idl_tree.specs.declared.statements.Target.{Target}
use Rattle.idl_tree.specs.declared.statements.Stmt.{Stmt}
use Rattle.idl_tree.specs.declared.statements.Stmt.TheVariants as s
use Rattle.idl_tree.specs.declared.statements.Stmt.TheOpen.{Stmt-F}
use Rattle.idl_tree.specs.declared.statements.Stmt.TheFolds.{para-Stmt}
use Rattle.idl_tree.specs.ExprLaws.{fold-Expr-Word, fold-Expr-Unary}
use Rattle.idl_tree.specs.StmtLaws.{para-Stmt-Declare, para-Stmt-Assign, para-Stmt-Block, para-Stmt-Return, para-Stmt-If, para-Stmt-For, para-Stmt-Jump, para-Stmt-Raise, para-Stmt-WriteMemory, para-Stmt-SoftWrite, para-Stmt-Call}
use Rattle.first_prune.specs.Known.{Known, look}

abbrev pub truth_under : Unary → Option Bool → Option Bool
truth_under Not of = option_map not of
truth_under _ of = None

abbrev pub truth_step : Known → Expr-F (Option Bool) → Option Bool
truth_step known (Expr-F.Word name) = look known name
truth_step known (Expr-F.Unary sign of) = truth_under sign of
truth_step known _ = None

-- the truth value that is known of a test: of a name what is known of it, of `!` the other one
unfoldable pub known_truth : Known → Expr → Option Bool
known_truth known = fold-Expr (Option Bool) (truth_step known)

-- what is known where a test has a truth value
abbrev pub Tells : Type 0
Tells = Bool → Known

abbrev pub after_under : Known → Unary → Tells → Tells
after_under known Not of b = of (not b)
after_under known _ of b = known

abbrev pub after_step : Known → Expr-F Tells → Tells
after_step known (Expr-F.Word name) b = (name, b) ∷ known
after_step known (Expr-F.Unary sign of) b = after_under known sign of b
after_step known _ b = known

unfoldable pub known_after : Known → Expr → Tells
known_after known = fold-Expr Tells (after_step known)

-- what is shown of a statement or of statements
abbrev pub Prunes : Type 0
Prunes = Known → List Stmt

-- statements in their order, each beside what is shown of it
abbrev pub in_order : List (Stmt × Prunes) → Prunes
in_order [] known = []
in_order (p ∷ ps) known = p.1 known ++ in_order ps known

abbrev pub open_if : Known → Expr → Prunes → Option Prunes → Stmt
open_if known test taken None = s.If test (taken (known_after known test true)) None
open_if known test taken (Some other) = s.If test (taken (known_after known test true)) (Some (other (known_after known test false)))

abbrev pub if_any : Known → Option Prunes → List Stmt
if_any known None = []
if_any known (Some block) = s.Block (block known) ∷ []

-- the block that is taken, or both where the test isn't known
abbrev pub pruned_if : Option Bool → Known → Expr → Prunes → Option Prunes → List Stmt
pruned_if (Some true) known test taken other = if_any known (Some taken)
pruned_if (Some false) known test taken other = if_any known other
pruned_if None known test taken other = open_if known test taken other ∷ []

abbrev pub prune_step : Stmt-F (Stmt × Prunes) → Prunes
prune_step (Stmt-F.Declare shape name value) known = s.Declare shape name value ∷ []
prune_step (Stmt-F.Assign target value) known = s.Assign target value ∷ []
prune_step (Stmt-F.Block ps) known = s.Block (in_order ps known) ∷ []
prune_step (Stmt-F.Return value) known = s.Return value ∷ []
prune_step (Stmt-F.If test taken other) known = pruned_if (known_truth known test) known test (in_order taken) (option_map in_order other)
prune_step (Stmt-F.For name from to ps) known = s.For name from to (map (λ p. p.0) ps) ∷ []
prune_step (Stmt-F.Jump value) known = s.Jump value ∷ []
prune_step (Stmt-F.Raise code tval) known = s.Raise code tval ∷ []
prune_step (Stmt-F.WriteMemory count at value) known = s.WriteMemory count at value ∷ []
prune_step (Stmt-F.SoftWrite address value) known = s.SoftWrite address value ∷ []
prune_step (Stmt-F.Call name args) known = s.Call name args ∷ []

-- what is shown of a statement: nothing, or one statement
unfoldable pub pruned_one : Stmt → Prunes
pruned_one = para-Stmt Prunes prune_step

abbrev pub with_pruned : List Stmt → List (Stmt × Prunes)
with_pruned = map (λ x. (x, pruned_one x))

-- what is shown of statements
abbrev pub pruned : Known → List Stmt → List Stmt
pruned known statements = in_order (with_pruned statements) known

pub truth-Word : (known : Known) (name : List ℕ) → known_truth known (e.Word name) ≡ look known name
unfolding known_truth
truth-Word known name = fold-Expr-Word (Option Bool) (truth_step known) name

pub truth-Unary : (known : Known) (sign : Unary) (of : Expr) → known_truth known (e.Unary sign of) ≡ truth_under sign (known_truth known of)
unfolding known_truth
truth-Unary known sign of = fold-Expr-Unary (Option Bool) (truth_step known) sign of

pub after-Word : (known : Known) (name : List ℕ) (b : Bool) → known_after known (e.Word name) b ≡ (name, b) ∷ known
unfolding known_after
after-Word known name b = ap (λ (f : Tells). f b) (fold-Expr-Word Tells (after_step known) name)

pub after-Unary : (known : Known) (sign : Unary) (of : Expr) (b : Bool) → known_after known (e.Unary sign of) b ≡ after_under known sign (known_after known of) b
unfolding known_after
after-Unary known sign of b = ap (λ (f : Tells). f b) (fold-Expr-Unary Tells (after_step known) sign of)

pub pruned-Declare : (shape : Shape) (name : List ℕ) (value : Expr) (known : Known) → pruned_one (s.Declare shape name value) known ≡ s.Declare shape name value ∷ []
unfolding pruned_one
pruned-Declare shape name value known = ap (λ (f : Prunes). f known) (para-Stmt-Declare Prunes prune_step shape name value)

pub pruned-Assign : (target : Target) (value : Expr) (known : Known) → pruned_one (s.Assign target value) known ≡ s.Assign target value ∷ []
unfolding pruned_one
pruned-Assign target value known = ap (λ (f : Prunes). f known) (para-Stmt-Assign Prunes prune_step target value)

pub pruned-Block : (ss : List Stmt) (known : Known) → pruned_one (s.Block ss) known ≡ s.Block (pruned known ss) ∷ []
unfolding pruned_one
pruned-Block ss known = ap (λ (f : Prunes). f known) (para-Stmt-Block Prunes prune_step ss)

pub pruned-Return : (value : Expr) (known : Known) → pruned_one (s.Return value) known ≡ s.Return value ∷ []
unfolding pruned_one
pruned-Return value known = ap (λ (f : Prunes). f known) (para-Stmt-Return Prunes prune_step value)

abbrev pub prunes : List Stmt → Prunes
prunes ss = in_order (with_pruned ss)

pub pruned-If : (test : Expr) (taken : List Stmt) (other : Option (List Stmt)) (known : Known) → pruned_one (s.If test taken other) known ≡ pruned_if (known_truth known test) known test (prunes taken) (option_map prunes other)
unfolding pruned_one
pruned-If test taken None known = ap (λ (f : Prunes). f known) (para-Stmt-If Prunes prune_step test taken None)
pruned-If test taken (Some other) known = ap (λ (f : Prunes). f known) (para-Stmt-If Prunes prune_step test taken (Some other))

firsts : (ss : List Stmt) → map (λ p. p.0) (with_pruned ss) ≡ ss
firsts [] = refl
firsts (x ∷ xs) = ap (λ (ys : List Stmt). x ∷ ys) (firsts xs)

pub pruned-For : (name : List ℕ) (from to : Width) (ss : List Stmt) (known : Known) → pruned_one (s.For name from to ss) known ≡ s.For name from to ss ∷ []
unfolding pruned_one
pruned-For name from to ss known = ap (λ (f : Prunes). f known) (para-Stmt-For Prunes prune_step name from to ss) ∙ ap (λ (ys : List Stmt). s.For name from to ys ∷ []) (firsts ss)

pub pruned-Jump : (value : Expr) (known : Known) → pruned_one (s.Jump value) known ≡ s.Jump value ∷ []
unfolding pruned_one
pruned-Jump value known = ap (λ (f : Prunes). f known) (para-Stmt-Jump Prunes prune_step value)

pub pruned-Raise : (code tval : Expr) (known : Known) → pruned_one (s.Raise code tval) known ≡ s.Raise code tval ∷ []
unfolding pruned_one
pruned-Raise code tval known = ap (λ (f : Prunes). f known) (para-Stmt-Raise Prunes prune_step code tval)

pub pruned-WriteMemory : (count : ℕ) (at value : Expr) (known : Known) → pruned_one (s.WriteMemory count at value) known ≡ s.WriteMemory count at value ∷ []
unfolding pruned_one
pruned-WriteMemory count at value known = ap (λ (f : Prunes). f known) (para-Stmt-WriteMemory Prunes prune_step count at value)

pub pruned-SoftWrite : (address value : Expr) (known : Known) → pruned_one (s.SoftWrite address value) known ≡ s.SoftWrite address value ∷ []
unfolding pruned_one
pruned-SoftWrite address value known = ap (λ (f : Prunes). f known) (para-Stmt-SoftWrite Prunes prune_step address value)

pub pruned-Call : (name : List ℕ) (args : List Expr) (known : Known) → pruned_one (s.Call name args) known ≡ s.Call name args ∷ []
unfolding pruned_one
pruned-Call name args known = ap (λ (f : Prunes). f known) (para-Stmt-Call Prunes prune_step name args)
