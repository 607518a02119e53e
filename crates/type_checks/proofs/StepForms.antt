-- The checks of statements, form by form.
use Rattle.std.proofs.Common.{◌≡◌, ◌<◌, ◌+◌, length, get_or, drop, ℕ, Bool, List, [], ◌∷◌, ◌++◌, Option, None, Some, map, refl, sym, ap, ◌∙◌, append_assoc}
use Rattle.std.proofs.lemmas.List.{append-nil, drop_more}
use Rattle.udb_base.specs.declared.names.Name.{Name}
use Rattle.udb_base.specs.declared.conditions.Cond.{Cond}
use Rattle.idl_tree.specs.declared.widths.Width.{Width}
use Rattle.idl_tree.specs.declared.widths.Shape.{Shape}
use Rattle.idl_tree.specs.declared.expressions.Expr.{Expr}
use Rattle.idl_tree.specs.declared.statements.Target.{Target}
use Rattle.idl_tree.specs.declared.statements.Stmt.{Stmt}
use Rattle.idl_tree.specs.declared.statements.Stmt.TheVariants as st
use Rattle.idl_tree.specs.declared.statements.Stmt.TheOpen.{Stmt-F}
use Rattle.idl_spec.specs.TestPlaces.{where_true, where_false}
use Rattle.idl_spec.specs.Demands.{View, Visible, Check, csr_word, csr_word_issues}
use Rattle.idl_spec.specs.Checks.{check, expr_checks, address_checks, stmt_checks, step_checks, counter, declares}
use Rattle.idl_spec.specs.CheckLaws as law
use Rattle.type_kinds.specs.Views.{seeing}
use Rattle.type_checks.specs.Nodes.{block_at, statement_at, loop_check, test_checks}

-- ---- addresses

pub address-word : (view : View) (a : Expr) (context : List Cond) (name : Name) → csr_word view a ≡ Some name → address_checks view (a, expr_checks view a) context ≡ check context (csr_word_issues view name) ∷ []
address-word view a context name h = ap (λ o. elim o [ Some n ↦ check context (csr_word_issues view n) ∷ [] | None ↦ expr_checks view a context ]) h

pub address-other : (view : View) (a : Expr) (context : List Cond) → csr_word view a ≡ None → address_checks view (a, expr_checks view a) context ≡ expr_checks view a context
address-other view a context h = ap (λ o. elim o [ Some n ↦ check context (csr_word_issues view n) ∷ [] | None ↦ expr_checks view a context ]) h

pub ruleset address_laws = (address-word, address-other)

-- ---- statements

pub step-Declare : (view : View) (declared : Shape) (name : Name) (x : Expr) (context : List Cond) → statement_at view (st.Declare declared name x) context ≡ step_checks view (Stmt-F.Declare declared name x) context
unfolding statement_at
step-Declare view declared name x context = law.walks-Declare view declared name x view.visible context

pub step-Assign : (view : View) (to : Target) (x : Expr) (context : List Cond) → statement_at view (st.Assign to x) context ≡ step_checks view (Stmt-F.Assign to x) context
unfolding statement_at
step-Assign view to x context = law.walks-Assign view to x view.visible context

pub step-Block : (view : View) (ss : List Stmt) (context : List Cond) → statement_at view (st.Block ss) context ≡ check context [] ∷ block_at view ss view.visible context
unfolding statement_at
step-Block view ss context = law.walks-Block view ss view.visible context

pub step-Return : (view : View) (x : Expr) (context : List Cond) → statement_at view (st.Return x) context ≡ step_checks view (Stmt-F.Return x) context
unfolding statement_at
step-Return view x context = law.walks-Return view x view.visible context

pub step-If : (view : View) (test : Expr) (ss : List Stmt) (context : List Cond)
    → statement_at view (st.If test ss None) context ≡ test_checks view test context ++ block_at view ss view.visible (where_true view.space test context)
unfolding statement_at
step-If view test ss context =
    law.walks-If view test ss None view.visible context
    ∙ ap (λ cs. test_checks view test context ++ cs) (append-nil (block_at view ss view.visible (where_true view.space test context)))

pub step-Else : (view : View) (test : Expr) (ss zs : List Stmt) (context : List Cond)
    → statement_at view (st.If test ss (Some zs)) context
    ≡ test_checks view test context ++ (block_at view ss view.visible (where_true view.space test context) ++ block_at view zs view.visible (where_false view.space test context))
unfolding statement_at
step-Else view test ss zs context = law.walks-If view test ss (Some zs) view.visible context

pub step-For : (view : View) (name : Name) (from to : Width) (ss : List Stmt) (context : List Cond)
    → statement_at view (st.For name from to ss) context ≡ loop_check view name from to context ∷ block_at view ss (view.visible ++ counter name ∷ []) context
unfolding statement_at
step-For view name from to ss context = law.walks-For view name from to ss view.visible context

pub step-Jump : (view : View) (x : Expr) (context : List Cond) → statement_at view (st.Jump x) context ≡ step_checks view (Stmt-F.Jump x) context
unfolding statement_at
step-Jump view x context = law.walks-Jump view x view.visible context

pub step-Raise : (view : View) (code tval : Expr) (context : List Cond) → statement_at view (st.Raise code tval) context ≡ step_checks view (Stmt-F.Raise code tval) context
unfolding statement_at
step-Raise view code tval context = law.walks-Raise view code tval view.visible context

pub step-WriteMemory : (view : View) (count : ℕ) (at x : Expr) (context : List Cond) → statement_at view (st.WriteMemory count at x) context ≡ step_checks view (Stmt-F.WriteMemory count at x) context
unfolding statement_at
step-WriteMemory view count at x context = law.walks-WriteMemory view count at x view.visible context

pub step-SoftWrite : (view : View) (address x : Expr) (context : List Cond) → statement_at view (st.SoftWrite address x) context ≡ step_checks view (Stmt-F.SoftWrite address x) context
unfolding statement_at
step-SoftWrite view address x context = law.walks-SoftWrite view address x view.visible context

pub step-Call : (view : View) (name : Name) (es : List Expr) (context : List Cond) → statement_at view (st.Call name es) context ≡ step_checks view (Stmt-F.Call name es) context
unfolding statement_at
step-Call view name es context = law.walks-Call view name es view.visible context

pub ruleset step_laws = (append_assoc, step-Declare, step-Assign, step-Block, step-Return, step-If, step-Else, step-For, step-Jump, step-Raise, step-WriteMemory, step-SoftWrite, step-Call)

-- ---- blocks

-- the checks of a statement are those under the names that are handed to them
pub same-walk : (view : View) (visible : List Visible) (s : Stmt) → stmt_checks (seeing view visible) s ≡ stmt_checks view s
unfolding stmt_checks
same-walk view visible s = refl

-- one more statement
pub block-next : (view here : View) (block : List Stmt) (i : ℕ) (s : Stmt) (visible more : List Visible) (context : List Cond) (checks : List Check)
    → i < length block → s ≡ get_or block i s → here ≡ seeing view visible → more ≡ visible ++ declares s
    → (checks ++ statement_at here s context) ++ block_at view (drop (i + 1) block) more context ≡ checks ++ block_at view (drop i block) visible context
unfolding statement_at
block-next view here block i s visible more context checks lt is at next =
    let rest = drop (i + 1) block in
    let item : drop i block ≡ s ∷ rest = drop_more block i s lt ∙ ap (λ z. z ∷ rest) (sym is) in
    let own : stmt_checks (seeing view visible) s visible context ≡ stmt_checks view s visible context = ap (λ (f : List Visible → List Cond → List Check). f visible context) (same-walk view visible s) in
    ap (λ h. (checks ++ stmt_checks h s h.visible context) ++ block_at view rest more context) at
    ∙ ap (λ ns. (checks ++ stmt_checks (seeing view visible) s visible context) ++ block_at view rest ns context) next
    ∙ ap (λ cs. (checks ++ cs) ++ block_at view rest (visible ++ declares s) context) own
    ∙ append_assoc checks (stmt_checks view s visible context) (block_at view rest (visible ++ declares s) context)
    ∙ sym (ap (λ b. checks ++ block_at view b visible context) item)
