-- What the nodes of a body do beside giving values, and what follows from it: the functions that
-- are reached, which expressions are quiet, what bodies of fields keep to, and which bodies end in
-- a return.
use Rattle.std.specs.Prelude.{◌&&◌, ◌||◌, Bool, true, false, not, ℕ, List, [], ◌∷◌, ◌++◌, map, flat_map, filter, filter_map, Option, None, Some}
use Rattle.std.specs.List.{list_any}
use Rattle.udb_base.specs.Lists.{is_among}
use Rattle.udb_spec.specs.Conditions.{same_bytes}
use Rattle.idl_tree.specs.declared.expressions.Expr.{Expr}
use Rattle.idl_tree.specs.declared.expressions.Expr.TheOpen.{Expr-F}
use Rattle.idl_tree.specs.declared.expressions.Expr.TheFolds.{fold-Expr}
use Rattle.idl_tree.specs.declared.statements.Target.{Target}
use Rattle.idl_tree.specs.declared.statements.Target.TheVariants as target
use Rattle.idl_tree.specs.declared.statements.Stmt.{Stmt}
use Rattle.idl_tree.specs.declared.statements.Stmt.TheOpen.{Stmt-F}
use Rattle.idl_tree.specs.declared.statements.Stmt.TheFolds.{fold-Stmt}
use Rattle.idl_tree.specs.declared.programs.Function.{Function}
use Rattle.idl_tree.specs.Operands.{layer_operands, layer_parts}

-- a node calls a function; reads a field, another part of the state, or memory or a CSR as software
-- does; or writes the state, jumps or raises
pub data Deed : Type 0 where
  calls : List ℕ → Deed
  reads_field : Deed
  reads_state : Deed
  reads_memory : Deed
  acts : Deed

abbrev pub all_of : {A : Type 0} → List (List A) → List A
all_of xss = flat_map (λ xs. xs) xss

-- ---- expressions

abbrev pub expr_deed : {A : Type 0} → Expr-F A → List Deed
expr_deed (Expr-F.Call name args) = calls name ∷ []
expr_deed (Expr-F.Field csr field) = reads_field ∷ []
expr_deed (Expr-F.Register at) = reads_state ∷ []
expr_deed Expr-F.Pc = reads_state ∷ []
expr_deed Expr-F.Encoding = reads_state ∷ []
expr_deed (Expr-F.ReadMemory count at) = reads_memory ∷ []
expr_deed (Expr-F.SoftRead address) = reads_memory ∷ []
expr_deed _ = []

abbrev pub expr_deeds_step : Expr-F (List Deed) → List Deed
expr_deeds_step layer = expr_deed layer ++ all_of (layer_operands layer)

-- what an expression and its operands do
unfoldable pub expr_deeds : Expr → List Deed
expr_deeds = fold-Expr (List Deed) expr_deeds_step

-- ---- statements

-- a local name is no part of the state
abbrev pub target_deed : Target → List Deed
target_deed (target.Register at) = acts ∷ []
target_deed (target.Field csr field) = acts ∷ []
target_deed _ = []

abbrev pub stmt_deed : {A : Type 0} → Stmt-F A → List Deed
stmt_deed (Stmt-F.Assign to x) = target_deed to
stmt_deed (Stmt-F.Call name args) = calls name ∷ []
stmt_deed (Stmt-F.Jump to) = acts ∷ []
stmt_deed (Stmt-F.Raise cause tval) = acts ∷ []
stmt_deed (Stmt-F.WriteMemory count at x) = acts ∷ []
stmt_deed (Stmt-F.SoftWrite address x) = acts ∷ []
stmt_deed _ = []

abbrev pub stmt_deeds_step : Stmt-F (List Deed) → List Deed
stmt_deeds_step layer =
    stmt_deed layer
    ++ (flat_map expr_deeds (layer_parts layer).values ++ flat_map all_of (layer_parts layer).blocks)

-- what a statement does, with its expressions and blocks
unfoldable pub stmt_deeds : Stmt → List Deed
stmt_deeds = fold-Stmt (List Deed) stmt_deeds_step

abbrev pub deeds_of : List Stmt → List Deed
deeds_of statements = all_of (map stmt_deeds statements)

abbrev pub function_deeds : Function → List Deed
function_deeds f = deeds_of f.body.statements

-- ---- the functions that are reached

abbrev pub called : Deed → Option (List ℕ)
called (calls name) = Some name
called _ = None

-- the names that are called
abbrev pub called_names : List Deed → List (List ℕ)
called_names deeds = filter_map called deeds

abbrev pub calls_function : Function → Function → Bool
calls_function f g = is_among same_bytes g.name (called_names (function_deeds f))

-- those of all functions that are among some, or that one of these calls
abbrev pub with_called : List Function → List Function → List Function
with_called functions some =
    filter (λ g. is_among same_bytes g.name (map (λ f. f.name) some) || list_any (λ f. calls_function f g) some)
    functions

-- as often as there are functions: then no further one is reached
abbrev pub repeated_for : List Function → List Function → List Function → List Function
repeated_for [] functions some = some
repeated_for (turn ∷ turns) functions some =
    with_called functions (repeated_for turns functions some)

-- the functions of these names, and all that they call, themselves or through their calls
unfoldable pub reached : List Function → List (List ℕ) → List Function
reached functions names =
    repeated_for functions functions (filter (λ f. is_among same_bytes f.name names) functions)

-- ---- quiet expressions

abbrev pub is_loud : Deed → Bool
is_loud reads_memory = true
is_loud acts = true
is_loud _ = false

-- neither the expression nor a function that it reaches reads memory or a CSR as software, writes
-- the state, jumps or raises
unfoldable pub is_quiet : List Function → Expr → Bool
is_quiet functions x =
    not (list_any is_loud (expr_deeds x))
    && not (list_any (λ f. list_any is_loud (function_deeds f)) (reached functions (called_names (expr_deeds x))))

-- ---- bodies of fields

-- what a body of a field, and a function that it reaches, has to leave; `reads` where it may read
-- fields
abbrev pub leaves_fields : Bool → Deed → Bool
leaves_fields reads (calls name) = false
leaves_fields reads reads_field = not reads
leaves_fields reads _ = true

abbrev pub stays_in_fields : Bool → List Stmt → Bool
stays_in_fields reads statements = not (list_any (leaves_fields reads) (deeds_of statements))

-- ---- bodies that end in a return

abbrev pub last_ends : List Bool → Bool
last_ends [] = false
last_ends (x ∷ []) = x
last_ends (x ∷ xs) = last_ends xs

-- a return, or a block or an `if` with `else` whose blocks so end
abbrev pub ends_step : Stmt-F Bool → Bool
ends_step (Stmt-F.Return x) = true
ends_step (Stmt-F.Block ss) = last_ends ss
ends_step (Stmt-F.If test taken (Some other)) = last_ends taken && last_ends other
ends_step _ = false

unfoldable pub stmt_ends : Stmt → Bool
stmt_ends = fold-Stmt Bool ends_step

-- the last statement so ends
abbrev pub ends_in_return : List Stmt → Bool
ends_in_return statements = last_ends (map stmt_ends statements)
