-- The nodes of a body: its statements, targets and expressions, each before its parts, and the parts in
-- the order of the text. Widths are no nodes. The first node has number 1.
use Rattle.std.specs.Prelude.{◌≡◌, ◌<◌, ◌⊎◌, ℕ, zero, suc, length, List, [], ◌∷◌, ◌++◌, slice_get, Option, None, Some}
use Rattle.std.specs.List.{flat_map}
use Rattle.idl_tree.specs.declared.expressions.Expr.{Expr}
use Rattle.idl_tree.specs.declared.expressions.Expr.TheOpen.{Expr-F}
use Rattle.idl_tree.specs.declared.expressions.Expr.TheFolds.{para-Expr}
use Rattle.idl_tree.specs.declared.statements.Target.{Target}
use Rattle.idl_tree.specs.declared.statements.Stmt.{Stmt}
use Rattle.idl_tree.specs.declared.statements.Stmt.TheOpen.{Stmt-F}
use Rattle.idl_tree.specs.declared.statements.Stmt.TheFolds.{para-Stmt}
use Rattle.idl_tree.specs.declared.programs.Body.{Body}
use Rattle.udb_base.specs.Lines.{Lines}
use Rattle.idl_tree.specs.Operands.{layer_operands, target_operands, Parts, layer_parts}
use Rattle.idl_tree.specs.Print.{expr_text, target_text, stmt_lines}

-- the lines of an expression, and of a target, that is printed alone
abbrev pub expr_lines : Expr → Lines
expr_lines e = expr_text e ∷ []

abbrev pub target_lines : Target → Lines
target_lines t = target_text t ∷ []

-- a part that is an expression, before the nodes below it
abbrev pub expr_part : Expr × List Lines → List Lines
expr_part part = expr_lines part.0 ∷ part.1

abbrev pub expr_parts_step : Expr-F (Expr × List Lines) → List Lines
expr_parts_step layer = flat_map expr_part (layer_operands layer)

-- the nodes below an expression
unfoldable pub expr_parts : Expr → List Lines
expr_parts = para-Expr (List Lines) expr_parts_step

-- an expression and the nodes below it
unfoldable pub expr_nodes : Expr → List Lines
expr_nodes e = expr_lines e ∷ expr_parts e

unfoldable pub target_parts : Target → List Lines
target_parts t = flat_map expr_nodes (target_operands t)

unfoldable pub target_nodes : Target → List Lines
target_nodes t = target_lines t ∷ target_parts t

abbrev pub stmt_part : Stmt × List Lines → List Lines
stmt_part part = stmt_lines part.0 ∷ part.1

-- the target of an assignment, which is a node of its own before its operand
abbrev pub target_node : {A : Type 0} → Stmt-F A → List Lines
target_node (Stmt-F.Assign target value) = target_lines target ∷ []
target_node _ = []

-- the expressions of a statement, then the statements of its blocks
abbrev pub stmt_parts_step : Stmt-F (Stmt × List Lines) → List Lines
stmt_parts_step layer =
    let below : Parts (Stmt × List Lines) = layer_parts layer in
    target_node layer ++ flat_map expr_nodes below.values ++ flat_map (flat_map stmt_part) below.blocks

-- the nodes below a statement
unfoldable pub stmt_parts : Stmt → List Lines
stmt_parts = para-Stmt (List Lines) stmt_parts_step

unfoldable pub stmt_nodes : Stmt → List Lines
stmt_nodes s = stmt_lines s ∷ stmt_parts s

-- the printed lines of each node of a body, in the order of their numbers
abbrev pub node_lines : Body → List Lines
node_lines body = flat_map stmt_nodes body.statements

-- what is the number of no node
abbrev pub IsNoNode : Body → ℕ → Type 0
IsNoNode body n = (n ≡ 0) ⊎ (length (node_lines body) < n)

-- what has a number, counted from 1
abbrev pub node_at : List Lines → ℕ → Option Lines
node_at nodes zero = None
node_at nodes (suc n) = slice_get nodes n
