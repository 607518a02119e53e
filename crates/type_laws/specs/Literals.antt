-- The numbers that are written in expressions and statements.
use Rattle.std.specs.Prelude.{◌++◌, ◌<◌, ◌^◌, ℕ, List, [], ◌∷◌, map, flat_map}
use Rattle.idl_tree.specs.Each.{Each}
use Rattle.idl_tree.specs.declared.expressions.Expr.{Expr}
use Rattle.idl_tree.specs.declared.expressions.Expr.TheOpen.{Expr-F}
use Rattle.idl_tree.specs.declared.expressions.Expr.TheFolds.{fold-Expr}
use Rattle.idl_tree.specs.declared.statements.Stmt.{Stmt}
use Rattle.idl_tree.specs.declared.statements.Stmt.TheOpen.{Stmt-F}
use Rattle.idl_tree.specs.declared.statements.Stmt.TheFolds.{fold-Stmt}
use Rattle.idl_tree.specs.Operands.{layer_operands, layer_parts}
use Rattle.idl_spec.specs.Deeds.{all_of}

abbrev pub own_numbers : {A : Type 0} → Expr-F A → List ℕ
own_numbers (Expr-F.Number n) = n ∷ []
own_numbers _ = []

abbrev pub expr_numbers_step : Expr-F (List ℕ) → List ℕ
expr_numbers_step layer = own_numbers layer ++ all_of (layer_operands layer)

-- the numbers of an expression, beside those with a width of their own
unfoldable pub expr_numbers : Expr → List ℕ
expr_numbers = fold-Expr (List ℕ) expr_numbers_step

abbrev pub stmt_numbers_step : Stmt-F (List ℕ) → List ℕ
stmt_numbers_step layer = flat_map expr_numbers (layer_parts layer).values ++ flat_map all_of (layer_parts layer).blocks

unfoldable pub stmt_numbers : Stmt → List ℕ
stmt_numbers = fold-Stmt (List ℕ) stmt_numbers_step

-- numbers of at most 128 bits, as the language writes them
abbrev pub AreSmall : List ℕ → Type 0
AreSmall ns = Each (λ (n : ℕ). n < 2 ^ 128) ns

abbrev pub numbers_of : List Stmt → List ℕ
numbers_of statements = all_of (map stmt_numbers statements)
