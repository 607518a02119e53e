-- The lines of a statement as the printer appends them: the first line, then those of the blocks, each block up
-- to the line that closes it.
use Rattle.std.specs.Prelude.{ℕ, List, [], ◌∷◌, ◌++◌, codes}
use Rattle.std.specs.List.{flat_map}
use Rattle.std.specs.Fmt.{decimal}
use Rattle.udb_base.specs.Lines.{Lines}
use Rattle.idl_tree.specs.declared.expressions.Expr.{Expr}
use Rattle.idl_tree.specs.declared.statements.Stmt.{Stmt}
use Rattle.idl_tree.specs.declared.statements.Stmt.TheFolds.{map-Stmt}
use Rattle.idl_tree.specs.declared.statements.Stmt.TheViews.{out-Stmt}
use Rattle.idl_tree.specs.Print.{indented, first_line, lines_after_first, stmt_lines, expr_text}

-- two arguments, or what stands like two, up to the end of the call
abbrev pub pair_text : Expr → List ℕ → Expr → List ℕ
pair_text first between second = expr_text first ++ between ++ expr_text second ++ codes ");"

-- a word for memory with its count of bits, up to its arguments
abbrev pub memory_word : List ℕ → ℕ → List ℕ
memory_word word bits = word ++ decimal bits ++ codes ">("

unfoldable pub statement_head : Stmt → List ℕ
statement_head s = first_line (out-Stmt s)

unfoldable pub statement_tail : Stmt → Lines
statement_tail s = lines_after_first (map-Stmt Stmt Lines stmt_lines (out-Stmt s))

-- a block, one level further in, and the line that closes it
unfoldable pub block_lines : List Stmt → List ℕ → Lines
block_lines block last = indented (flat_map stmt_lines block) ++ (last ∷ [])
