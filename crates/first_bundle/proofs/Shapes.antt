-- The lines of blocks.
use Rattle.std.proofs.Common.{◌≡◌, List, [], ◌∷◌, ◌++◌, map, ap, ◌∙◌, codes, None, Some}
use Rattle.std.specs.List.{flat_map}
use Rattle.idl_tree.specs.declared.expressions.Expr.{Expr}
use Rattle.idl_tree.specs.declared.statements.Stmt.{Stmt}
use Rattle.idl_tree.specs.declared.statements.Stmt.TheVariants as s
use Rattle.udb_base.specs.Lines.{Lines}
use Rattle.idl_tree.specs.Print.{stmt_lines, indented, if_text}
use Rattle.idl_tree.proofs.Printed.{stmt_lines-Block, stmt_lines-If}
use Rattle.idl_tree.proofs.Margins.{lines_of}

pub block_lines : (xs : List Stmt) → stmt_lines (s.Block xs) ≡ codes "{" ∷ (indented (flat_map stmt_lines xs) ++ codes "}" ∷ [])
block_lines xs = stmt_lines-Block xs ∙ ap (λ (ls : Lines). codes "{" ∷ (indented ls ++ codes "}" ∷ [])) (lines_of xs)

pub when_lines : (test : Expr) (taken : List Stmt) → stmt_lines (s.If test taken None) ≡ if_text test ∷ (indented (flat_map stmt_lines taken) ++ codes "}" ∷ [])
when_lines test taken = stmt_lines-If test taken None ∙ ap (λ (ls : Lines). if_text test ∷ (indented ls ++ codes "}" ∷ [])) (lines_of taken)

pub either_lines : (test : Expr) (taken other : List Stmt) → stmt_lines (s.If test taken (Some other)) ≡ if_text test ∷ (indented (flat_map stmt_lines taken) ++ (codes "} else {" ∷ (indented (flat_map stmt_lines other) ++ codes "}" ∷ [])))
either_lines test taken other =
    stmt_lines-If test taken (Some other)
    ∙ (ap (λ (ls : Lines). if_text test ∷ (indented ls ++ (codes "} else {" ∷ (indented (flat_map (λ l. l) (map stmt_lines other)) ++ codes "}" ∷ [])))) (lines_of taken)
    ∙ ap (λ (ls : Lines). if_text test ∷ (indented (flat_map stmt_lines taken) ++ (codes "} else {" ∷ (indented ls ++ codes "}" ∷ [])))) (lines_of other))
