-- What is printed of a tree that a source spells spells it within the same limit.
use Rattle.std.proofs.Common.{◌≡◌, ◌≤◌, ℕ, List, arith}
use Rattle.std.specs.List.{flat_map}
use Rattle.idl_tree.specs.declared.statements.Stmt.{Stmt}
use Rattle.idl_tree.specs.declared.programs.Function.{Function}
use Rattle.udb_base.specs.Lines.{text_of_lines}
use Rattle.idl_tree.specs.Print.{stmt_lines}
use Rattle.idl_tree.specs.PrintFunctions.{functions_text}
use Rattle.idl_grammar.specs.Faults.{OfBody, OfFunctions}
use Rattle.idl_back.proofs.PrintedStmts.{body_reads}
use Rattle.idl_back.proofs.PrintedFunctions.{functions_read}
use Rattle.idl_parse.specs.Parse.{Spells}

pub body_back : (n : ℕ) (source : List ℕ) (xs : List Stmt) → Spells OfBody n source xs → Spells OfBody n (text_of_lines (flat_map stmt_lines xs)) xs
body_back n source xs s =
    let k = body_reads source s.0 s.2.0 xs s.1 s.2.2 in
    let low : k.2.0 ≤ s.2.0 = k.2.1 in
    let high : s.2.0 ≤ n = s.2.1 in
    (k.0, k.1, (k.2.0, omega arith, k.2.2))

pub functions_back : (n : ℕ) (source : List ℕ) (xs : List Function) → Spells OfFunctions n source xs → Spells OfFunctions n (functions_text xs) xs
functions_back n source xs s =
    let k = functions_read source s.0 s.2.0 xs s.1 s.2.2 in
    let low : k.2.0 ≤ s.2.0 = k.2.1 in
    let high : s.2.0 ≤ n = s.2.1 in
    (k.0, k.1, (k.2.0, omega arith, k.2.2))
