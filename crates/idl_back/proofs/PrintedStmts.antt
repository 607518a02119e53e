-- Statements that were read are printed as lines that read as them, and so are bodies.
use Rattle.std.proofs.Common.{arith, ◌≤◌, ◌≡◌, ℕ, suc, max, false, List, [], ◌∷◌, map, Option, None, Some, codes, refl, sym, ap, ◌∙◌, subst, append-nil}
use Rattle.std.specs.List.{flat_map}
use Rattle.std.specs.Option.{option_map}
use Rattle.idl_token.specs.declared.kinds.Reserved.TheVariants as r
use Rattle.idl_token.specs.declared.kinds.Sign.TheVariants as s
use Rattle.idl_token.specs.Lexeme.{Lexeme}
use Rattle.idl_token.specs.Rows.{IsRow}
use Rattle.idl_tree.specs.declared.widths.Width.{Width}
use Rattle.idl_tree.specs.declared.expressions.Expr.{Expr}
use Rattle.idl_tree.specs.declared.statements.Stmt.{Stmt}
use Rattle.idl_tree.specs.declared.statements.Stmt.TheVariants as st
use Rattle.udb_base.specs.Lines.{Lines, text_of_lines}
use Rattle.idl_tree.specs.Print.{if_text, for_text, else_lines, stmt_lines, margined}
use Rattle.idl_tree.proofs.Printed.{stmt_lines-Block, stmt_lines-If, stmt_lines-For}
use Rattle.idl_tree.proofs.Margins.{margined-none}
use Rattle.idl_token.specs.Symbol.{Symbol, symbols}
use Rattle.idl_token.specs.Symbol as t
use Rattle.idl_grammar.specs.Faults.{OfBody, ReadsWithin}
use Rattle.idl_grammar.specs.StmtGrammar as g
use Rattle.idl_grammar.specs.StmtGrammar.{ReadsStmt, ReadsElse, ReadsStmts}
use Rattle.idl_back.specs.Piece.{Piece, gap, lexemes_from}
use Rattle.idl_back.specs.Spelled.{AreSpelled}
use Rattle.idl_back.proofs.Pieces.{stands_row, symbols_from}
use Rattle.idl_back.proofs.Spelled.{row_symbols}
use Rattle.idl_back.proofs.FrontRows.{row_sits}
use Rattle.idl_back.proofs.PrintedTexts.{Lexed, lexed_none, Reading, Shows, fit, signed, worded}
use Rattle.idl_back.proofs.PrintedWidths.{told_width}
use Rattle.idl_back.proofs.PrintedExprs.{told_expr, told_args}
use Rattle.idl_back.proofs.PrintedLines.{Goes, one_line, row_ends, shown_ends, goes_is, goes_as, no_lines, goes_on, block_goes}
use Rattle.idl_back.proofs.PrintedSimple as p
use Rattle.idl_back.proofs.PrintedSimple.{StmtOf, StmtsOf, Lined, Tests, Counts, told_shape, told_target, if_shown, for_shown}

-- the same of lists of statements
abbrev pub AllLined : ℕ → List Stmt → Type 0
AllLined h xs = Goes (StmtsOf h xs) (flat_map stmt_lines xs)

none_lined : AllLined 0 []
none_lined = no_lines (λ us. (0, omega arith, g.none))

then_lined : (h i : ℕ) (x : Stmt) (xs : List Stmt) → Lined h x → AllLined i xs → AllLined (max h i) (x ∷ xs)
then_lined h i x xs p q = goes_on p q (λ ts us ws c d. (max c.0 d.0, omega (arith, c.1, d.1), g.then c.2 d.2))

alone_lined : (h : ℕ) (x : Stmt) → Lined h x → AllLined h (x ∷ [])
alone_lined h x p = goes_on p none_lined (λ ts us ws c d. (max c.0 d.0, omega (arith, c.1, d.1), g.then c.2 d.2))

-- ---- blocks

abbrev pub Closed : Reading
Closed = λ ts us. ts ≡ t.sign s.CloseBrace ∷ us

pub close_lines : Goes Closed (codes "}" ∷ [])
close_lines = one_line (row_ends (signed s.CloseBrace ∷ []) (λ y e. row_sits false (signed s.CloseBrace ∷ []) y refl))

block_lined : (h : ℕ) (xs : List Stmt) → AllLined h xs → Lined (suc h) (st.Block xs)
block_lined h xs q = goes_is (stmt_lines-Block xs)
    (block_goes xs (row_ends (signed s.OpenBrace ∷ []) (λ y e. row_sits false (signed s.OpenBrace ∷ []) y refl)) q close_lines
    (λ ts us vs ws a b c. (suc b.0, omega (arith, b.1), subst (λ (z : List Symbol). ReadsStmt (suc b.0) z ws (st.Block xs)) (sym a) (g.block (subst (λ (z : List Symbol). ReadsStmts b.0 us z xs) c b.2)))))

-- what follows the first block of an `if`, with the brace that ends the block
abbrev ElseOf : ℕ → Option (List Stmt) → Reading
ElseOf h zs = λ ts us. (vs : List Symbol) × (ts ≡ t.sign s.CloseBrace ∷ vs) × ((n : ℕ) × (n ≤ h) × ReadsElse n vs us zs)

abbrev ElseLined : ℕ → Option (List Stmt) → Type 0
ElseLined h zs = Goes (ElseOf h zs) (else_lines (option_map (map stmt_lines) zs))

no_else_lined : ElseLined 0 None
no_else_lined = goes_as (λ ts us is. (us, is, (0, omega arith, g.no_else))) close_lines

abbrev else_row : List Piece
else_row = signed s.CloseBrace ∷ gap 32 ∷ worded r.Else ∷ gap 32 ∷ signed s.OpenBrace ∷ []

otherwise_lined : (h : ℕ) (xs : List Stmt) → AllLined h xs → ElseLined h (Some xs)
otherwise_lined h xs q = block_goes xs (row_ends else_row (λ y e. row_sits false else_row y refl)) q close_lines
    (λ ts us vs ws a b c. (t.reserved r.Else ∷ t.sign s.OpenBrace ∷ us, a, (b.0, b.1, g.otherwise (subst (λ (z : List Symbol). ReadsStmts b.0 us z xs) c b.2))))

if_lined : (h i j : ℕ) (a : Expr) (ys : List Stmt) (zs : Option (List Stmt)) → Shows false (Tests h a) (if_text a) → AllLined i ys → ElseLined j zs → Lined (suc (max h (max i j))) (st.If a ys zs)
if_lined h i j a ys zs m q n = goes_is (stmt_lines-If a ys zs)
    (block_goes ys (shown_ends m) q n
    (λ ts us vs ws b c d. (
    let k = b ys zs d.0 ws c.0 d.2.0 (subst (λ (z : List Symbol). ReadsStmts c.0 us z ys) d.1 c.2) d.2.2 in
    (k.0, omega (arith, k.1, c.1, d.2.1), k.2))))

for_lined : (h i j : ℕ) (x : List ℕ) (a b : Width) (ys : List Stmt) → Shows false (Counts h i x a b) (for_text x a b) → AllLined j ys → Lined (suc (max h (max i j))) (st.For x a b ys)
for_lined h i j x a b ys m q = goes_is (stmt_lines-For x a b ys)
    (block_goes ys (shown_ends m) q close_lines
    (λ ts us vs ws c d e. (
    let k = c ys ws d.0 (subst (λ (z : List Symbol). ReadsStmts d.0 us z ys) e d.2) in
    (k.0, omega (arith, k.1, d.1), k.2))))

-- ---- by the way in which they were read

mutual
  pub told_stmt : {h : ℕ} {ts us : List Symbol} {x : Stmt} → ReadsStmt h ts us x → AreSpelled ts → AreSpelled us × Lined h x
  told_stmt (g.declare {h = h} {shape = shape} {x = x} {y = y} m n) q = let i = told_shape m q in let j = told_expr n i.0.1.1 in (j.0.1, p.declare_lined h shape x y i.1 i.0.0 j.1)
  told_stmt (g.assign {h = h} {x = x} {y = y} m n) q = let i = told_target m q in let j = told_expr n i.0.1 in (j.0.1, p.assign_lined h x y i.1 j.1)
  told_stmt (g.block {h = h} {xs = xs} m) q = let i = told_stmts m q.1 in (i.0.1, block_lined h xs i.1)
  told_stmt (g.give {x = x} m) q = let i = told_expr m q.1 in (i.0.1, p.return_lined x i.1)
  told_stmt (g.when {h = a} {i = b} {j = c} {x = x} {ys = ys} {zs = zs} m n l) q = let i = told_expr m q.1.1 in let j = told_stmts n i.0.1.1 in let k = told_else l j.0.1 in (k.0, if_lined a b c x ys zs (if_shown x i.1) j.1 k.1)
  told_stmt (g.count {h = c} {i = d} {j = e} {x = x} {a = a} {b = b} {ys = ys} m n l) q =
      let i = told_width false m q.1.1.1.1.1 in
      let j = told_width false n i.0.1.1.1 in
      let k = told_stmts l j.0.1.1.1.1.1 in
      (k.0.1, for_lined c d e x a b ys (for_shown c d x a b q.1.1.1.0 i.1.1.bare j.1.1.bare) k.1)
  told_stmt (g.jump {x = x} m) q = let i = told_expr m q.1.1 in (i.0.1.1, p.jump_lined x i.1)
  told_stmt (g.trap {x = x} {y = y} m n) q = let i = told_expr m q.1.1 in let j = told_expr n i.0.1.1.1.1.1 in (j.0.1.1, p.raise_lined x y i.1 j.1)
  told_stmt (g.write_memory {k = n} {x = x} {y = y} ok m l) q = let i = told_expr m q.1.1.1.1.1 in let j = told_expr l i.0.1 in (j.0.1.1, p.write_memory_lined n x y ok q.1.1.0 i.1 j.1)
  told_stmt (g.soft_write {x = x} {y = y} m n) q = let i = told_expr m q.1.1 in let j = told_expr n i.0.1.1.1.1 in (j.0.1.1, p.soft_write_lined x y i.0.1.1.0 i.1 j.1)
  told_stmt (g.call_none {x = x}) q = (q.1.1.1.1, p.call_none_lined x q.0)
  told_stmt (g.call {x = x} {h = h} {ys = ys} m) q = let i = told_args m q.1.1 in (i.0.1.1, p.call_lined h x ys q.0 i.1)

  told_else : {h : ℕ} {ts us : List Symbol} {zs : Option (List Stmt)} → ReadsElse h ts us zs → AreSpelled ts → AreSpelled us × ElseLined h zs
  told_else g.no_else q = (q, no_else_lined)
  told_else (g.otherwise {h = h} {xs = xs} m) q = let i = told_stmts m q.1.1 in (i.0.1, otherwise_lined h xs i.1)
  told_else (g.else_if {h = h} {x = x} m) q = let i = told_stmt m q.1 in (i.0, otherwise_lined h (x ∷ []) (alone_lined h x i.1))

  pub told_stmts : {h : ℕ} {ts us : List Symbol} {xs : List Stmt} → ReadsStmts h ts us xs → AreSpelled ts → AreSpelled us × AllLined h xs
  told_stmts g.none q = (q, none_lined)
  told_stmts (g.then {h = h} {i = n} {x = x} {xs = xs} m l) q = let i = told_stmt m q in let j = told_stmts l i.0 in (j.0, then_lined h n x xs i.1 j.1)

-- ---- whole bodies

-- lines that read so are a row of tokens that reads so
pub lines_row : (P : Reading) (ls : Lines) → Goes P ls → (us : List Lexeme) × IsRow (text_of_lines ls) us × P (symbols us) []
lines_row P ls q =
    let a = q.goes [] refl [] [] (lexed_none false) in
    let l : Lexed false (text_of_lines ls) a.0 = fit a.1 (append-nil (text_of_lines (margined [] ls)) ∙ ap (λ (ks : Lines). text_of_lines ks) (margined-none ls)) in (
      lexemes_from 0 l.pieces,
      subst (λ (y : List ℕ). IsRow y (lexemes_from 0 l.pieces)) l.text (stands_row l.pieces l.stands),
      subst (λ (ts : List Symbol). P ts []) (sym (symbols_from 0 l.pieces ∙ l.says)) a.2,
    )

pub body_reads : (source : List ℕ) (ts : List Lexeme) (h : ℕ) (xs : List Stmt) → IsRow source ts → OfBody h (symbols ts) xs
    → (us : List Lexeme) × IsRow (text_of_lines (flat_map stmt_lines xs)) us × ReadsWithin OfBody h (symbols us) xs
body_reads source ts h xs row reads = lines_row (StmtsOf h xs) (flat_map stmt_lines xs) (told_stmts reads (row_symbols source ts row)).1
