-- Types, targets and single statements are printed as texts that read as them, if their parts are.
use Rattle.std.proofs.Common.{◌≡◌, ℕ, suc, max, ◌<◌, ◌≤◌, ◌^◌, true, false, List, [], ◌∷◌, ◌++◌, map, Option, None, Some, codes, refl, sym, ap, ◌∙◌, subst, append_assoc, decimal, arith}
use Rattle.idl_token.specs.declared.kinds.Reserved.{Reserved}
use Rattle.idl_token.specs.declared.kinds.Reserved.TheVariants as r
use Rattle.idl_token.specs.declared.kinds.Sign.TheVariants as s
use Rattle.idl_tree.specs.declared.widths.Width.{Width}
use Rattle.idl_tree.specs.declared.widths.Width.TheVariants as w
use Rattle.idl_tree.specs.declared.widths.Shape.{Shape}
use Rattle.idl_tree.specs.declared.widths.Shape.TheVariants as shape
use Rattle.idl_tree.specs.declared.expressions.Expr.{Expr}
use Rattle.idl_tree.specs.declared.statements.Target.{Target}
use Rattle.idl_tree.specs.declared.statements.Target.TheVariants as target
use Rattle.idl_tree.specs.declared.statements.Stmt.{Stmt}
use Rattle.idl_tree.specs.declared.statements.Stmt.TheVariants as st
use Rattle.idl_tree.specs.Print.{width_text, expr_text, shape_text, target_text, call_text, for_text, if_text, commas, stmt_lines}
use Rattle.idl_tree.proofs.Printed as f
use Rattle.idl_token.specs.Symbol.{Symbol}
use Rattle.idl_token.specs.Symbol as t
use Rattle.idl_grammar.specs.Tables.{is_access, mxlen, sw_write}
use Rattle.idl_grammar.specs.ExprGrammar.{Inside, place, slice, ReadsArgs}
use Rattle.idl_grammar.specs.StmtGrammar as g
use Rattle.idl_grammar.specs.StmtGrammar.{short_shape, ReadsShape, part_of_word, ReadsTarget, ReadsStmt, ReadsElse, ReadsStmts}
use Rattle.idl_back.specs.Piece.{Piece, gap, text_of}
use Rattle.idl_back.specs.Spelled.{IsSpelledSymbol, AreSpelled}
use Rattle.idl_back.proofs.Pieces.{sits_append}
use Rattle.idl_back.proofs.FrontWords.{reserved_sits}
use Rattle.idl_back.proofs.FrontSigns.{part_ends, closing_sits, reserved_opens}
use Rattle.idl_back.proofs.FrontRows.{row_sits, mixed_sits, spaced_sits}
use Rattle.idl_back.proofs.PrintedTexts.{Reading, Shows, shows_as, shows_fit, shows_row, shows_one, shows_then, shows_two, shows_both, signed, worded, named, spaced}
use Rattle.idl_back.proofs.PrintedWidths.{WidthOf, just_number, just_word, number_shown, word_shown, told_width, field_row, field_row_text, field_sits}
use Rattle.idl_back.proofs.PrintedParts.{ExprOf, ArgsOf, InsideOf, Shown, mxlen_spelled, call_none_shown, call_shown, close_open, close_open_sits, inside_text}
use Rattle.idl_back.proofs.PrintedExprs.{told_expr, told_inside}
use Rattle.idl_back.proofs.PrintedLines.{Goes, one_line, goes_is, shown_ends}

-- with a nesting of at most the number
abbrev pub ShapeOf : ℕ → Shape → Reading
ShapeOf h x = λ ts us. (n : ℕ) × (n ≤ h) × ReadsShape n ts us x

abbrev pub TargetOf : ℕ → Target → Reading
TargetOf h x = λ ts us. (n : ℕ) × (n ≤ h) × ReadsTarget n ts us x

abbrev pub StmtOf : ℕ → Stmt → Reading
StmtOf h x = λ ts us. (n : ℕ) × (n ≤ h) × ReadsStmt n ts us x

abbrev pub StmtsOf : ℕ → List Stmt → Reading
StmtsOf h xs = λ ts us. (n : ℕ) × (n ≤ h) × ReadsStmts n ts us xs

-- ---- types

abbrev ShapeShown : ℕ → Shape → Type 0
ShapeShown h x = Shows false (ShapeOf h x) (shape_text x)

bits_shown : (h : ℕ) (a : Width) → Shows true (WidthOf h a) (width_text a) → ShapeShown h (shape.Bits false a)
bits_shown h a q = shows_one (worded r.Bits ∷ signed s.Less ∷ []) (signed s.Greater ∷ []) q refl
    (λ y i. reserved_opens false r.Bits y refl (part_ends y i)) (λ y. refl) (λ y i. closing_sits y)
    (λ ts us c. (c.0, c.1, g.bits c.2))

abbrev signed_front : List Piece
signed_front = worded r.Signed ∷ gap 32 ∷ []

abbrev bits_front : List Piece
bits_front = worded r.Bits ∷ signed s.Less ∷ []

signed_bits_shown : (h : ℕ) (a : Width) → Shows true (WidthOf h a) (width_text a) → ShapeShown h (shape.Bits true a)
signed_bits_shown h a q = shows_one (worded r.Signed ∷ gap 32 ∷ worded r.Bits ∷ signed s.Less ∷ []) (signed s.Greater ∷ []) q refl
    (λ y i. sits_append false false true signed_front bits_front y (row_sits false signed_front (text_of bits_front ++ y) refl) (reserved_opens false r.Bits y refl (part_ends y i)))
    (λ y. refl) (λ y i. closing_sits y)
    (λ ts us c. (c.0, c.1, g.signed_bits c.2))

abbrev ShapeFact : Reserved → Option Shape → Type 0
ShapeFact c None = Unit {0}
ShapeFact c (Some x) = ShapeShown 0 x

shape_fact : (c : Reserved) → ShapeFact c (short_shape c)
shape_fact r.Bits = tt
shape_fact r.Boolean = shows_row (worded r.Boolean ∷ []) refl (λ y i. reserved_sits false r.Boolean y refl i) (λ us. (0, omega arith, g.short refl))
shape_fact r.XReg = bits_shown 0 (w.Word mxlen) (word_shown true mxlen mxlen_spelled).bare
shape_fact r.U32 = bits_shown 0 (w.Number 32) (number_shown true 32 refl (omega arith)).bare
shape_fact r.U64 = bits_shown 0 (w.Number 64) (number_shown true 64 refl (omega arith)).bare
shape_fact r.Signed = tt
shape_fact r.True = tt
shape_fact r.False = tt
shape_fact r.If = tt
shape_fact r.Else = tt
shape_fact r.For = tt
shape_fact r.Return = tt
shape_fact r.Function = tt
shape_fact r.Returns = tt
shape_fact r.Arguments = tt
shape_fact r.Description = tt
shape_fact r.Body = tt
shape_fact r.X = tt
shape_fact r.Csr = tt
shape_fact r.Max = tt
shape_fact r.Mode = tt
shape_fact r.Xlen = tt
shape_fact r.Jump = tt
shape_fact r.Raise = tt
shape_fact r.ReadMemory = tt
shape_fact r.WriteMemory = tt
shape_fact r.PrivilegeMode = shows_row (worded r.PrivilegeMode ∷ []) refl (λ y i. reserved_sits false r.PrivilegeMode y refl i) (λ us. (0, omega arith, g.short refl))
shape_fact r.ExceptionCode = shows_row (worded r.ExceptionCode ∷ []) refl (λ y i. reserved_sits false r.ExceptionCode y refl i) (λ us. (0, omega arith, g.short refl))
shape_fact r.CsrFieldType = shows_row (worded r.CsrFieldType ∷ []) refl (λ y i. reserved_sits false r.CsrFieldType y refl i) (λ us. (0, omega arith, g.short refl))
shape_fact r.ExtensionName = tt
shape_fact r.CsrValue = tt

pub told_shape : {h : ℕ} {ts us : List Symbol} {x : Shape} → ReadsShape h ts us x → AreSpelled ts → AreSpelled us × Shows false (ShapeOf h x) (shape_text x)
told_shape (g.bits {h = h} {a = a} m) q = let i = told_width true m q.1.1 in (i.0.1, bits_shown h a i.1.1.bare)
told_shape (g.signed_bits {h = h} {a = a} m) q = let i = told_width true m q.1.1.1 in (i.0.1, signed_bits_shown h a i.1.1.bare)
told_shape (g.short {c = c} is) q = (q.1, subst (λ (o : Option Shape). ShapeFact c o) is (shape_fact c))

-- ---- targets

abbrev TargetShown : ℕ → Target → Type 0
TargetShown h x = Shows false (TargetOf h x) (target_text x)

word_target : (x : List ℕ) → IsSpelledSymbol (t.word x) → TargetShown 1 (target.Word x)
word_target x h = shows_as (λ ts us is. (1, omega arith, subst (λ (z : List Symbol). ReadsTarget 1 z us (target.Word x)) (sym is) g.word)) (just_word false x h)

part_text : (x : List ℕ) (j : Inside) → x ++ codes "[" ++ inside_text j ≡ target_text (part_of_word x j)
part_text x (place i) = sym (append_assoc (x ++ codes "[") (expr_text i) (codes "]"))
part_text x (slice a b) = append_assoc x (codes "[") (inside_text (slice a b))
    ∙ ap (λ (y : List ℕ). x ++ (codes "[" ++ y)) (sym (append_assoc (width_text a ++ codes ":") (width_text b) (codes "]")))

part_target : (n : ℕ) (x : List ℕ) (j : Inside) → IsSpelledSymbol (t.word x) → Shows false (InsideOf n j) (inside_text j) → TargetShown (suc n) (part_of_word x j)
part_target n x j h q = shows_fit (part_text x j)
    (shows_two (signed s.OpenBracket ∷ []) (just_word false x h) q (λ y i. row_sits false (signed s.OpenBracket ∷ []) y refl) (λ y. refl)
    (λ ts us ws is d. (suc d.0, omega (arith, d.1), subst (λ (z : List Symbol). ReadsTarget (suc d.0) z ws (part_of_word x j)) (sym is) (g.part d.2))))

register_target : {i j : ℕ} (a : Expr) → Shown i j a → TargetShown (suc j) (target.Register a)
register_target a q = shows_one (worded r.X ∷ signed s.OpenBracket ∷ []) (signed s.CloseBracket ∷ []) q.bare refl
    (λ y i. row_sits false (worded r.X ∷ signed s.OpenBracket ∷ []) y refl) (λ y. refl) (λ y i. row_sits false (signed s.CloseBracket ∷ []) y refl)
    (λ ts us c. (suc c.0, omega (arith, c.1), g.register c.2))

field_target : (x y : List ℕ) → IsSpelledSymbol (t.word x) → IsSpelledSymbol (t.word y) → TargetShown 1 (target.Field x y)
field_target x y h i = shows_fit (field_row_text x y) (shows_row (field_row x y) refl (λ z b. field_sits false x y z h i b) (λ us. (1, omega arith, g.field)))

pub told_target : {h : ℕ} {ts us : List Symbol} {x : Target} → ReadsTarget h ts us x → AreSpelled ts → AreSpelled us × Shows false (TargetOf h x) (target_text x)
told_target (g.word {x = x}) q = (q.1, word_target x q.0)
told_target (g.part {x = x} {h = n} {j = j} m) q = let i = told_inside m q.1.1 in (i.0, part_target n x j q.0 i.1)
told_target (g.register {x = x} m) q = let i = told_expr m q.1.1 in (i.0.1, register_target x i.1)
told_target (g.field {x = x} {y = y}) q = (q.1.1.1.1.1.1, field_target x y q.1.1.0 q.1.1.1.1.1.0)

-- ---- statements of one line

-- the same of its own lines
abbrev pub Lined : ℕ → Stmt → Type 0
Lined h x = Goes (StmtOf h x) (stmt_lines x)

simple : (h : ℕ) (x : Stmt) (line : List ℕ) → stmt_lines x ≡ line ∷ [] → Shows false (StmtOf h x) line → Lined h x
simple h x line is q = goes_is is (one_line (shown_ends q))

abbrev semicolon : List Piece
semicolon = signed s.Semicolon ∷ []

abbrev closing : List Piece
closing = signed s.CloseParen ∷ signed s.Semicolon ∷ []

-- a row before an expression, and one behind it
abbrev pub Declared : ℕ → Shape → List ℕ → Reading
Declared h x n = λ ts us. ShapeOf h x ts (t.word n ∷ us)

pub declared : (h : ℕ) (x : Shape) (n : List ℕ) → Shows false (ShapeOf h x) (shape_text x) → IsSpelledSymbol (t.word n) → Shows false (Declared h x n) (shape_text x ++ codes " " ++ n)
declared h x n q spelled = shows_two (gap 32 ∷ []) q (just_word false n spelled) (λ y i. row_sits false (gap 32 ∷ []) y refl) (λ y. refl)
    (λ ts us ws c is. subst (λ (z : List Symbol). ShapeOf h x ts z) is c)

abbrev Set : Reading → ℕ → Expr → Reading
Set P h a = λ ts ws. (us : List Symbol) × P ts (t.sign s.Assign ∷ us) × ExprOf h a us ws

set : {P : Reading} {x : List ℕ} {i j : ℕ} (a : Expr) → Shows false P x → Shown i j a → Shows false (Set P j a) (x ++ codes " = " ++ expr_text a)
set {P} {x} a p q = shows_two (spaced s.Assign) p q.bare (λ y i. spaced_sits s.Assign y) (λ y. refl) (λ ts us ws c d. (us, c, d))

pub declare_lined : {i j : ℕ} (h : ℕ) (x : Shape) (n : List ℕ) (a : Expr) → Shows false (ShapeOf h x) (shape_text x) → IsSpelledSymbol (t.word n) → Shown i j a → Lined (suc (max h j)) (st.Declare x n a)
declare_lined {i} {j} h x n a p spelled q = simple (suc (max h j)) (st.Declare x n a) (shape_text x ++ codes " " ++ n ++ codes " = " ++ expr_text a ++ codes ";") (f.stmt_lines-Declare x n a)
    (shows_then semicolon (set a (declared h x n p spelled) q) (λ y. refl) (λ y i. row_sits false semicolon y refl)
    (λ ts us c. (suc (max c.1.0 c.2.0), omega (arith, c.1.1, c.2.1), g.declare c.1.2 c.2.2)))

pub assign_lined : {i j : ℕ} (h : ℕ) (x : Target) (a : Expr) → Shows false (TargetOf h x) (target_text x) → Shown i j a → Lined (suc (max h j)) (st.Assign x a)
assign_lined {i} {j} h x a p q = simple (suc (max h j)) (st.Assign x a) (target_text x ++ codes " = " ++ expr_text a ++ codes ";") (f.stmt_lines-Assign x a)
    (shows_then semicolon (set a p q) (λ y. refl) (λ y i. row_sits false semicolon y refl)
    (λ ts us c. (suc (max c.1.0 c.2.0), omega (arith, c.1.1, c.2.1), g.assign c.1.2 c.2.2)))

abbrev return_row : List Piece
return_row = worded r.Return ∷ gap 32 ∷ []

pub return_lined : {i j : ℕ} (a : Expr) → Shown i j a → Lined (suc j) (st.Return a)
return_lined {i} {j} a q = simple (suc j) (st.Return a) (codes "return " ++ expr_text a ++ codes ";") (f.stmt_lines-Return a)
    (shows_one return_row semicolon q.bare refl (λ y i. row_sits false return_row y refl) (λ y. refl) (λ y i. row_sits false semicolon y refl)
    (λ ts us c. (suc c.0, omega (arith, c.1), g.give c.2)))

abbrev jump_row : List Piece
jump_row = worded r.Jump ∷ signed s.OpenParen ∷ []

pub jump_lined : {i j : ℕ} (a : Expr) → Shown i j a → Lined (suc j) (st.Jump a)
jump_lined {i} {j} a q = simple (suc j) (st.Jump a) (codes "jump(" ++ expr_text a ++ codes ");") (f.stmt_lines-Jump a)
    (shows_one jump_row closing q.bare refl (λ y i. row_sits false jump_row y refl) (λ y. refl) (λ y i. row_sits false closing y refl)
    (λ ts us c. (suc c.0, omega (arith, c.1), g.jump c.2)))

abbrev raise_row : List Piece
raise_row = worded r.Raise ∷ signed s.OpenParen ∷ []

abbrev mode_row : List Piece
mode_row = signed s.Comma ∷ gap 32 ∷ worded r.Mode ∷ signed s.OpenParen ∷ signed s.CloseParen ∷ signed s.Comma ∷ gap 32 ∷ []

pub raise_lined : {i j k l : ℕ} (a b : Expr) → Shown i j a → Shown k l b → Lined (suc (max j l)) (st.Raise a b)
raise_lined {i} {j} {k} {l} a b p q = simple (suc (max j l)) (st.Raise a b) (codes "raise(" ++ expr_text a ++ codes ", mode(), " ++ expr_text b ++ codes ");") (f.stmt_lines-Raise a b)
    (shows_both raise_row mode_row closing p.bare q.bare refl
    (λ y i. row_sits false raise_row y refl) (λ y. refl) (λ y i. row_sits false mode_row y refl) (λ y. refl) (λ y i. row_sits false closing y refl)
    (λ ts us ws c d. (suc (max c.0 d.0), omega (arith, c.1, d.1), g.trap c.2 d.2)))

abbrev Pair : ℕ → ℕ → Expr → Expr → Reading
Pair h i a b = λ ts ws. (us : List Symbol) × ExprOf h a ts (t.sign s.Comma ∷ us) × ExprOf i b us ws

abbrev comma_row : List Piece
comma_row = signed s.Comma ∷ gap 32 ∷ []

pair : {i j k l : ℕ} (a b : Expr) → Shown i j a → Shown k l b → Shows false (Pair j l a b) (expr_text a ++ codes ", " ++ expr_text b)
pair a b p q = shows_two comma_row p.bare q.bare (λ y i. row_sits false comma_row y refl) (λ y. refl) (λ ts us ws c d. (us, c, d))

write_text : (a x y z : List ℕ) → a ++ (x ++ codes ", " ++ y) ++ z ≡ a ++ x ++ codes ", " ++ y ++ z
write_text a x y z = ap (λ (b : List ℕ). b ++ z)
    (ap (λ (b : List ℕ). a ++ b) (append_assoc x (codes ", ") y) ∙ sym (append_assoc (a ++ x) (codes ", ") y ∙ append_assoc a x (codes ", " ++ y)))

pub write_memory_lined : {i j k l : ℕ} (n : ℕ) (a b : Expr) → is_access n ≡ true → n < 2 ^ 128 → Shown i j a → Shown k l b → Lined (suc (max j l)) (st.WriteMemory n a b)
write_memory_lined {i} {j} {k} {l} n a b ok h p q = simple (suc (max j l)) (st.WriteMemory n a b) (codes "write_memory<" ++ decimal n ++ codes ">(" ++ expr_text a ++ codes ", " ++ expr_text b ++ codes ");") (f.stmt_lines-WriteMemory n a b)
    (shows_fit (write_text (codes "write_memory<" ++ decimal n ++ codes ">(") (expr_text a) (expr_text b) (codes ");"))
    (shows_both (worded r.WriteMemory ∷ signed s.Less ∷ []) close_open closing (just_number true n h) (pair a b p q) refl
    (λ y i. reserved_opens false r.WriteMemory y refl (part_ends y i)) (λ y. refl) (λ y i. close_open_sits y) (λ y. refl) (λ y i. row_sits false closing y refl)
    (λ ts us ws is c. (suc (max c.1.0 c.2.0), omega (arith, c.1.1, c.2.1), subst (λ (z : List Symbol). ReadsStmt (suc (max c.1.0 c.2.0)) (t.reserved r.WriteMemory ∷ t.sign s.Less ∷ z) ws (st.WriteMemory n a b)) (sym is) (g.write_memory ok c.1.2 c.2.2)))))

abbrev csr_row : List Piece
csr_row = worded r.Csr ∷ signed s.OpenBracket ∷ []

abbrev soft_row : List Piece
soft_row = signed s.CloseBracket ∷ signed s.Dot ∷ named sw_write ∷ signed s.OpenParen ∷ []

pub soft_write_lined : {i j k l : ℕ} (a b : Expr) → IsSpelledSymbol (t.word sw_write) → Shown i j a → Shown k l b → Lined (suc (max j l)) (st.SoftWrite a b)
soft_write_lined {i} {j} {k} {l} a b h p q = simple (suc (max j l)) (st.SoftWrite a b) (codes "CSR[" ++ expr_text a ++ codes "].sw_write(" ++ expr_text b ++ codes ");") (f.stmt_lines-SoftWrite a b)
    (shows_both csr_row soft_row closing p.bare q.bare refl
    (λ y i. row_sits false csr_row y refl) (λ y. refl) (λ y i. mixed_sits false soft_row y (refl, (refl, ((h.0, h.1, refl), (refl, tt))))) (λ y. refl) (λ y i. row_sits false closing y refl)
    (λ ts us ws c d. (suc (max c.0 d.0), omega (arith, c.1, d.1), g.soft_write c.2 d.2)))

-- what reads as the call where a semicolon follows
abbrev Called : ℕ → List ℕ → List Expr → Reading
Called h x xs = λ ts us. (ws : List Symbol) → us ≡ t.sign s.Semicolon ∷ ws → StmtOf h (st.Call x xs) ts ws

called : (h : ℕ) (x : List ℕ) (xs : List Expr) → Shows false (Called h x xs) (call_text x (map expr_text xs)) → Lined h (st.Call x xs)
called h x xs q = simple h (st.Call x xs) (call_text x (map expr_text xs) ++ codes ";") (f.stmt_lines-Call x xs)
    (shows_then semicolon q (λ y. refl) (λ y i. row_sits false semicolon y refl) (λ ts us c. c us refl))

pub call_none_lined : (x : List ℕ) → IsSpelledSymbol (t.word x) → Lined 1 (st.Call x [])
call_none_lined x h = called 1 x [] (call_none_shown x h
    (λ us ws is. (1, omega arith, subst (λ (z : List Symbol). ReadsStmt 1 (t.word x ∷ t.sign s.OpenParen ∷ t.sign s.CloseParen ∷ z) ws (st.Call x [])) (sym is) g.call_none)))

pub call_lined : (n : ℕ) (x : List ℕ) (xs : List Expr) → IsSpelledSymbol (t.word x) → Shows false (ArgsOf n xs) (commas (map expr_text xs)) → Lined (suc n) (st.Call x xs)
call_lined n x xs h q = called (suc n) x xs (call_shown n x xs h q
    (λ ts us c ws is. (suc c.0, omega (arith, c.1), g.call (subst (λ (z : List Symbol). ReadsArgs c.0 ts (t.sign s.CloseParen ∷ z) xs) is c.2))))

-- ---- first lines of blocks: what reads as the statement where the rest follows

abbrev pub Tests : ℕ → Expr → Reading
Tests h a = λ ts us. (ys : List Stmt) (zs : Option (List Stmt)) (vs ws : List Symbol) (i j : ℕ) → ReadsStmts i us (t.sign s.CloseBrace ∷ vs) ys → ReadsElse j vs ws zs → StmtOf (suc (max h (max i j))) (st.If a ys zs) ts ws

abbrev if_row : List Piece
if_row = worded r.If ∷ gap 32 ∷ signed s.OpenParen ∷ []

abbrev then_row : List Piece
then_row = signed s.CloseParen ∷ gap 32 ∷ signed s.OpenBrace ∷ []

pub if_shown : {i j : ℕ} (a : Expr) → Shown i j a → Shows false (Tests j a) (if_text a)
if_shown a q = shows_one if_row then_row q.bare refl (λ y i. row_sits false if_row y refl) (λ y. refl) (λ y i. row_sits false then_row y refl)
    (λ ts us c ys zs vs ws x y m n. (suc (max c.0 (max x y)), omega (arith, c.1), g.when c.2 m n))

abbrev pub Counts : ℕ → ℕ → List ℕ → Width → Width → Reading
Counts h i x a b = λ ts us. (ys : List Stmt) (ws : List Symbol) (j : ℕ) → ReadsStmts j us (t.sign s.CloseBrace ∷ ws) ys → StmtOf (suc (max h (max i j))) (st.For x a b ys) ts ws

abbrev from_row : List ℕ → List Piece
from_row x = worded r.For ∷ gap 32 ∷ signed s.OpenParen ∷ worded r.U32 ∷ gap 32 ∷ named x ∷ gap 32 ∷ signed s.Assign ∷ gap 32 ∷ []

abbrev below_row : List ℕ → List Piece
below_row x = signed s.Semicolon ∷ gap 32 ∷ named x ∷ gap 32 ∷ signed s.Less ∷ gap 32 ∷ []

abbrev up_row : List ℕ → List Piece
up_row x = signed s.Semicolon ∷ gap 32 ∷ named x ∷ signed s.Increment ∷ signed s.CloseParen ∷ gap 32 ∷ signed s.OpenBrace ∷ []

loop_text : (x : List ℕ) (a b : Width) → text_of (from_row x) ++ width_text a ++ text_of (below_row x) ++ width_text b ++ text_of (up_row x) ≡ for_text x a b
loop_text x a b =
    ap (λ (z : List ℕ). z ++ width_text b ++ text_of (up_row x)) (parts (codes "for (U32 " ++ x ++ codes " = " ++ width_text a) (codes "; ") x (codes " < "))
    ∙ parts (codes "for (U32 " ++ x ++ codes " = " ++ width_text a ++ codes "; " ++ x ++ codes " < " ++ width_text b) (codes "; ") x (codes "++) {")
  where
    parts : (p q y z : List ℕ) → p ++ (q ++ (y ++ z)) ≡ p ++ q ++ y ++ z
    parts p q y z = sym (append_assoc (p ++ q) y z ∙ append_assoc p q (y ++ z))

pub for_shown : (m n : ℕ) (x : List ℕ) (a b : Width) → IsSpelledSymbol (t.word x) → Shows false (WidthOf m a) (width_text a) → Shows false (WidthOf n b) (width_text b) → Shows false (Counts m n x a b) (for_text x a b)
for_shown m n x a b h p q = shows_fit (loop_text x a b)
    (shows_both (from_row x) (below_row x) (up_row x) p q refl
    (λ y i. mixed_sits false (from_row x) y (refl, (refl, (refl, (refl, (refl, ((h.0, h.1, refl), (refl, (refl, (refl, tt))))))))))
    (λ y. refl)
    (λ y i. mixed_sits false (below_row x) y (refl, (refl, ((h.0, h.1, refl), (refl, (refl, (refl, tt)))))))
    (λ y. refl)
    (λ y i. mixed_sits false (up_row x) y (refl, (refl, ((h.0, h.1, refl), (refl, (refl, (refl, (refl, tt))))))))
    (λ ts us ws c d ys vs j y. (suc (max c.0 (max d.0 j)), omega (arith, c.1, d.1), g.count c.2 d.2 y)))
