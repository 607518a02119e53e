-- Functions that were read are printed as lines that read as them.
use Rattle.std.proofs.Common.{◌≤◌, ◌≡◌, ℕ, suc, ◌==◌, max, false, List, [], ◌∷◌, ◌++◌, length, map, Option, Some, codes, refl, sym, ap, ◌∙◌, subst, append_assoc, append-nil, true≢false, arith}
use Rattle.std.specs.List.{flat_map}
use Rattle.std.proofs.lemmas.Bool.{eqb-true, false_from_ne_true}
use Rattle.idl_token.specs.declared.kinds.Reserved.TheVariants as r
use Rattle.idl_token.specs.declared.kinds.Sign.TheVariants as s
use Rattle.idl_token.specs.Lexeme.{Lexeme}
use Rattle.idl_token.specs.Rows.{IsRow}
use Rattle.idl_tree.specs.declared.widths.Shape.{Shape}
use Rattle.idl_tree.specs.declared.statements.Stmt.{Stmt}
use Rattle.idl_tree.specs.declared.programs.Argument.{Argument}
use Rattle.idl_tree.specs.declared.programs.Body.{Body}
use Rattle.idl_tree.specs.declared.programs.Function.{Function}
use Rattle.udb_base.specs.Lines.{Lines}
use Rattle.idl_tree.specs.Print.{shape_text, commas, indented, stmt_lines}
use Rattle.idl_tree.specs.PrintFunctions.{argument_text, arguments_text, returns_lines, arguments_lines, block_lines, function_lines, functions_text}
use Rattle.idl_tree.proofs.Margins.{margined-one, margined-twice}
use Rattle.idl_tree.proofs.FunctionLemmas.{argument-is, returns-None, returns-Some, arguments-none, arguments-some, block-is, function-is}
use Rattle.idl_token.specs.Symbol.{Symbol, symbols}
use Rattle.idl_token.specs.Symbol as t
use Rattle.idl_grammar.specs.Faults.{OfFunctions, ReadsWithin}
use Rattle.idl_grammar.specs.StmtGrammar as g
use Rattle.idl_grammar.specs.StmtGrammar.{ReadsResult, ReadsArgument, ReadsArguments, ReadsTaken, ReadsAbout, ReadsStmts, ReadsFunction, ReadsFunctions}
use Rattle.idl_back.specs.Piece.{Piece, gap}
use Rattle.idl_back.specs.Spelled.{IsSpelledSymbol, AreSpelled}
use Rattle.idl_back.proofs.Spelled.{row_symbols}
use Rattle.idl_back.proofs.FrontRows.{row_sits, mixed_sits}
use Rattle.idl_back.proofs.PrintedTexts.{Reading, Shows, shows_as, shows_fit, shows_after, shows_two, signed, worded, named}
use Rattle.idl_back.proofs.PrintedLines.{Goes, Behind, one_line, row_ends, shown_ends, goes_is, no_lines, goes_on, further}
use Rattle.idl_back.proofs.PrintedSimple.{ShapeOf, told_shape, declared}
use Rattle.idl_back.proofs.PrintedStmts.{AllLined, close_lines, told_stmts, lines_row}

-- ---- results

-- with a nesting of at most the number
abbrev ResultOf : ℕ → Option Shape → Reading
ResultOf h x = λ ts us. (n : ℕ) × (n ≤ h) × ReadsResult n ts us x

abbrev ResultLined : ℕ → Option Shape → Type 0
ResultLined h x = Goes (ResultOf h x) (returns_lines x)

abbrev returns_row : List Piece
returns_row = worded r.Returns ∷ gap 32 ∷ []

returned : (h : ℕ) (x : Shape) → Shows false (ShapeOf h x) (shape_text x) → Shows false (ResultOf h (Some x)) (codes "returns " ++ shape_text x)
returned h x q = shows_after returns_row q refl (λ y i. row_sits false returns_row y refl) (λ ts us c. (c.0, c.1, g.result c.2))

told_result : {h : ℕ} {ts us : List Symbol} {x : Option Shape} → ReadsResult h ts us x → AreSpelled ts → AreSpelled us × ResultLined h x
told_result g.no_result q = (q, goes_is returns-None (no_lines (λ us. (0, omega arith, g.no_result))))
told_result (g.result {h = h} {x = x} m) q =
    let i = told_shape m q.1 in
    (i.0, goes_is (returns-Some x ∙ sym (margined-one (codes "  ") (codes "returns " ++ shape_text x))) (further (one_line (shown_ends (returned h x i.1)))))

-- ---- arguments

abbrev ArgumentOf : ℕ → Argument → Reading
ArgumentOf h x = λ ts us. (n : ℕ) × (n ≤ h) × ReadsArgument n ts us x

abbrev ArgumentsOf : ℕ → List Argument → Reading
ArgumentsOf h xs = λ ts us. (n : ℕ) × (n ≤ h) × ReadsArguments n ts us xs

abbrev of_shape : Shape → List ℕ → Argument
of_shape x y = record { shape = x; name = y }

argument_shown : (h : ℕ) (x : Shape) (y : List ℕ) → Shows false (ShapeOf h x) (shape_text x) → IsSpelledSymbol (t.word y) → Shows false (ArgumentOf h (of_shape x y)) (argument_text (of_shape x y))
argument_shown h x y q spelled = shows_fit (sym (argument-is (of_shape x y))) (shows_as (λ ts us c. (c.0, c.1, g.argument c.2)) (declared h x y q spelled))

told_argument : {h : ℕ} {ts us : List Symbol} {x : Argument} → ReadsArgument h ts us x → AreSpelled ts → AreSpelled us × Shows false (ArgumentOf h x) (argument_text x)
told_argument (g.argument {h = h} {x = x} {y = y} m) q = let i = told_shape m q in (i.0.1, argument_shown h x y i.1 i.0.0)

abbrev ArgumentsShown : ℕ → List Argument → Type 0
ArgumentsShown h xs = Shows false (ArgumentsOf h xs) (commas (map argument_text xs))

one_argument : (h : ℕ) (x : Argument) → Shows false (ArgumentOf h x) (argument_text x) → ArgumentsShown h (x ∷ [])
one_argument h x q = shows_fit (sym (append-nil (argument_text x))) (shows_as (λ ts us c. (c.0, c.1, g.one c.2)) q)

abbrev comma_row : List Piece
comma_row = signed s.Comma ∷ gap 32 ∷ []

several_arguments : (h i : ℕ) (x : Argument) (xs : List Argument) → Shows false (ArgumentOf h x) (argument_text x) → ArgumentsShown i xs → ArgumentsShown (max h i) (x ∷ xs)
several_arguments h i x [] p q = absurd (true≢false (sym q.begins))
several_arguments h i x (y ∷ xs) p q = shows_fit (append_assoc (argument_text x) (codes ", ") (commas (map argument_text (y ∷ xs))))
    (shows_two comma_row p q (λ z b. row_sits false comma_row z refl) (λ z. refl) (λ ts us ws c d. (max c.0 d.0, omega (arith, c.1, d.1), g.several c.2 d.2)))

told_arguments : {h : ℕ} {ts us : List Symbol} {xs : List Argument} → ReadsArguments h ts us xs → AreSpelled ts → AreSpelled us × ArgumentsShown h xs
told_arguments (g.one {h = h} {x = x} m) q = let i = told_argument m q in (i.0, one_argument h x i.1)
told_arguments (g.several {h = h} {i = n} {x = x} {xs = xs} m l) q = let i = told_argument m q in let j = told_arguments l i.0.1 in (j.0, several_arguments h n x xs i.1 j.1)

abbrev TakenOf : ℕ → List Argument → Reading
TakenOf h xs = λ ts us. (n : ℕ) × (n ≤ h) × ReadsTaken n ts us xs

abbrev TakenLined : ℕ → List Argument → Type 0
TakenLined h xs = Goes (TakenOf h xs) (arguments_lines xs)

abbrev arguments_row : List Piece
arguments_row = worded r.Arguments ∷ gap 32 ∷ []

arguments_are : (xs : List Argument) → arguments_text xs ≡ commas (map argument_text xs)
unfolding arguments_text
arguments_are xs = refl

not_empty : (n : ℕ) → (suc n == 0) ≡ false
not_empty n = false_from_ne_true (suc n == 0) (λ e. let is = eqb-true (suc n) 0 e in omega arith)

some_taken : (h : ℕ) (xs : List Argument) → ArgumentsShown h xs → TakenLined h xs
some_taken h [] q = absurd (true≢false (sym q.begins))
some_taken h (x ∷ xs) q = goes_is
    (arguments-some (x ∷ xs) (not_empty (length xs))
    ∙ ap (λ (y : List ℕ). (codes "  arguments " ++ y) ∷ []) (arguments_are (x ∷ xs))
    ∙ sym (margined-one (codes "  ") (codes "arguments " ++ commas (map argument_text (x ∷ xs)))))
    (further (one_line (shown_ends (shows_after arguments_row q refl (λ y i. row_sits false arguments_row y refl) (λ ts us c. (c.0, c.1, g.arguments c.2))))))

told_taken : {h : ℕ} {ts us : List Symbol} {xs : List Argument} → ReadsTaken h ts us xs → AreSpelled ts → AreSpelled us × TakenLined h xs
told_taken g.no_arguments q = (q, goes_is (arguments-none [] refl) (no_lines (λ us. (0, omega arith, g.no_arguments))))
told_taken (g.arguments {h = h} {xs = xs} m) q = let i = told_arguments m q.1 in (i.0, some_taken h xs i.1)

-- ---- bodies

abbrev of_statements : List Stmt → Body
of_statements ys = record { variables = []; statements = ys }

-- the body's word and braces, and the brace that ends the function
abbrev BodyOf : ℕ → List Stmt → Reading
BodyOf h ys = λ ts us. (ws : List Symbol) × (ts ≡ t.reserved r.Body ∷ t.sign s.OpenBrace ∷ ws) × ((n : ℕ) × (n ≤ h) × ReadsStmts n ws (t.sign s.CloseBrace ∷ t.sign s.CloseBrace ∷ us) ys)

abbrev body_row : List Piece
body_row = worded r.Body ∷ gap 32 ∷ signed s.OpenBrace ∷ []

abbrev three : Lines → Lines → Lines → Lines
three a b c = a ++ (b ++ (c ++ (codes "}" ∷ [])))

block_parts : (ys : List Stmt) → block_lines (of_statements ys) ≡ three (indented (codes "body {" ∷ [])) (indented (indented (flat_map stmt_lines ys))) (indented (codes "}" ∷ []))
block_parts ys =
    block-is (of_statements ys)
    ∙ ap (λ (b : Lines). three (codes "  body {" ∷ []) b (codes "  }" ∷ [])) (margined-twice (codes "  ") (codes "  ") (flat_map stmt_lines ys))
    ∙ ap (λ (a : Lines). three a (indented (indented (flat_map stmt_lines ys))) (codes "  }" ∷ [])) (sym (margined-one (codes "  ") (codes "body {")))
    ∙ ap (λ (c : Lines). three (indented (codes "body {" ∷ [])) (indented (indented (flat_map stmt_lines ys))) c) (sym (margined-one (codes "  ") (codes "}")))

abbrev BothClosed : Reading
BothClosed = λ ts us. ts ≡ t.sign s.CloseBrace ∷ t.sign s.CloseBrace ∷ us

close_both : Goes BothClosed (indented (codes "}" ∷ []) ++ (codes "}" ∷ []))
close_both = goes_on (further close_lines) close_lines (λ ts us ws c d. c ∙ ap (λ (z : List Symbol). t.sign s.CloseBrace ∷ z) d)

abbrev Inner : ℕ → List Stmt → Reading
Inner h ys = λ ts us. (n : ℕ) × (n ≤ h) × ReadsStmts n ts (t.sign s.CloseBrace ∷ t.sign s.CloseBrace ∷ us) ys

inner_goes : (h : ℕ) (ys : List Stmt) → AllLined h ys → Goes (Inner h ys) (indented (indented (flat_map stmt_lines ys)) ++ (indented (codes "}" ∷ []) ++ (codes "}" ∷ [])))
inner_goes h ys q = goes_on (further (further q)) close_both (λ ts us ws c d. (c.0, c.1, subst (λ (z : List Symbol). ReadsStmts c.0 ts z ys) d c.2))

body_goes : (h : ℕ) (ys : List Stmt) → AllLined h ys → Goes (BodyOf h ys) (block_lines (of_statements ys))
body_goes h ys q = goes_is (block_parts ys)
    (goes_on (further (one_line (row_ends body_row (λ y e. row_sits false body_row y refl)))) (inner_goes h ys q) (λ ts us ws c d. (us, c, d)))

-- ---- functions

abbrev FunctionOf : ℕ → Function → Reading
FunctionOf h x = λ ts us. (n : ℕ) × (n ≤ h) × ReadsFunction n ts us x

abbrev FunctionLined : ℕ → Function → Type 0
FunctionLined h x = Goes (FunctionOf h x) (function_lines x)

about_rest : {ts us : List Symbol} → ReadsAbout ts us → AreSpelled ts → AreSpelled us
about_rest g.no_description q = q
about_rest g.empty q = q.1.1.1
about_rest g.described q = q.1.1.1.1

abbrev of_parts : List ℕ → Option Shape → List Argument → List Stmt → Function
of_parts x y xs ys = record { name = x; result = y; arguments = xs; body = record { variables = []; statements = ys } }

abbrev function_row : List ℕ → List Piece
function_row x = worded r.Function ∷ gap 32 ∷ named x ∷ gap 32 ∷ signed s.OpenBrace ∷ []

abbrev Named : List ℕ → Reading
Named x = λ ts us. ts ≡ t.reserved r.Function ∷ t.word x ∷ t.sign s.OpenBrace ∷ us

header_goes : (x : List ℕ) → IsSpelledSymbol (t.word x) → Goes (Named x) ((codes "function " ++ x ++ codes " {") ∷ [])
header_goes x h = one_line (row_ends (function_row x) (λ y e. mixed_sits false (function_row x) y (refl, (refl, ((h.0, h.1, refl), (refl, (refl, tt)))))))

parts_goes : (h i j : ℕ) (y : Option Shape) (xs : List Argument) (ys : List Stmt) → ResultLined h y → TakenLined i xs → AllLined j ys
    → Goes (Behind (ResultOf h y) (Behind (TakenOf i xs) (BodyOf j ys))) (returns_lines y ++ (arguments_lines xs ++ block_lines (of_statements ys)))
parts_goes h i j y xs ys p q m = goes_on p (behind q) (λ ts us ws c d. (us, c, d)) where
  behind : TakenLined i xs → Goes (Behind (TakenOf i xs) (BodyOf j ys)) (arguments_lines xs ++ block_lines (of_statements ys))
  behind n = goes_on n (body_goes j ys m) (λ ts us ws c d. (us, c, d))

function_lined : (h i j : ℕ) (x : List ℕ) (y : Option Shape) (xs : List Argument) (ys : List Stmt) → IsSpelledSymbol (t.word x) → ResultLined h y → TakenLined i xs → AllLined j ys → FunctionLined (max h (max i j)) (of_parts x y xs ys)
function_lined h i j x y xs ys spelled p q m = goes_is (function-is (of_parts x y xs ys))
    (goes_on (header_goes x spelled) (parts_goes h i j y xs ys p q m)
    (λ ts us ws c d. (
      max d.1.0 (max d.2.1.0 d.2.2.2.0),
      omega (arith, d.1.1, d.2.1.1, d.2.2.2.1),
      subst (λ (z : List Symbol). ReadsFunction (max d.1.0 (max d.2.1.0 d.2.2.2.0)) z ws (of_parts x y xs ys)) (sym c)
          (g.function d.1.2 d.2.1.2 (subst (λ (z : List Symbol). ReadsAbout d.2.0 z) d.2.2.1 g.no_description) d.2.2.2.2),
    )))

told_function : {h : ℕ} {ts us : List Symbol} {x : Function} → ReadsFunction h ts us x → AreSpelled ts → AreSpelled us × FunctionLined h x
told_function (g.function {h = c} {i = d} {j = e} {x = x} {y = y} {xs = xs} {ys = ys} m n l k) q =
    let i = told_result m q.1.1.1 in
    let j = told_taken n i.0 in
    let a = about_rest l j.0 in
    let b = told_stmts k a.1.1 in
    (b.0.1.1, function_lined c d e x y xs ys q.1.0 i.1 j.1 b.1)

abbrev FunctionsOf : ℕ → List Function → Reading
FunctionsOf h xs = λ ts us. (n : ℕ) × (n ≤ h) × ReadsFunctions n ts us xs

told_functions : {h : ℕ} {ts us : List Symbol} {xs : List Function} → ReadsFunctions h ts us xs → AreSpelled ts → AreSpelled us × Goes (FunctionsOf h xs) (flat_map function_lines xs)
told_functions g.none q = (q, no_lines (λ us. (0, omega arith, g.none)))
told_functions (g.then m n) q = let i = told_function m q in let j = told_functions n i.0 in (j.0, goes_on i.1 j.1 (λ ts us ws c d. (max c.0 d.0, omega (arith, c.1, d.1), g.then c.2 d.2)))

pub functions_read : (source : List ℕ) (ts : List Lexeme) (h : ℕ) (xs : List Function) → IsRow source ts → OfFunctions h (symbols ts) xs
    → (us : List Lexeme) × IsRow (functions_text xs) us × ReadsWithin OfFunctions h (symbols us) xs
functions_read source ts h xs row reads = lines_row (FunctionsOf h xs) (flat_map function_lines xs) (told_functions reads (row_symbols source ts row)).1
