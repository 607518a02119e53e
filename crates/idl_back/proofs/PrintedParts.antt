-- Expressions of each form are printed as texts that read as them, if their parts are.
use Rattle.std.proofs.Common.{◌≡◌, ℕ, zero, suc, max, ◌<◌, ◌≤◌, ◌^◌, Bool, true, false, List, [], ◌∷◌, ◌++◌, map, Option, Some, codes, refl, sym, ap, ◌∙◌, subst, append_assoc, append-nil, true≢false, decimal, arith}
use Rattle.std.specs.List.{list_all}
use Rattle.idl_token.specs.declared.kinds.Reserved.{Reserved}
use Rattle.idl_token.specs.declared.kinds.Reserved.TheVariants as r
use Rattle.idl_token.specs.declared.kinds.Special.TheVariants as p
use Rattle.idl_token.specs.declared.kinds.Sign.{Sign}
use Rattle.idl_token.specs.declared.kinds.Sign.TheVariants as s
use Rattle.idl_token.specs.declared.kinds.TokenKind.TheVariants as k
use Rattle.idl_token.specs.Spelling.{reserved_text}
use Rattle.idl_token.specs.Numbers.{SizedWidth, Number, Parameter}
use Rattle.idl_token.specs.Front.{is_no_quote}
use Rattle.idl_tree.specs.declared.widths.Width.{Width}
use Rattle.idl_tree.specs.declared.widths.Width.TheVariants as w
use Rattle.idl_tree.specs.declared.widths.EnumKind.{EnumKind}
use Rattle.idl_tree.specs.declared.expressions.Unary.{Unary}
use Rattle.idl_tree.specs.declared.expressions.Binary.{Binary}
use Rattle.idl_tree.specs.declared.expressions.Expr.{Expr}
use Rattle.idl_tree.specs.declared.expressions.Expr.TheVariants as e
use Rattle.idl_tree.specs.Print.{Form, within, width_form, width_text, expr_form, expr_text, quote_word, commas, call_text}
use Rattle.idl_tree.proofs.Printed as f
use Rattle.idl_token.specs.Symbol.{Symbol}
use Rattle.idl_token.specs.Symbol as t
use Rattle.idl_grammar.specs.Tables.{Infix, plain, wide, binding, unary_of, enum_of, sized_width, width_if, is_short, is_access, mxlen, sw_read}
use Rattle.idl_grammar.specs.ExprGrammar as g
use Rattle.idl_grammar.specs.ExprGrammar.{Inside, place, slice, part_of, ReadsPost, ReadsLevel, ReadsBinary, ReadsChoice, ReadsExpr, ReadsArgs, ReadsInside}
use Rattle.idl_back.specs.Piece.{Piece, token, gap, text_of, Sits, between_quotes}
use Rattle.idl_back.specs.Spelled.{IsSpelledSymbol}
use Rattle.idl_back.proofs.Pieces.{sits_append}
use Rattle.idl_back.proofs.FrontWords.{reserved_sits, mxlen_word}
use Rattle.idl_back.proofs.FrontSigns.{part_ends, closing_sits, reserved_opens, special_opens}
use Rattle.idl_back.proofs.FrontNumbers.{sized_number_sits, sized_number_symbol, sized_word_sits, sized_word_symbol}
use Rattle.idl_back.proofs.FrontTexts.{text_sits, text_symbol}
use Rattle.idl_back.proofs.FrontParts.{part_append, word_part, number_part, reserved_part, sized_part}
use Rattle.idl_back.proofs.FrontRows.{row_sits, mixed_sits, spaced_sits}
use Rattle.idl_back.proofs.PrintedTexts.{Reading, Shows, shows_as, shows_fit, shows_row, shows_one, shows_after, shows_then, shows_two, shows_both, shows_parens, shows_token, signed, worded, special, named, before_part, spaced}
use Rattle.idl_back.proofs.PrintedTables.{rise, InfixFact, infix_fact, UnaryFact, unary_fact, EnumFact, enum_fact}
use Rattle.idl_back.proofs.PrintedWidths.{WidthOf, ShowsWidth, Just, just_number, just_word, field_row, field_row_text, field_sits}

-- with a nesting of at most the number
abbrev pub PostOf : ℕ → Expr → Reading
PostOf h a = λ ts us. (n : ℕ) × (n ≤ h) × ReadsPost n ts us a

abbrev pub LevelOf : ℕ → Expr → Reading
LevelOf h a = λ ts us. (n : ℕ) × (n ≤ h) × ReadsLevel n 0 ts us a

abbrev pub BinaryOf : ℕ → Expr → Reading
BinaryOf h a = λ ts us. (n : ℕ) × (n ≤ h) × (m : ℕ) × (d : ℕ) × (rise d (suc m) ≡ 10) × ReadsBinary n m ts us a

abbrev pub ChoiceOf : ℕ → Expr → Reading
ChoiceOf h a = λ ts us. (n : ℕ) × (n ≤ h) × ReadsChoice n ts us a

abbrev pub ExprOf : ℕ → Expr → Reading
ExprOf h a = λ ts us. (n : ℕ) × (n ≤ h) × ReadsExpr n ts us a

abbrev pub ArgsOf : ℕ → List Expr → Reading
ArgsOf h xs = λ ts us. (n : ℕ) × (n ≤ h) × ReadsArgs n ts us xs

abbrev pub InsideOf : ℕ → Inside → Reading
InsideOf h j = λ ts us. (n : ℕ) × (n ≤ h) × ReadsInside n ts us j

-- What is printed of an expression reads as it, bare and in each place where expressions stand. The
-- first number bounds the nesting where something in brackets follows, the second elsewhere.
pub record ShowsExpr (i j : ℕ) (a : Expr) (y : Form) : Type 0 where
  pub post : Shows false (PostOf i a) (within 0 y)
  pub tight : Shows false (LevelOf j a) (within 1 y)
  pub bare : Shows false (ExprOf j a) y.1

-- the same of its own form
abbrev pub Shown : ℕ → ℕ → Expr → Type 0
Shown i j a = ShowsExpr i j a (expr_form a)

-- with one bound
abbrev pub Told : ℕ → Expr → Type 0
Told h a = Shown h h a

-- ---- levels

raise : {h n : ℕ} {ts us : List Symbol} {x : Expr} (d : ℕ) → ReadsLevel h n ts us x → ReadsLevel h (rise d n) ts us x
raise zero q = q
raise (suc d) q = raise d (g.looser q)

level_to : {h : ℕ} {ts us : List Symbol} {x : Expr} (n : ℕ) → ReadsLevel h 0 ts us x → ReadsLevel h n ts us x
level_to zero q = q
level_to (suc n) q = g.looser (level_to n q)

as_level : (h : ℕ) (a : Expr) {x : List ℕ} → Shows false (PostOf h a) x → Shows false (LevelOf h a) x
as_level h a q = shows_as (λ ts us c. (c.0, c.1, g.post c.2)) q

as_expr : (h : ℕ) (a : Expr) {x : List ℕ} → Shows false (LevelOf h a) x → Shows false (ExprOf h a) x
as_expr h a q = shows_as (λ ts us c. (c.0, c.1, g.level (level_to 10 c.2))) q

binary_expr : (h : ℕ) (a : Expr) {x : List ℕ} → Shows false (BinaryOf h a) x → Shows false (ExprOf h a) x
binary_expr h a q = shows_as (λ ts us c. (c.0, c.1, g.level (subst (λ (n : ℕ). ReadsLevel c.0 n ts us a) c.4 (raise c.3 (g.binary c.5))))) q

choice_expr : (h : ℕ) (a : Expr) {x : List ℕ} → Shows false (ChoiceOf h a) x → Shows false (ExprOf h a) x
choice_expr h a q = shows_as (λ ts us c. (c.0, c.1, g.chosen c.2)) q

level_within : (h : ℕ) (a : Expr) {x : List ℕ} → Shows false (LevelOf h a) x → Shows false (PostOf (suc h) a) (codes "(" ++ x ++ codes ")")
level_within h a q = shows_parens (λ ts us c. (suc c.0, omega (arith, c.1), g.parens c.2)) q

binary_within : (h : ℕ) (a : Expr) {x : List ℕ} → Shows false (BinaryOf h a) x → Shows false (PostOf h a) (codes "(" ++ x ++ codes ")")
binary_within h a q = shows_parens (λ ts us c. (c.0, c.1, g.parens_binary c.5)) q

choice_within : (h : ℕ) (a : Expr) {x : List ℕ} → Shows false (ChoiceOf h a) x → Shows false (PostOf h a) (codes "(" ++ x ++ codes ")")
choice_within h a q = shows_parens (λ ts us c. (c.0, c.1, g.parens_choice c.2)) q

of_post : (h : ℕ) (a : Expr) {x : List ℕ} → Shows false (PostOf h a) x → ShowsExpr h h a (0, x)
of_post h a q = record { post = q; tight = as_level h a q; bare = as_expr h a (as_level h a q) }

of_unary : (h : ℕ) (a : Expr) {x : List ℕ} → Shows false (LevelOf h a) x → ShowsExpr (suc h) h a (1, x)
of_unary h a q = record { post = level_within h a q; tight = q; bare = as_expr h a q }

of_binary : (h : ℕ) (a : Expr) {x : List ℕ} → Shows false (BinaryOf h a) x → ShowsExpr h h a (2, x)
of_binary h a q = record { post = binary_within h a q; tight = as_level h a (binary_within h a q); bare = binary_expr h a q }

of_choice : (h : ℕ) (a : Expr) {x : List ℕ} → Shows false (ChoiceOf h a) x → ShowsExpr h h a (2, x)
of_choice h a q = record { post = choice_within h a q; tight = as_level h a (choice_within h a q); bare = choice_expr h a q }

form_is : {i j : ℕ} (a : Expr) {y z : Form} → z ≡ y → ShowsExpr i j a y → ShowsExpr i j a z
form_is {i} {j} a is q = subst (λ (u : Form). ShowsExpr i j a u) (sym is) q

-- the same with higher bounds
pub higher : {i j : ℕ} (k l : ℕ) (a : Expr) → i ≤ k → j ≤ l → Shown i j a → Shown k l a
higher {i} {j} k l a up too q = record {
  post = shows_as (λ ts us c. (c.0, omega (arith, c.1, up), c.2)) q.post;
  tight = shows_as (λ ts us c. (c.0, omega (arith, c.1, too), c.2)) q.tight;
  bare = shows_as (λ ts us c. (c.0, omega (arith, c.1, too), c.2)) q.bare;
}

just_post : (c : Symbol) (a : Expr) {x : List ℕ} → Shows false (Just c) x → ((us : List Symbol) → ReadsPost 1 (c ∷ us) us a) → ShowsExpr 1 1 a (0, x)
just_post c a q rule = of_post 1 a (shows_as (λ ts us is. (1, omega arith, subst (λ (z : List Symbol). ReadsPost 1 z us a) (sym is) (rule us))) q)

-- ---- single tokens

pub number_told : (n : ℕ) → n < 2 ^ 128 → Told 1 (e.Number n)
number_told n h = form_is (e.Number n) (f.expr_form-Number n) (just_post (t.number n) (e.Number n) (just_number false n h) (λ us. g.number))

width_is : (b : Bool) (x a : Width) → width_if b x ≡ Some a → x ≡ a
width_is true x a is = cc
width_is false x a is = absurd cc

sized_number_told : (n : ℕ) (u : Bool) (v : ℕ) → sized_width (Number n) ≡ Some (w.Number n) → n < 2 ^ 128 → v < 2 ^ 128 → Told 1 (e.Sized (w.Number n) u v)
sized_number_told n u v is h i = form_is (e.Sized (w.Number n) u v)
    (f.expr_form-Sized (w.Number n) u v ∙ ap (λ (y : Form). (0, within 0 y ++ quote_word u ++ decimal v)) (f.width_form-Number n))
    (just_post (t.sized (Number n) u v) (e.Sized (w.Number n) u v)
    (shows_token k.Sized (decimal n ++ quote_word u ++ decimal v) (t.sized (Number n) u v) (sized_number_symbol u n v h i) (sized_part u (decimal n) (decimal v) (number_part n h)) (λ y b. sized_number_sits false u n v y h i b) (λ us. refl))
    (λ us. g.sized is))

sized_word_told : (x : List ℕ) (u : Bool) (v : ℕ) → IsSpelledSymbol (t.sized (Parameter x) u v) → Told 1 (e.Sized (w.Word x) u v)
sized_word_told x u v h = form_is (e.Sized (w.Word x) u v)
    (f.expr_form-Sized (w.Word x) u v ∙ ap (λ (y : Form). (0, within 0 y ++ quote_word u ++ decimal v)) (f.width_form-Word x))
    (just_post (t.sized (Parameter x) u v) (e.Sized (w.Word x) u v)
    (shows_token k.Sized (x ++ quote_word u ++ decimal v) (t.sized (Parameter x) u v) (sized_word_symbol u x v h.0 h.2) (sized_part u x (decimal v) (word_part x h.0 h.1)) (λ y b. sized_word_sits false u x v y h.0 h.1 h.2 b) (λ us. refl))
    (λ us. g.sized refl))

pub sized_told : (x : SizedWidth) (a : Width) (u : Bool) (v : ℕ) → sized_width x ≡ Some a → IsSpelledSymbol (t.sized x u v) → Told 1 (e.Sized a u v)
sized_told (Number n) a u v is h =
    let same = width_is (is_short n) (w.Number n) a is in
    subst (λ (b : Width). Told 1 (e.Sized b u v)) same (sized_number_told n u v (is ∙ ap (λ (b : Width). Some b) (sym same)) h.0 h.1)
sized_told (Parameter x) a u v is h =
    let same = width_is true (w.Word x) a is in
    subst (λ (b : Width). Told 1 (e.Sized b u v)) same (sized_word_told x u v h)

pub text_told : (x : List ℕ) → list_all is_no_quote x ≡ true → Told 1 (e.Text x)
text_told x h = form_is (e.Text x) (f.expr_form-Text x)
    (just_post (t.quoted x) (e.Text x) (shows_token k.Text (between_quotes x) (t.quoted x) (text_symbol x) refl (λ y b. text_sits false x y h) (λ us. refl)) (λ us. g.quoted))

pub yes_told : Told 1 (e.Flag true)
yes_told = form_is (e.Flag true) (f.expr_form-Flag true) (of_post 1 (e.Flag true) (shows_row (worded r.True ∷ []) refl (λ y b. reserved_sits false r.True y refl b) (λ us. (1, omega arith, g.yes_flag))))

pub no_told : Told 1 (e.Flag false)
no_told = form_is (e.Flag false) (f.expr_form-Flag false) (of_post 1 (e.Flag false) (shows_row (worded r.False ∷ []) refl (λ y b. reserved_sits false r.False y refl b) (λ us. (1, omega arith, g.no_flag))))

pub word_told : (x : List ℕ) → IsSpelledSymbol (t.word x) → Told 1 (e.Word x)
word_told x h = form_is (e.Word x) (f.expr_form-Word x) (just_post (t.word x) (e.Word x) (just_word false x h) (λ us. g.word))

pub mxlen_spelled : IsSpelledSymbol (t.word mxlen)
mxlen_spelled = (mxlen_word, omega arith)

pub pc_told : Told 1 e.Pc
pc_told = form_is e.Pc f.expr_form-Pc (of_post 1 e.Pc (shows_row (special p.Pc ∷ []) refl (λ y b. row_sits false (special p.Pc ∷ []) y refl) (λ us. (1, omega arith, g.pc))))

pub encoding_told : Told 1 e.Encoding
encoding_told = form_is e.Encoding f.expr_form-Encoding (of_post 1 e.Encoding (shows_row (special p.Encoding ∷ []) refl (λ y b. row_sits false (special p.Encoding ∷ []) y refl) (λ us. (1, omega arith, g.encoding))))

-- ---- rows with words

just_reserved : (c : Reserved) (kind : EnumKind) → EnumFact c (Some kind) → Shows false (Just (t.reserved c)) (reserved_text c)
just_reserved c kind fact = shows_token (k.Reserved c) (reserved_text c) (t.reserved c) refl (reserved_part c) (λ y b. reserved_sits false c y fact.1 b) (λ us. refl)

pub member_told : (c : Reserved) (kind : EnumKind) (x : List ℕ) → enum_of c ≡ Some kind → IsSpelledSymbol (t.word x) → Told 1 (e.Member kind x)
member_told c kind x is h =
    let fact : EnumFact c (Some kind) = subst (λ (o : Option EnumKind). EnumFact c o) is (enum_fact c) in
    form_is (e.Member kind x)
    (f.expr_form-Member kind x ∙ ap (λ (y : List ℕ). (0, y ++ codes "::" ++ x)) fact.0)
    (of_post 1 (e.Member kind x) (shows_two (signed s.Path ∷ []) (just_reserved c kind fact) (just_word false x h)
    (λ y b. row_sits false (signed s.Path ∷ []) y refl)
    (λ y. refl)
    (λ ts us ws a b. (1, omega arith, subst (λ (z : List Symbol). ReadsPost 1 z ws (e.Member kind x)) (sym (a ∙ ap (λ (z : List Symbol). t.reserved c ∷ t.sign s.Path ∷ z) b)) (g.member is)))))

pub field_told : (x y : List ℕ) → IsSpelledSymbol (t.word x) → IsSpelledSymbol (t.word y) → Told 1 (e.Field x y)
field_told x y h i = form_is (e.Field x y) (f.expr_form-Field x y)
    (of_post 1 (e.Field x y) (shows_fit (field_row_text x y) (shows_row (field_row x y) refl (λ z b. field_sits false x y z h i b) (λ us. (1, omega arith, g.field)))))

abbrev new_row : List ℕ → List Piece
new_row x = worded r.CsrValue ∷ signed s.Dot ∷ named x ∷ []

pub new_field_told : (x : List ℕ) → IsSpelledSymbol (t.word x) → Told 1 (e.NewField x)
new_field_told x h = form_is (e.NewField x) (f.expr_form-NewField x)
    (of_post 1 (e.NewField x) (shows_fit (ap (λ (z : List ℕ). codes "csr_value." ++ z) (append-nil x)) (shows_row (new_row x) refl (λ y b. mixed_sits false (new_row x) y (refl, (refl, ((h.0, h.1, b), tt)))) (λ us. (1, omega arith, g.new_field)))))

abbrev mode_row : List Piece
mode_row = worded r.Mode ∷ signed s.OpenParen ∷ signed s.CloseParen ∷ []

pub mode_told : Told 1 e.Mode
mode_told = form_is e.Mode f.expr_form-Mode (of_post 1 e.Mode (shows_row mode_row refl (λ y b. row_sits false mode_row y refl) (λ us. (1, omega arith, g.mode))))

abbrev implemented_row : List ℕ → List Piece
implemented_row x = special p.Implemented ∷ signed s.OpenParen ∷ worded r.ExtensionName ∷ signed s.Path ∷ named x ∷ signed s.CloseParen ∷ []

pub implemented_told : (x : List ℕ) → IsSpelledSymbol (t.word x) → Told 1 (e.Implemented x)
implemented_told x h = form_is (e.Implemented x) (f.expr_form-Implemented x)
    (of_post 1 (e.Implemented x) (shows_row (implemented_row x) refl (λ y b. mixed_sits false (implemented_row x) y (refl, (refl, (refl, (refl, ((h.0, h.1, refl), (refl, tt))))))) (λ us. (1, omega arith, g.implemented))))

abbrev version_row : List ℕ → List ℕ → List Piece
version_row x y = special p.ImplementedVersion ∷ signed s.OpenParen ∷ worded r.ExtensionName ∷ signed s.Path ∷ named x ∷ signed s.Comma ∷ gap 32 ∷ token k.Text (between_quotes y) ∷ signed s.CloseParen ∷ []

version_text : (x y : List ℕ) → text_of (version_row x y) ≡ codes "implemented_version?(ExtensionName::" ++ x ++ codes ", \"" ++ y ++ codes "\")"
version_text x y = ap (λ (z : List ℕ). codes "implemented_version?(ExtensionName::" ++ z)
    (ap (λ (z : List ℕ). x ++ (codes ", \"" ++ z)) (append_assoc y (codes "\"") (codes ")")) ∙ sym (append_assoc (x ++ codes ", \"") y (codes "\")") ∙ append_assoc x (codes ", \"") (y ++ codes "\")")))

pub version_told : (x y : List ℕ) → IsSpelledSymbol (t.word x) → list_all is_no_quote y ≡ true → Told 1 (e.ImplementedVersion x y)
version_told x y h i = form_is (e.ImplementedVersion x y) (f.expr_form-ImplementedVersion x y)
    (of_post 1 (e.ImplementedVersion x y) (shows_fit (version_text x y) (shows_row (version_row x y) refl
    (λ z b. mixed_sits false (version_row x y) z (refl, (refl, (refl, (refl, ((h.0, h.1, refl), (refl, (refl, ((y, i, refl), (refl, tt))))))))))
    (λ us. (1, omega arith, subst (λ (c : Symbol). ReadsPost 1 (t.special p.ImplementedVersion ∷ t.sign s.OpenParen ∷ t.reserved r.ExtensionName ∷ t.sign s.Path ∷ t.word x ∷ t.sign s.Comma ∷ c ∷ t.sign s.CloseParen ∷ us) us (e.ImplementedVersion x y)) (sym (text_symbol y)) g.implemented_version)))))

-- ---- signs before, between and among operands

pub unary_told : {i j : ℕ} (c : Sign) (op : Unary) (a : Expr) → unary_of c ≡ Some op → Shown i j a → Shown (suc (suc j)) (suc j) (e.Unary op a)
unary_told {i} {j} c op a is q =
    let fact : UnaryFact c (Some op) = subst (λ (o : Option Unary). UnaryFact c o) is (unary_fact c) in
    form_is (e.Unary op a)
    (f.expr_form-Unary op a ∙ ap (λ (y : List ℕ). (1, y ++ within 1 (expr_form a))) fact.0)
    (of_unary (suc j) (e.Unary op a) (shows_after (signed c ∷ []) q.tight (part_append (text_of (signed c ∷ [])) (within 1 (expr_form a)) fact.1) (before_part c) (λ ts us d. (suc d.0, omega (arith, d.1), g.unary is d.2))))

pub binary_told : {i j k l : ℕ} (c : Sign) (n : ℕ) (op : Binary) (a b : Expr) → binding c ≡ Some (n, plain op) → Shown i j a → Shown k l b → Told (suc (max j l)) (e.Binary op a b)
binary_told {i} {j} {k} {l} c n op a b is p q =
    let fact : InfixFact c (Some (n, plain op)) = subst (λ (o : Option (ℕ × Infix)). InfixFact c o) is (infix_fact c) in
    form_is (e.Binary op a b)
    (f.expr_form-Binary op a b ∙ ap (λ (y : List ℕ). (2, within 1 (expr_form a) ++ y ++ within 1 (expr_form b))) fact.2)
    (of_binary (suc (max j l)) (e.Binary op a b) (shows_two (spaced c) p.tight q.tight (λ y i. spaced_sits c y) (λ y. refl)
    (λ ts us ws x y. (suc (max x.0 y.0), omega (arith, x.1, y.1), n, fact.0, fact.1, g.between (level_to (suc n) x.2) is (level_to n y.2)))))

pub wide_told : {i j k l : ℕ} (c : Sign) (n : ℕ) (fl : Bool) (a : Expr) (b : Width) → binding c ≡ Some (n, wide) → Shown i j a → ShowsWidth false fl k l b (width_form b) → Told (suc (max j k)) (e.WideLeft a b)
wide_told {i} {j} {k} {l} c n fl a b is p q =
    let fact : InfixFact c (Some (n, wide)) = subst (λ (o : Option (ℕ × Infix)). InfixFact c o) is (infix_fact c) in
    form_is (e.WideLeft a b)
    (f.expr_form-WideLeft a b ∙ ap (λ (y : List ℕ). (2, within 1 (expr_form a) ++ y ++ within 0 (width_form b))) fact.2)
    (of_binary (suc (max j k)) (e.WideLeft a b) (shows_two (spaced c) p.tight q.tight (λ y i. spaced_sits c y) (λ y. refl)
    (λ ts us ws x y. (suc (max x.0 y.0), omega (arith, x.1, y.1), n, fact.0, fact.1, g.widened (level_to (suc n) x.2) is y.2))))

abbrev Tested : ℕ → ℕ → Expr → Expr → Reading
Tested h i a b = λ ts ws. (us : List Symbol) × LevelOf h a ts (t.sign s.Question ∷ us) × LevelOf i b us ws

tested : {i j k l : ℕ} (a b : Expr) → Shown i j a → Shown k l b → Shows false (Tested j l a b) (within 1 (expr_form a) ++ codes " ? " ++ within 1 (expr_form b))
tested a b p q = shows_two (spaced s.Question) p.tight q.tight (λ y i. spaced_sits s.Question y) (λ y. refl) (λ ts us ws x y. (us, x, y))

pub choice_told : {i j k l m n : ℕ} (a b c : Expr) → Shown i j a → Shown k l b → Shown m n c → Told (suc (max j (max l n))) (e.Choice a b c)
choice_told {i} {j} {k} {l} {m} {n} a b c p q z = form_is (e.Choice a b c) (f.expr_form-Choice a b c)
    (of_choice (suc (max j (max l n))) (e.Choice a b c) (shows_two (spaced s.Colon) (tested a b p q) z.tight (λ y i. spaced_sits s.Colon y) (λ y. refl)
    (λ ts us ws x y. (suc (max x.1.0 (max x.2.0 y.0)), omega (arith, x.1.1, x.2.1, y.1), g.choice (level_to 10 x.1.2) (g.level (level_to 10 x.2.2)) (g.level (level_to 10 y.2))))))

-- ---- arguments

pub one_told : {i j : ℕ} (a : Expr) → Shown i j a → Shows false (ArgsOf j (a ∷ [])) (commas (map expr_text (a ∷ [])))
one_told a q = shows_fit (sym (append-nil (expr_text a))) (shows_as (λ ts us c. (c.0, c.1, g.one c.2)) q.bare)

pub several_told : {i j : ℕ} (k : ℕ) (a : Expr) (xs : List Expr) → Shown i j a → Shows false (ArgsOf k xs) (commas (map expr_text xs)) → Shows false (ArgsOf (max j k) (a ∷ xs)) (commas (map expr_text (a ∷ xs)))
several_told k a [] p q = absurd (true≢false (sym q.begins))
several_told {i} {j} k a (b ∷ xs) p q = shows_fit (append_assoc (expr_text a) (codes ", ") (commas (map expr_text (b ∷ xs))))
    (shows_two (signed s.Comma ∷ gap 32 ∷ []) p.bare q (λ y z. row_sits false (signed s.Comma ∷ gap 32 ∷ []) y refl) (λ y. refl) (λ ts us ws x y. (max x.0 y.0, omega (arith, x.1, y.1), g.several x.2 y.2)))

pub join_told : (h : ℕ) (xs : List Expr) → Shows false (ArgsOf h xs) (commas (map expr_text xs)) → Told (suc h) (e.Join xs)
join_told h xs q = form_is (e.Join xs)
    (f.expr_form-Join xs ∙ ap (λ (y : List (List ℕ)). (0, codes "{" ++ commas y ++ codes "}")) (f.texts xs))
    (of_post (suc h) (e.Join xs) (shows_one (signed s.OpenBrace ∷ []) (signed s.CloseBrace ∷ []) q refl
    (λ y i. row_sits false (signed s.OpenBrace ∷ []) y refl) (λ y. refl) (λ y i. row_sits false (signed s.CloseBrace ∷ []) y refl)
    (λ ts us c. (suc c.0, omega (arith, c.1), g.braces (g.join c.2)))))

abbrev call_row : List ℕ → List Piece
call_row x = named x ∷ signed s.OpenParen ∷ signed s.CloseParen ∷ []

empty_call : (x : List ℕ) → text_of (call_row x) ≡ call_text x []
empty_call x = sym (ap (λ (y : List ℕ). y ++ codes ")") (append-nil (x ++ codes "(")) ∙ append_assoc x (codes "(") (codes ")"))

-- the text of a call, as it stands in an expression or a statement
pub call_none_shown : {Q : Reading} (x : List ℕ) → IsSpelledSymbol (t.word x) → ((us : List Symbol) → Q (t.word x ∷ t.sign s.OpenParen ∷ t.sign s.CloseParen ∷ us) us) → Shows false Q (call_text x [])
call_none_shown {Q} x h rule = shows_fit (empty_call x) (shows_row (call_row x) (part_append x (codes "()") (word_part x h.0 h.1)) (λ y i. mixed_sits false (call_row x) y ((h.0, h.1, refl), (refl, (refl, tt)))) rule)

pub call_shown : {Q : Reading} (n : ℕ) (x : List ℕ) (xs : List Expr) → IsSpelledSymbol (t.word x) → Shows false (ArgsOf n xs) (commas (map expr_text xs))
    → ((ts us : List Symbol) → ArgsOf n xs ts (t.sign s.CloseParen ∷ us) → Q (t.word x ∷ t.sign s.OpenParen ∷ ts) us) → Shows false Q (call_text x (map expr_text xs))
call_shown {Q} n x xs h q rule = shows_one (named x ∷ signed s.OpenParen ∷ []) (signed s.CloseParen ∷ []) q
    (part_append (x ++ codes "(" ++ commas (map expr_text xs)) (codes ")") (part_append (x ++ codes "(") (commas (map expr_text xs)) (part_append x (codes "(") (word_part x h.0 h.1))))
    (λ y i. mixed_sits false (named x ∷ signed s.OpenParen ∷ []) y ((h.0, h.1, refl), (refl, tt))) (λ y. refl) (λ y i. row_sits false (signed s.CloseParen ∷ []) y refl) rule

pub call_none_told : (x : List ℕ) → IsSpelledSymbol (t.word x) → Told 1 (e.Call x [])
call_none_told x h = form_is (e.Call x []) (f.expr_form-Call x []) (of_post 1 (e.Call x []) (call_none_shown x h (λ us. (1, omega arith, g.call_none))))

pub call_told : (n : ℕ) (x : List ℕ) (xs : List Expr) → IsSpelledSymbol (t.word x) → Shows false (ArgsOf n xs) (commas (map expr_text xs)) → Told (suc n) (e.Call x xs)
call_told n x xs h q = form_is (e.Call x xs) (f.expr_form-Call x xs ∙ ap (λ (y : List (List ℕ)). (0, call_text x y)) (f.texts xs))
    (of_post (suc n) (e.Call x xs) (call_shown n x xs h q (λ ts us c. (suc c.0, omega (arith, c.1), g.call c.2))))

-- ---- parts between brackets

pub repeat_told : {k l : ℕ} (h : ℕ) (a : Width) (b : Expr) → Shows false (WidthOf h a) (width_text a) → Shown k l b → Told (suc (max h l)) (e.Repeat a b)
repeat_told {k} {l} h a b p q = form_is (e.Repeat a b) (f.expr_form-Repeat a b)
    (of_post (suc (max h l)) (e.Repeat a b) (shows_both (signed s.OpenBrace ∷ []) (signed s.OpenBrace ∷ []) (signed s.CloseBrace ∷ signed s.CloseBrace ∷ []) p q.bare refl
    (λ y i. row_sits false (signed s.OpenBrace ∷ []) y refl) (λ y. refl) (λ y i. row_sits false (signed s.OpenBrace ∷ []) y refl)
    (λ y. refl) (λ y i. row_sits false (signed s.CloseBrace ∷ signed s.CloseBrace ∷ []) y refl)
    (λ ts us ws c d. (suc (max c.0 d.0), omega (arith, c.1, d.1), g.braces (g.repeat c.2 d.2)))))

pub signed_told : {i j : ℕ} (a : Expr) → Shown i j a → Told (suc j) (e.Signed a)
signed_told {i} {j} a q = form_is (e.Signed a) (f.expr_form-Signed a)
    (of_post (suc j) (e.Signed a) (shows_one (special p.AsSigned ∷ signed s.OpenParen ∷ []) (signed s.CloseParen ∷ []) q.bare refl
    (λ y i. row_sits false (special p.AsSigned ∷ signed s.OpenParen ∷ []) y refl) (λ y. refl) (λ y i. row_sits false (signed s.CloseParen ∷ []) y refl)
    (λ ts us c. (suc c.0, omega (arith, c.1), g.as_signed c.2))))

pub register_told : {i j : ℕ} (a : Expr) → Shown i j a → Told (suc j) (e.Register a)
register_told {i} {j} a q = form_is (e.Register a) (f.expr_form-Register a)
    (of_post (suc j) (e.Register a) (shows_one (worded r.X ∷ signed s.OpenBracket ∷ []) (signed s.CloseBracket ∷ []) q.bare refl
    (λ y i. row_sits false (worded r.X ∷ signed s.OpenBracket ∷ []) y refl) (λ y. refl) (λ y i. row_sits false (signed s.CloseBracket ∷ []) y refl)
    (λ ts us c. (suc c.0, omega (arith, c.1), g.register c.2))))

abbrev soft_row : List Piece
soft_row = signed s.CloseBracket ∷ signed s.Dot ∷ named sw_read ∷ signed s.OpenParen ∷ signed s.CloseParen ∷ []

pub soft_read_told : {i j : ℕ} (a : Expr) → IsSpelledSymbol (t.word sw_read) → Shown i j a → Told (suc j) (e.SoftRead a)
soft_read_told {i} {j} a h q = form_is (e.SoftRead a) (f.expr_form-SoftRead a)
    (of_post (suc j) (e.SoftRead a) (shows_one (worded r.Csr ∷ signed s.OpenBracket ∷ []) soft_row q.bare refl
    (λ y i. row_sits false (worded r.Csr ∷ signed s.OpenBracket ∷ []) y refl) (λ y. refl)
    (λ y i. mixed_sits false soft_row y (refl, (refl, ((h.0, h.1, refl), (refl, (refl, tt))))))
    (λ ts us c. (suc c.0, omega (arith, c.1), g.soft_read c.2))))

abbrev pub close_open : List Piece
close_open = signed s.Greater ∷ signed s.OpenParen ∷ []

-- the end of a width, and a parenthesis
pub close_open_sits : (y : List ℕ) → Sits true close_open y false
close_open_sits y = sits_append true false false (signed s.Greater ∷ []) (signed s.OpenParen ∷ []) y (closing_sits (codes "(" ++ y)) (row_sits false (signed s.OpenParen ∷ []) y refl)

pub resize_told : {k l : ℕ} (h : ℕ) (a : Width) (b : Expr) → Shows true (WidthOf h a) (width_text a) → Shown k l b → Told (suc (max h l)) (e.Resize a b)
resize_told {k} {l} h a b m q = form_is (e.Resize a b) (f.expr_form-Resize a b)
    (of_post (suc (max h l)) (e.Resize a b) (shows_both (special p.Resize ∷ signed s.Less ∷ []) close_open (signed s.CloseParen ∷ []) m q.bare refl
    (λ y i. special_opens false p.Resize y refl (part_ends y i)) (λ y. refl) (λ y i. close_open_sits y)
    (λ y. refl) (λ y i. row_sits false (signed s.CloseParen ∷ []) y refl)
    (λ ts us ws c d. (suc (max c.0 d.0), omega (arith, c.1, d.1), g.resize c.2 d.2))))

pub read_memory_told : {i j : ℕ} (n : ℕ) (a : Expr) → is_access n ≡ true → n < 2 ^ 128 → Shown i j a → Told (suc j) (e.ReadMemory n a)
read_memory_told {i} {j} n a ok h q = form_is (e.ReadMemory n a) (f.expr_form-ReadMemory n a)
    (of_post (suc j) (e.ReadMemory n a) (shows_both (worded r.ReadMemory ∷ signed s.Less ∷ []) close_open (signed s.CloseParen ∷ []) (just_number true n h) q.bare refl
    (λ y i. reserved_opens false r.ReadMemory y refl (part_ends y i)) (λ y. refl) (λ y i. close_open_sits y)
    (λ y. refl) (λ y i. row_sits false (signed s.CloseParen ∷ []) y refl)
    (λ ts us ws c d. (suc d.0, omega (arith, d.1), subst (λ (z : List Symbol). ReadsPost (suc d.0) (t.reserved r.ReadMemory ∷ t.sign s.Less ∷ z) ws (e.ReadMemory n a)) (sym c) (g.read_memory ok d.2)))))

-- ---- what stands in brackets behind an operand

abbrev pub inside_text : Inside → List ℕ
inside_text (place i) = expr_text i ++ codes "]"
inside_text (slice high low) = width_text high ++ codes ":" ++ (width_text low ++ codes "]")

pub place_shown : {i j : ℕ} (a : Expr) → Shown i j a → Shows false (InsideOf j (place a)) (inside_text (place a))
place_shown a q = shows_then (signed s.CloseBracket ∷ []) q.bare (λ y. refl) (λ y i. row_sits false (signed s.CloseBracket ∷ []) y refl) (λ ts us c. (c.0, c.1, g.at c.2))

abbrev Closed : ℕ → Width → Reading
Closed h a = λ ts us. WidthOf h a ts (t.sign s.CloseBracket ∷ us)

closed : (h : ℕ) (a : Width) → Shows false (WidthOf h a) (width_text a) → Shows false (Closed h a) (width_text a ++ codes "]")
closed h a q = shows_then (signed s.CloseBracket ∷ []) q (λ y. refl) (λ y i. row_sits false (signed s.CloseBracket ∷ []) y refl) (λ ts us c. c)

pub slice_shown : (h i : ℕ) (a b : Width) → Shows false (WidthOf h a) (width_text a) → Shows false (WidthOf i b) (width_text b) → Shows false (InsideOf (max h i) (slice a b)) (inside_text (slice a b))
slice_shown h i a b p q = shows_two (signed s.Colon ∷ []) p (closed i b q) (before_part s.Colon) (λ y. refl) (λ ts us ws c d. (max c.0 d.0, omega (arith, c.1, d.1), g.from_to c.2 d.2))

part_form : (x : Expr) (j : Inside) → expr_form (part_of x j) ≡ (0, within 0 (expr_form x) ++ codes "[" ++ inside_text j)
part_form x (place i) = f.expr_form-Index x i ∙ ap (λ (y : List ℕ). (0, y)) (append_assoc (within 0 (expr_form x) ++ codes "[") (expr_text i) (codes "]"))
part_form x (slice a b) = f.expr_form-Slice x a b
    ∙ ap (λ (y : List ℕ). (0, y)) (ap (λ (y : List ℕ). within 0 (expr_form x) ++ (codes "[" ++ y)) (append_assoc (width_text a ++ codes ":") (width_text b) (codes "]"))
    ∙ sym (append_assoc (within 0 (expr_form x)) (codes "[") (inside_text (slice a b))))

pub part_told : {k l : ℕ} (h : ℕ) (x : Expr) (j : Inside) → Shown k l x → Shows false (InsideOf h j) (inside_text j) → Told (suc (max k h)) (part_of x j)
part_told {k} {l} h x j p q = form_is (part_of x j) (part_form x j)
    (of_post (suc (max k h)) (part_of x j) (shows_two (signed s.OpenBracket ∷ []) p.post q (λ y i. row_sits false (signed s.OpenBracket ∷ []) y refl) (λ y. refl) (λ ts us ws c d. (suc (max c.0 d.0), omega (arith, c.1, d.1), g.part c.2 d.2))))
