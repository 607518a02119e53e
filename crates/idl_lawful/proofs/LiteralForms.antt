-- The literals of nodes, form by form, as far as one test is asked of them.
use Rattle.std.proofs.Common.{◌≡◌, ◌&&◌, ℕ, Bool, true, false, List, [], ◌∷◌, ◌++◌, None, Some, map, refl, ap, ◌∙◌}
use Rattle.std.proofs.lemmas.List.{append-nil}
use Rattle.std.proofs.lemmas.List.Folds.{list_all-append}
use Rattle.std.specs.Prelude.{flat_map}
use Rattle.std.specs.List.{list_all}
use Rattle.udb_base.specs.declared.names.Name.{Name}
use Rattle.udb_base.specs.declared.characters.Chars.{Chars}
use Rattle.idl_tree.specs.declared.widths.Width.{Width}
use Rattle.idl_tree.specs.declared.widths.Shape.{Shape}
use Rattle.idl_tree.specs.declared.widths.EnumKind.{EnumKind}
use Rattle.idl_tree.specs.declared.expressions.Unary.{Unary}
use Rattle.idl_tree.specs.declared.expressions.Binary.{Binary}
use Rattle.idl_tree.specs.declared.expressions.Expr.{Expr}
use Rattle.idl_tree.specs.declared.expressions.Expr.TheVariants as ex
use Rattle.idl_tree.specs.declared.statements.Target.{Target}
use Rattle.idl_tree.specs.declared.statements.Target.TheVariants as t
use Rattle.idl_tree.specs.declared.statements.Stmt.{Stmt}
use Rattle.idl_tree.specs.declared.statements.Stmt.TheVariants as st
use Rattle.idl_spec.specs.Deeds.{all_of}
use Rattle.type_laws.specs.Literals.{expr_numbers, stmt_numbers, numbers_of}
use Rattle.type_laws.specs.LiteralLaws as law
use Rattle.idl_lawful.specs.Tests.{is_below_power}
use Rattle.idl_lawful.specs.Readings.{is_small_target}

-- ---- lists of numbers

abbrev small : List ℕ → Bool
small ns = list_all (is_below_power 128) ns

one : (a : List ℕ) → small (a ++ []) ≡ small a
one a = ap small (append-nil a)

two : (a c : List ℕ) → small (a ++ (c ++ [])) ≡ (small a && small c)
two a c = list_all-append (is_below_power 128) a (c ++ []) ∙ ap (λ b. small a && b) (one c)

three : (a c d : List ℕ) → small (a ++ (c ++ (d ++ []))) ≡ (small a && (small c && small d))
three a c d = list_all-append (is_below_power 128) a (c ++ (d ++ [])) ∙ ap (λ b. small a && b) (two c d)

each-of : (es : List Expr) → flat_map expr_numbers es ≡ all_of (map expr_numbers es)
each-of [] = refl
each-of (e ∷ es) = ap (λ ns. expr_numbers e ++ ns) (each-of es)

last : (b : Bool) → (b && true) ≡ b
last true = refl
last false = refl

-- ---- expressions

pub small-Number : (n : ℕ) → small (expr_numbers (ex.Number n)) ≡ is_below_power 128 n
small-Number n = ap small (law.numbers-Number n) ∙ last (is_below_power 128 n)

pub small-Sized : (width : Width) (signed : Bool) (n : ℕ) → small (expr_numbers (ex.Sized width signed n)) ≡ true
small-Sized width signed n = ap small (law.numbers-Sized width signed n)

pub small-Text : (x : Chars) → small (expr_numbers (ex.Text x)) ≡ true
small-Text x = ap small (law.numbers-Text x)

pub small-Flag : (x : Bool) → small (expr_numbers (ex.Flag x)) ≡ true
small-Flag x = ap small (law.numbers-Flag x)

pub small-Word : (name : Name) → small (expr_numbers (ex.Word name)) ≡ true
small-Word name = ap small (law.numbers-Word name)

pub small-Member : (kind : EnumKind) (name : Name) → small (expr_numbers (ex.Member kind name)) ≡ true
small-Member kind name = ap small (law.numbers-Member kind name)

pub small-Pc : small (expr_numbers ex.Pc) ≡ true
small-Pc = ap small law.numbers-Pc

pub small-Encoding : small (expr_numbers ex.Encoding) ≡ true
small-Encoding = ap small law.numbers-Encoding

pub small-Field : (csr : Name) (field : Name) → small (expr_numbers (ex.Field csr field)) ≡ true
small-Field csr field = ap small (law.numbers-Field csr field)

pub small-NewField : (name : Name) → small (expr_numbers (ex.NewField name)) ≡ true
small-NewField name = ap small (law.numbers-NewField name)

pub small-Mode : small (expr_numbers ex.Mode) ≡ true
small-Mode = ap small law.numbers-Mode

pub small-Implemented : (name : Name) → small (expr_numbers (ex.Implemented name)) ≡ true
small-Implemented name = ap small (law.numbers-Implemented name)

pub small-ImplementedVersion : (extension : Name) (x : Chars) → small (expr_numbers (ex.ImplementedVersion extension x)) ≡ true
small-ImplementedVersion extension x = ap small (law.numbers-ImplementedVersion extension x)

pub small-Unary : (sign : Unary) (a : Expr) → small (expr_numbers (ex.Unary sign a)) ≡ small (expr_numbers a)
small-Unary sign a = ap small (law.numbers-Unary sign a) ∙ one (expr_numbers a)

pub small-WideLeft : (a : Expr) (by : Width) → small (expr_numbers (ex.WideLeft a by)) ≡ small (expr_numbers a)
small-WideLeft a by = ap small (law.numbers-WideLeft a by) ∙ one (expr_numbers a)

pub small-Repeat : (times : Width) (a : Expr) → small (expr_numbers (ex.Repeat times a)) ≡ small (expr_numbers a)
small-Repeat times a = ap small (law.numbers-Repeat times a) ∙ one (expr_numbers a)

pub small-Slice : (a : Expr) (high : Width) (low : Width) → small (expr_numbers (ex.Slice a high low)) ≡ small (expr_numbers a)
small-Slice a high low = ap small (law.numbers-Slice a high low) ∙ one (expr_numbers a)

pub small-Signed : (a : Expr) → small (expr_numbers (ex.Signed a)) ≡ small (expr_numbers a)
small-Signed a = ap small (law.numbers-Signed a) ∙ one (expr_numbers a)

pub small-Resize : (width : Width) (a : Expr) → small (expr_numbers (ex.Resize width a)) ≡ small (expr_numbers a)
small-Resize width a = ap small (law.numbers-Resize width a) ∙ one (expr_numbers a)

pub small-Register : (a : Expr) → small (expr_numbers (ex.Register a)) ≡ small (expr_numbers a)
small-Register a = ap small (law.numbers-Register a) ∙ one (expr_numbers a)

pub small-SoftRead : (a : Expr) → small (expr_numbers (ex.SoftRead a)) ≡ small (expr_numbers a)
small-SoftRead a = ap small (law.numbers-SoftRead a) ∙ one (expr_numbers a)

pub small-ReadMemory : (count : ℕ) (a : Expr) → small (expr_numbers (ex.ReadMemory count a)) ≡ small (expr_numbers a)
small-ReadMemory count a = ap small (law.numbers-ReadMemory count a) ∙ one (expr_numbers a)

pub small-Binary : (sign : Binary) (a : Expr) (c : Expr) → small (expr_numbers (ex.Binary sign a c)) ≡ (small (expr_numbers a) && small (expr_numbers c))
small-Binary sign a c = ap small (law.numbers-Binary sign a c) ∙ two (expr_numbers a) (expr_numbers c)

pub small-Index : (a : Expr) (c : Expr) → small (expr_numbers (ex.Index a c)) ≡ (small (expr_numbers a) && small (expr_numbers c))
small-Index a c = ap small (law.numbers-Index a c) ∙ two (expr_numbers a) (expr_numbers c)

pub small-Choice : (a : Expr) (c : Expr) (d : Expr) → small (expr_numbers (ex.Choice a c d)) ≡ (small (expr_numbers a) && (small (expr_numbers c) && small (expr_numbers d)))
small-Choice a c d = ap small (law.numbers-Choice a c d) ∙ three (expr_numbers a) (expr_numbers c) (expr_numbers d)

pub small-Join : (es : List Expr) → small (expr_numbers (ex.Join es)) ≡ small (all_of (map expr_numbers es))
small-Join es = ap small (law.numbers-Join es)

pub small-Call : (name : Name) (es : List Expr) → small (expr_numbers (ex.Call name es)) ≡ small (all_of (map expr_numbers es))
small-Call name es = ap small (law.numbers-Call name es)

pub ruleset expression_laws = (small-Number, small-Sized, small-Text, small-Flag, small-Word, small-Member, small-Pc, small-Encoding, small-Field, small-NewField, small-Mode, small-Implemented, small-ImplementedVersion, small-Unary, small-WideLeft, small-Repeat, small-Slice, small-Signed, small-Resize, small-Register, small-SoftRead, small-ReadMemory, small-Binary, small-Index, small-Choice, small-Join, small-Call)

-- ---- statements

one-two : (a : List ℕ) → small ((a ++ []) ++ []) ≡ small a
one-two a = one (a ++ []) ∙ one a

two-two : (a c : List ℕ) → small ((a ++ (c ++ [])) ++ []) ≡ (small a && small c)
two-two a c = one (a ++ (c ++ [])) ∙ two a c

pub small-Declare : (declared : Shape) (name : Name) (x : Expr) → small (stmt_numbers (st.Declare declared name x)) ≡ small (expr_numbers x)
small-Declare declared name x = ap small (law.counts-Declare declared name x) ∙ one-two (expr_numbers x)

pub small-Assign : (to : Target) (x : Expr) → small (stmt_numbers (st.Assign to x)) ≡ (is_small_target to && small (expr_numbers x))
small-Assign (t.Word name) x = ap small (law.counts-Assign (t.Word name) x) ∙ one-two (expr_numbers x)
small-Assign (t.Bit name at) x = ap small (law.counts-Assign (t.Bit name at) x) ∙ two-two (expr_numbers at) (expr_numbers x)
small-Assign (t.Slice name high low) x = ap small (law.counts-Assign (t.Slice name high low) x) ∙ one-two (expr_numbers x)
small-Assign (t.Register at) x = ap small (law.counts-Assign (t.Register at) x) ∙ two-two (expr_numbers at) (expr_numbers x)
small-Assign (t.Field csr field) x = ap small (law.counts-Assign (t.Field csr field) x) ∙ one-two (expr_numbers x)

pub small-Block : (ss : List Stmt) → small (stmt_numbers (st.Block ss)) ≡ small (numbers_of ss)
small-Block ss = ap small (law.counts-Block ss) ∙ one (numbers_of ss)

pub small-Return : (x : Expr) → small (stmt_numbers (st.Return x)) ≡ small (expr_numbers x)
small-Return x = ap small (law.counts-Return x) ∙ one-two (expr_numbers x)

pub small-If : (x : Expr) (ss : List Stmt) → small (stmt_numbers (st.If x ss None)) ≡ (small (expr_numbers x) && small (numbers_of ss))
small-If x ss =
    ap small (law.counts-If x ss None)
    ∙ (list_all-append (is_below_power 128) (expr_numbers x ++ []) (numbers_of ss ++ [])
    ∙ (ap (λ b. b && small (numbers_of ss ++ [])) (one (expr_numbers x)) ∙ ap (λ b. small (expr_numbers x) && b) (one (numbers_of ss))))

pub small-Else : (x : Expr) (ss zs : List Stmt) → small (stmt_numbers (st.If x ss (Some zs))) ≡ (small (expr_numbers x) && (small (numbers_of ss) && small (numbers_of zs)))
small-Else x ss zs =
    ap small (law.counts-If x ss (Some zs))
    ∙ (list_all-append (is_below_power 128) (expr_numbers x ++ []) (numbers_of ss ++ (numbers_of zs ++ []))
    ∙ (ap (λ b. b && small (numbers_of ss ++ (numbers_of zs ++ []))) (one (expr_numbers x)) ∙ ap (λ b. small (expr_numbers x) && b) (two (numbers_of ss) (numbers_of zs))))

pub small-For : (name : Name) (from to : Width) (ss : List Stmt) → small (stmt_numbers (st.For name from to ss)) ≡ small (numbers_of ss)
small-For name from to ss = ap small (law.counts-For name from to ss) ∙ one (numbers_of ss)

pub small-Jump : (x : Expr) → small (stmt_numbers (st.Jump x)) ≡ small (expr_numbers x)
small-Jump x = ap small (law.counts-Jump x) ∙ one-two (expr_numbers x)

pub small-Raise : (a x : Expr) → small (stmt_numbers (st.Raise a x)) ≡ (small (expr_numbers a) && small (expr_numbers x))
small-Raise a x = ap small (law.counts-Raise a x) ∙ two-two (expr_numbers a) (expr_numbers x)

pub small-WriteMemory : (count : ℕ) (a x : Expr) → small (stmt_numbers (st.WriteMemory count a x)) ≡ (small (expr_numbers a) && small (expr_numbers x))
small-WriteMemory count a x = ap small (law.counts-WriteMemory count a x) ∙ two-two (expr_numbers a) (expr_numbers x)

pub small-SoftWrite : (a x : Expr) → small (stmt_numbers (st.SoftWrite a x)) ≡ (small (expr_numbers a) && small (expr_numbers x))
small-SoftWrite a x = ap small (law.counts-SoftWrite a x) ∙ two-two (expr_numbers a) (expr_numbers x)

pub small-Called : (name : Name) (es : List Expr) → small (stmt_numbers (st.Call name es)) ≡ small (all_of (map expr_numbers es))
small-Called name es = ap small (law.counts-Call name es) ∙ (one (flat_map expr_numbers es) ∙ ap small (each-of es))

pub ruleset statement_laws = (small-Declare, small-Assign, small-Block, small-Return, small-If, small-Else, small-For, small-Jump, small-Raise, small-WriteMemory, small-SoftWrite, small-Called)
