-- The test places of expressions and statements, form by form.
use Rattle.std.specs.Prelude.{◌≡◌, Bool, ℕ, List, map, Option, option_map}
use Rattle.std.proofs.Common.{ap}
use Rattle.udb_base.specs.declared.names.Name.{Name}
use Rattle.udb_base.specs.declared.characters.Chars.{Chars}
use Rattle.idl_tree.specs.declared.widths.Width.{Width}
use Rattle.idl_tree.specs.declared.widths.EnumKind.{EnumKind}
use Rattle.idl_tree.specs.declared.widths.Shape.{Shape}
use Rattle.idl_tree.specs.declared.expressions.Unary.{Unary}
use Rattle.idl_tree.specs.declared.expressions.Binary.{Binary}
use Rattle.idl_tree.specs.declared.expressions.Expr.{Expr}
use Rattle.idl_tree.specs.declared.statements.Target.{Target}
use Rattle.idl_tree.specs.declared.statements.Stmt.{Stmt}
use Rattle.idl_tree.specs.declared.expressions.Expr.TheVariants as ex
use Rattle.idl_tree.specs.declared.expressions.Expr.TheOpen.{Expr-F}
use Rattle.idl_tree.specs.ExprLaws.{para-Expr-Number, para-Expr-Sized, para-Expr-Text, para-Expr-Flag, para-Expr-Word, para-Expr-Member, para-Expr-Unary, para-Expr-Binary, para-Expr-WideLeft, para-Expr-Choice, para-Expr-Join, para-Expr-Repeat, para-Expr-Index, para-Expr-Slice, para-Expr-Call, para-Expr-Signed, para-Expr-Resize, para-Expr-Pc, para-Expr-Encoding, para-Expr-Register, para-Expr-Field, para-Expr-SoftRead, para-Expr-ReadMemory, para-Expr-NewField, para-Expr-Mode, para-Expr-Implemented, para-Expr-ImplementedVersion}
use Rattle.idl_tree.specs.declared.statements.Stmt.TheVariants as st
use Rattle.idl_tree.specs.declared.statements.Stmt.TheOpen.{Stmt-F}
use Rattle.idl_tree.specs.StmtLaws.{fold-Stmt-Declare, fold-Stmt-Assign, fold-Stmt-Block, fold-Stmt-Return, fold-Stmt-If, fold-Stmt-For, fold-Stmt-Jump, fold-Stmt-Raise, fold-Stmt-WriteMemory, fold-Stmt-SoftWrite, fold-Stmt-Call}
use Rattle.udb_base.specs.declared.spaces.Space.{Space}
use Rattle.udb_base.specs.declared.conditions.Cond.{Cond}
use Rattle.idl_tree.specs.declared.programs.Function.{Function}
use Rattle.idl_spec.specs.TestPlaces.{TestPlaces, expr_places, expr_places_step, stmt_places, stmt_places_step}

pub places-Number : (space : Space) (functions : List Function) (n : ℕ) (context : List Cond)
    → expr_places space functions (ex.Number n) context
    ≡ expr_places_step space functions (Expr-F.Number n) context
unfolding expr_places
places-Number space functions n context =
    ap (λ f. f context) (para-Expr-Number TestPlaces (expr_places_step space functions) n)

pub places-Sized : (space : Space) (functions : List Function) (width : Width) (signed : Bool)
    (n : ℕ) (context : List Cond)
    → expr_places space functions (ex.Sized width signed n) context
    ≡ expr_places_step space functions (Expr-F.Sized width signed n) context
unfolding expr_places
places-Sized space functions width signed n context =
    ap (λ f. f context) (para-Expr-Sized TestPlaces (expr_places_step space functions) width signed n)

pub places-Text : (space : Space) (functions : List Function) (x : Chars) (context : List Cond)
    → expr_places space functions (ex.Text x) context
    ≡ expr_places_step space functions (Expr-F.Text x) context
unfolding expr_places
places-Text space functions x context =
    ap (λ f. f context) (para-Expr-Text TestPlaces (expr_places_step space functions) x)

pub places-Flag : (space : Space) (functions : List Function) (x : Bool) (context : List Cond)
    → expr_places space functions (ex.Flag x) context
    ≡ expr_places_step space functions (Expr-F.Flag x) context
unfolding expr_places
places-Flag space functions x context =
    ap (λ f. f context) (para-Expr-Flag TestPlaces (expr_places_step space functions) x)

pub places-Word : (space : Space) (functions : List Function) (name : Name) (context : List Cond)
    → expr_places space functions (ex.Word name) context
    ≡ expr_places_step space functions (Expr-F.Word name) context
unfolding expr_places
places-Word space functions name context =
    ap (λ f. f context) (para-Expr-Word TestPlaces (expr_places_step space functions) name)

pub places-Member : (space : Space) (functions : List Function) (kind : EnumKind) (name : Name)
    (context : List Cond)
    → expr_places space functions (ex.Member kind name) context
    ≡ expr_places_step space functions (Expr-F.Member kind name) context
unfolding expr_places
places-Member space functions kind name context =
    ap (λ f. f context) (para-Expr-Member TestPlaces (expr_places_step space functions) kind name)

pub places-Unary : (space : Space) (functions : List Function) (sign : Unary) (a : Expr)
    (context : List Cond)
    → expr_places space functions (ex.Unary sign a) context
    ≡ expr_places_step space functions (Expr-F.Unary sign (a, expr_places space functions a)) context
unfolding expr_places
places-Unary space functions sign a context =
    ap (λ f. f context) (para-Expr-Unary TestPlaces (expr_places_step space functions) sign a)

pub places-Binary : (space : Space) (functions : List Function) (sign : Binary) (a c : Expr)
    (context : List Cond)
    → expr_places space functions (ex.Binary sign a c) context
    ≡ expr_places_step space functions (Expr-F.Binary sign (a, expr_places space functions a) (c, expr_places space functions c)) context
unfolding expr_places
places-Binary space functions sign a c context =
    ap (λ f. f context) (para-Expr-Binary TestPlaces (expr_places_step space functions) sign a c)

pub places-WideLeft : (space : Space) (functions : List Function) (a : Expr) (by : Width)
    (context : List Cond)
    → expr_places space functions (ex.WideLeft a by) context
    ≡ expr_places_step space functions (Expr-F.WideLeft (a, expr_places space functions a) by) context
unfolding expr_places
places-WideLeft space functions a by context =
    ap (λ f. f context) (para-Expr-WideLeft TestPlaces (expr_places_step space functions) a by)

pub places-Choice : (space : Space) (functions : List Function) (test taken other : Expr)
    (context : List Cond)
    → expr_places space functions (ex.Choice test taken other) context
    ≡ expr_places_step space functions (Expr-F.Choice (test, expr_places space functions test) (taken, expr_places space functions taken) (other, expr_places space functions other)) context
unfolding expr_places
places-Choice space functions test taken other context =
    ap (λ f. f context) (para-Expr-Choice TestPlaces (expr_places_step space functions) test taken other)

pub places-Join : (space : Space) (functions : List Function) (es : List Expr) (context : List Cond)
    → expr_places space functions (ex.Join es) context
    ≡ expr_places_step space functions (Expr-F.Join (map (λ p. (p, expr_places space functions p)) es)) context
unfolding expr_places
places-Join space functions es context =
    ap (λ f. f context) (para-Expr-Join TestPlaces (expr_places_step space functions) es)

pub places-Repeat : (space : Space) (functions : List Function) (times : Width) (a : Expr)
    (context : List Cond)
    → expr_places space functions (ex.Repeat times a) context
    ≡ expr_places_step space functions (Expr-F.Repeat times (a, expr_places space functions a)) context
unfolding expr_places
places-Repeat space functions times a context =
    ap (λ f. f context) (para-Expr-Repeat TestPlaces (expr_places_step space functions) times a)

pub places-Index : (space : Space) (functions : List Function) (a at : Expr) (context : List Cond)
    → expr_places space functions (ex.Index a at) context
    ≡ expr_places_step space functions (Expr-F.Index (a, expr_places space functions a) (at, expr_places space functions at)) context
unfolding expr_places
places-Index space functions a at context =
    ap (λ f. f context) (para-Expr-Index TestPlaces (expr_places_step space functions) a at)

pub places-Slice : (space : Space) (functions : List Function) (a : Expr) (high low : Width)
    (context : List Cond)
    → expr_places space functions (ex.Slice a high low) context
    ≡ expr_places_step space functions (Expr-F.Slice (a, expr_places space functions a) high low) context
unfolding expr_places
places-Slice space functions a high low context =
    ap (λ f. f context) (para-Expr-Slice TestPlaces (expr_places_step space functions) a high low)

pub places-Call : (space : Space) (functions : List Function) (name : Name) (es : List Expr)
    (context : List Cond)
    → expr_places space functions (ex.Call name es) context
    ≡ expr_places_step space functions (Expr-F.Call name (map (λ p. (p, expr_places space functions p)) es)) context
unfolding expr_places
places-Call space functions name es context =
    ap (λ f. f context) (para-Expr-Call TestPlaces (expr_places_step space functions) name es)

pub places-Signed : (space : Space) (functions : List Function) (a : Expr) (context : List Cond)
    → expr_places space functions (ex.Signed a) context
    ≡ expr_places_step space functions (Expr-F.Signed (a, expr_places space functions a)) context
unfolding expr_places
places-Signed space functions a context =
    ap (λ f. f context) (para-Expr-Signed TestPlaces (expr_places_step space functions) a)

pub places-Resize : (space : Space) (functions : List Function) (width : Width) (a : Expr)
    (context : List Cond)
    → expr_places space functions (ex.Resize width a) context
    ≡ expr_places_step space functions (Expr-F.Resize width (a, expr_places space functions a)) context
unfolding expr_places
places-Resize space functions width a context =
    ap (λ f. f context) (para-Expr-Resize TestPlaces (expr_places_step space functions) width a)

pub places-Pc : (space : Space) (functions : List Function) (context : List Cond)
    → expr_places space functions ex.Pc context ≡ expr_places_step space functions Expr-F.Pc context
unfolding expr_places
places-Pc space functions context =
    ap (λ f. f context) (para-Expr-Pc TestPlaces (expr_places_step space functions))

pub places-Encoding : (space : Space) (functions : List Function) (context : List Cond)
    → expr_places space functions ex.Encoding context
    ≡ expr_places_step space functions Expr-F.Encoding context
unfolding expr_places
places-Encoding space functions context =
    ap (λ f. f context) (para-Expr-Encoding TestPlaces (expr_places_step space functions))

pub places-Register : (space : Space) (functions : List Function) (a : Expr) (context : List Cond)
    → expr_places space functions (ex.Register a) context
    ≡ expr_places_step space functions (Expr-F.Register (a, expr_places space functions a)) context
unfolding expr_places
places-Register space functions a context =
    ap (λ f. f context) (para-Expr-Register TestPlaces (expr_places_step space functions) a)

pub places-Field : (space : Space) (functions : List Function) (csr field : Name)
    (context : List Cond)
    → expr_places space functions (ex.Field csr field) context
    ≡ expr_places_step space functions (Expr-F.Field csr field) context
unfolding expr_places
places-Field space functions csr field context =
    ap (λ f. f context) (para-Expr-Field TestPlaces (expr_places_step space functions) csr field)

pub places-SoftRead : (space : Space) (functions : List Function) (a : Expr) (context : List Cond)
    → expr_places space functions (ex.SoftRead a) context
    ≡ expr_places_step space functions (Expr-F.SoftRead (a, expr_places space functions a)) context
unfolding expr_places
places-SoftRead space functions a context =
    ap (λ f. f context) (para-Expr-SoftRead TestPlaces (expr_places_step space functions) a)

pub places-ReadMemory : (space : Space) (functions : List Function) (count : ℕ) (at : Expr)
    (context : List Cond)
    → expr_places space functions (ex.ReadMemory count at) context
    ≡ expr_places_step space functions (Expr-F.ReadMemory count (at, expr_places space functions at)) context
unfolding expr_places
places-ReadMemory space functions count at context =
    ap (λ f. f context) (para-Expr-ReadMemory TestPlaces (expr_places_step space functions) count at)

pub places-NewField : (space : Space) (functions : List Function) (name : Name)
    (context : List Cond)
    → expr_places space functions (ex.NewField name) context
    ≡ expr_places_step space functions (Expr-F.NewField name) context
unfolding expr_places
places-NewField space functions name context =
    ap (λ f. f context) (para-Expr-NewField TestPlaces (expr_places_step space functions) name)

pub places-Mode : (space : Space) (functions : List Function) (context : List Cond)
    → expr_places space functions ex.Mode context
    ≡ expr_places_step space functions Expr-F.Mode context
unfolding expr_places
places-Mode space functions context =
    ap (λ f. f context) (para-Expr-Mode TestPlaces (expr_places_step space functions))

pub places-Implemented : (space : Space) (functions : List Function) (name : Name)
    (context : List Cond)
    → expr_places space functions (ex.Implemented name) context
    ≡ expr_places_step space functions (Expr-F.Implemented name) context
unfolding expr_places
places-Implemented space functions name context =
    ap (λ f. f context) (para-Expr-Implemented TestPlaces (expr_places_step space functions) name)

pub places-ImplementedVersion : (space : Space) (functions : List Function) (extension : Name)
    (x : Chars) (context : List Cond)
    → expr_places space functions (ex.ImplementedVersion extension x) context
    ≡ expr_places_step space functions (Expr-F.ImplementedVersion extension x) context
unfolding expr_places
places-ImplementedVersion space functions extension x context =
    ap (λ f. f context) (para-Expr-ImplementedVersion TestPlaces (expr_places_step space functions) extension x)

pub tests-Declare : (space : Space) (functions : List Function) (declared : Shape) (name : Name)
    (x : Expr) (context : List Cond)
    → stmt_places space functions (st.Declare declared name x) context
    ≡ stmt_places_step space functions (Stmt-F.Declare declared name x) context
unfolding stmt_places
tests-Declare space functions declared name x context =
    ap (λ f. f context) (fold-Stmt-Declare TestPlaces (stmt_places_step space functions) declared name x)

pub tests-Assign : (space : Space) (functions : List Function) (target : Target) (x : Expr)
    (context : List Cond)
    → stmt_places space functions (st.Assign target x) context
    ≡ stmt_places_step space functions (Stmt-F.Assign target x) context
unfolding stmt_places
tests-Assign space functions target x context =
    ap (λ f. f context) (fold-Stmt-Assign TestPlaces (stmt_places_step space functions) target x)

pub tests-Block : (space : Space) (functions : List Function) (ss : List Stmt) (context : List Cond)
    → stmt_places space functions (st.Block ss) context
    ≡ stmt_places_step space functions (Stmt-F.Block (map (stmt_places space functions) ss)) context
unfolding stmt_places
tests-Block space functions ss context =
    ap (λ f. f context) (fold-Stmt-Block TestPlaces (stmt_places_step space functions) ss)

pub tests-Return : (space : Space) (functions : List Function) (x : Expr) (context : List Cond)
    → stmt_places space functions (st.Return x) context
    ≡ stmt_places_step space functions (Stmt-F.Return x) context
unfolding stmt_places
tests-Return space functions x context =
    ap (λ f. f context) (fold-Stmt-Return TestPlaces (stmt_places_step space functions) x)

pub tests-If : (space : Space) (functions : List Function) (test : Expr) (taken : List Stmt)
    (other : Option (List Stmt)) (context : List Cond)
    → stmt_places space functions (st.If test taken other) context
    ≡ stmt_places_step space functions (Stmt-F.If test (map (stmt_places space functions) taken) (option_map (map (stmt_places space functions)) other)) context
unfolding stmt_places
tests-If space functions test taken other context =
    ap (λ f. f context) (fold-Stmt-If TestPlaces (stmt_places_step space functions) test taken other)

pub tests-For : (space : Space) (functions : List Function) (name : Name) (from to : Width)
    (ss : List Stmt) (context : List Cond)
    → stmt_places space functions (st.For name from to ss) context
    ≡ stmt_places_step space functions (Stmt-F.For name from to (map (stmt_places space functions) ss)) context
unfolding stmt_places
tests-For space functions name from to ss context =
    ap (λ f. f context) (fold-Stmt-For TestPlaces (stmt_places_step space functions) name from to ss)

pub tests-Jump : (space : Space) (functions : List Function) (x : Expr) (context : List Cond)
    → stmt_places space functions (st.Jump x) context
    ≡ stmt_places_step space functions (Stmt-F.Jump x) context
unfolding stmt_places
tests-Jump space functions x context =
    ap (λ f. f context) (fold-Stmt-Jump TestPlaces (stmt_places_step space functions) x)

pub tests-Raise : (space : Space) (functions : List Function) (cause tval : Expr)
    (context : List Cond)
    → stmt_places space functions (st.Raise cause tval) context
    ≡ stmt_places_step space functions (Stmt-F.Raise cause tval) context
unfolding stmt_places
tests-Raise space functions cause tval context =
    ap (λ f. f context) (fold-Stmt-Raise TestPlaces (stmt_places_step space functions) cause tval)

pub tests-WriteMemory : (space : Space) (functions : List Function) (count : ℕ) (at x : Expr)
    (context : List Cond)
    → stmt_places space functions (st.WriteMemory count at x) context
    ≡ stmt_places_step space functions (Stmt-F.WriteMemory count at x) context
unfolding stmt_places
tests-WriteMemory space functions count at x context =
    ap (λ f. f context) (fold-Stmt-WriteMemory TestPlaces (stmt_places_step space functions) count at x)

pub tests-SoftWrite : (space : Space) (functions : List Function) (address x : Expr)
    (context : List Cond)
    → stmt_places space functions (st.SoftWrite address x) context
    ≡ stmt_places_step space functions (Stmt-F.SoftWrite address x) context
unfolding stmt_places
tests-SoftWrite space functions address x context =
    ap (λ f. f context) (fold-Stmt-SoftWrite TestPlaces (stmt_places_step space functions) address x)

pub tests-Call : (space : Space) (functions : List Function) (name : Name) (es : List Expr)
    (context : List Cond)
    → stmt_places space functions (st.Call name es) context
    ≡ stmt_places_step space functions (Stmt-F.Call name es) context
unfolding stmt_places
tests-Call space functions name es context =
    ap (λ f. f context) (fold-Stmt-Call TestPlaces (stmt_places_step space functions) name es)

pub ruleset all_places = (places-Number, places-Sized, places-Text, places-Flag, places-Word, places-Member, places-Unary, places-Binary, places-WideLeft, places-Choice, places-Join, places-Repeat, places-Index, places-Slice, places-Call, places-Signed, places-Resize, places-Pc, places-Encoding, places-Register, places-Field, places-SoftRead, places-ReadMemory, places-NewField, places-Mode, places-Implemented, places-ImplementedVersion, tests-Declare, tests-Assign, tests-Block, tests-Return, tests-If, tests-For, tests-Jump, tests-Raise, tests-WriteMemory, tests-SoftWrite, tests-Call)
