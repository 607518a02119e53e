-- What typing asks, form by form.
use Rattle.std.specs.Prelude.{◌≡◌, Bool, ℕ, List, map, Option, option_map}
use Rattle.std.proofs.Common.{ap}
use Rattle.udb_base.specs.declared.names.Name.{Name}
use Rattle.udb_base.specs.declared.characters.Chars.{Chars}
use Rattle.idl_tree.specs.declared.widths.Width.{Width}
use Rattle.idl_tree.specs.declared.widths.EnumKind.{EnumKind}
use Rattle.idl_tree.specs.declared.widths.Shape.{Shape}
use Rattle.idl_tree.specs.declared.expressions.Unary.{Unary}
use Rattle.idl_tree.specs.declared.expressions.Binary.{Binary}
use Rattle.idl_tree.specs.declared.expressions.Expr.{Expr}
use Rattle.idl_tree.specs.declared.statements.Target.{Target}
use Rattle.idl_tree.specs.declared.statements.Stmt.{Stmt}
use Rattle.idl_tree.specs.declared.widths.Width.TheVariants as wd
use Rattle.idl_tree.specs.declared.widths.Width.TheOpen.{Width-F}
use Rattle.idl_tree.specs.WidthLaws.{fold-Width-Number, fold-Width-Word, fold-Width-Plus, fold-Width-Minus, fold-Width-Times, fold-Width-Max, fold-Width-Bits}
use Rattle.idl_tree.specs.declared.expressions.Expr.TheVariants as ex
use Rattle.idl_tree.specs.declared.expressions.Expr.TheOpen.{Expr-F}
use Rattle.idl_tree.specs.ExprLaws.{para-Expr-Number, para-Expr-Sized, para-Expr-Text, para-Expr-Flag, para-Expr-Word, para-Expr-Member, para-Expr-Unary, para-Expr-Binary, para-Expr-WideLeft, para-Expr-Choice, para-Expr-Join, para-Expr-Repeat, para-Expr-Index, para-Expr-Slice, para-Expr-Call, para-Expr-Signed, para-Expr-Resize, para-Expr-Pc, para-Expr-Encoding, para-Expr-Register, para-Expr-Field, para-Expr-SoftRead, para-Expr-ReadMemory, para-Expr-NewField, para-Expr-Mode, para-Expr-Implemented, para-Expr-ImplementedVersion}
use Rattle.idl_tree.specs.declared.statements.Stmt.TheVariants as st
use Rattle.idl_tree.specs.declared.statements.Stmt.TheOpen.{Stmt-F}
use Rattle.idl_tree.specs.StmtLaws.{para-Stmt-Declare, para-Stmt-Assign, para-Stmt-Block, para-Stmt-Return, para-Stmt-If, para-Stmt-For, para-Stmt-Jump, para-Stmt-Raise, para-Stmt-WriteMemory, para-Stmt-SoftWrite, para-Stmt-Call}
use Rattle.udb_base.specs.declared.conditions.Cond.{Cond}
use Rattle.idl_spec.specs.Demands.{View, Visible, Issue, width_issues, width_step}
use Rattle.idl_spec.specs.Checks.{Checks, Walk, expr_checks, checks_step, stmt_checks, walk_step}

pub issues-Number : (view : View) (n : ℕ)
    → width_issues view (wd.Number n) ≡ width_step view (Width-F.Number n)
unfolding width_issues
issues-Number view n = fold-Width-Number (List Issue) (width_step view) n

pub issues-Word : (view : View) (name : Name)
    → width_issues view (wd.Word name) ≡ width_step view (Width-F.Word name)
unfolding width_issues
issues-Word view name = fold-Width-Word (List Issue) (width_step view) name

pub issues-Plus : (view : View) (a c : Width)
    → width_issues view (wd.Plus a c)
    ≡ width_step view (Width-F.Plus (width_issues view a) (width_issues view c))
unfolding width_issues
issues-Plus view a c = fold-Width-Plus (List Issue) (width_step view) a c

pub issues-Minus : (view : View) (a c : Width)
    → width_issues view (wd.Minus a c)
    ≡ width_step view (Width-F.Minus (width_issues view a) (width_issues view c))
unfolding width_issues
issues-Minus view a c = fold-Width-Minus (List Issue) (width_step view) a c

pub issues-Times : (view : View) (a c : Width)
    → width_issues view (wd.Times a c)
    ≡ width_step view (Width-F.Times (width_issues view a) (width_issues view c))
unfolding width_issues
issues-Times view a c = fold-Width-Times (List Issue) (width_step view) a c

pub issues-Max : (view : View) (a c : Width)
    → width_issues view (wd.Max a c)
    ≡ width_step view (Width-F.Max (width_issues view a) (width_issues view c))
unfolding width_issues
issues-Max view a c = fold-Width-Max (List Issue) (width_step view) a c

pub issues-Bits : (view : View) (csr : Option Name) (name : Name)
    → width_issues view (wd.Bits csr name) ≡ width_step view (Width-F.Bits csr name)
unfolding width_issues
issues-Bits view csr name = fold-Width-Bits (List Issue) (width_step view) csr name

pub checks-Number : (view : View) (n : ℕ) (context : List Cond)
    → expr_checks view (ex.Number n) context ≡ checks_step view (Expr-F.Number n) context
unfolding expr_checks
checks-Number view n context = ap (λ f. f context) (para-Expr-Number Checks (checks_step view) n)

pub checks-Sized : (view : View) (width : Width) (signed : Bool) (n : ℕ) (context : List Cond)
    → expr_checks view (ex.Sized width signed n) context
    ≡ checks_step view (Expr-F.Sized width signed n) context
unfolding expr_checks
checks-Sized view width signed n context =
    ap (λ f. f context) (para-Expr-Sized Checks (checks_step view) width signed n)

pub checks-Text : (view : View) (x : Chars) (context : List Cond)
    → expr_checks view (ex.Text x) context ≡ checks_step view (Expr-F.Text x) context
unfolding expr_checks
checks-Text view x context = ap (λ f. f context) (para-Expr-Text Checks (checks_step view) x)

pub checks-Flag : (view : View) (x : Bool) (context : List Cond)
    → expr_checks view (ex.Flag x) context ≡ checks_step view (Expr-F.Flag x) context
unfolding expr_checks
checks-Flag view x context = ap (λ f. f context) (para-Expr-Flag Checks (checks_step view) x)

pub checks-Word : (view : View) (name : Name) (context : List Cond)
    → expr_checks view (ex.Word name) context ≡ checks_step view (Expr-F.Word name) context
unfolding expr_checks
checks-Word view name context = ap (λ f. f context) (para-Expr-Word Checks (checks_step view) name)

pub checks-Member : (view : View) (kind : EnumKind) (name : Name) (context : List Cond)
    → expr_checks view (ex.Member kind name) context
    ≡ checks_step view (Expr-F.Member kind name) context
unfolding expr_checks
checks-Member view kind name context =
    ap (λ f. f context) (para-Expr-Member Checks (checks_step view) kind name)

pub checks-Unary : (view : View) (sign : Unary) (a : Expr) (context : List Cond)
    → expr_checks view (ex.Unary sign a) context
    ≡ checks_step view (Expr-F.Unary sign (a, expr_checks view a)) context
unfolding expr_checks
checks-Unary view sign a context =
    ap (λ f. f context) (para-Expr-Unary Checks (checks_step view) sign a)

pub checks-Binary : (view : View) (sign : Binary) (a c : Expr) (context : List Cond)
    → expr_checks view (ex.Binary sign a c) context
    ≡ checks_step view (Expr-F.Binary sign (a, expr_checks view a) (c, expr_checks view c)) context
unfolding expr_checks
checks-Binary view sign a c context =
    ap (λ f. f context) (para-Expr-Binary Checks (checks_step view) sign a c)

pub checks-WideLeft : (view : View) (a : Expr) (by : Width) (context : List Cond)
    → expr_checks view (ex.WideLeft a by) context
    ≡ checks_step view (Expr-F.WideLeft (a, expr_checks view a) by) context
unfolding expr_checks
checks-WideLeft view a by context =
    ap (λ f. f context) (para-Expr-WideLeft Checks (checks_step view) a by)

pub checks-Choice : (view : View) (test taken other : Expr) (context : List Cond)
    → expr_checks view (ex.Choice test taken other) context
    ≡ checks_step view (Expr-F.Choice (test, expr_checks view test) (taken, expr_checks view taken) (other, expr_checks view other)) context
unfolding expr_checks
checks-Choice view test taken other context =
    ap (λ f. f context) (para-Expr-Choice Checks (checks_step view) test taken other)

pub checks-Join : (view : View) (es : List Expr) (context : List Cond)
    → expr_checks view (ex.Join es) context
    ≡ checks_step view (Expr-F.Join (map (λ p. (p, expr_checks view p)) es)) context
unfolding expr_checks
checks-Join view es context = ap (λ f. f context) (para-Expr-Join Checks (checks_step view) es)

pub checks-Repeat : (view : View) (times : Width) (a : Expr) (context : List Cond)
    → expr_checks view (ex.Repeat times a) context
    ≡ checks_step view (Expr-F.Repeat times (a, expr_checks view a)) context
unfolding expr_checks
checks-Repeat view times a context =
    ap (λ f. f context) (para-Expr-Repeat Checks (checks_step view) times a)

pub checks-Index : (view : View) (a at : Expr) (context : List Cond)
    → expr_checks view (ex.Index a at) context
    ≡ checks_step view (Expr-F.Index (a, expr_checks view a) (at, expr_checks view at)) context
unfolding expr_checks
checks-Index view a at context =
    ap (λ f. f context) (para-Expr-Index Checks (checks_step view) a at)

pub checks-Slice : (view : View) (a : Expr) (high low : Width) (context : List Cond)
    → expr_checks view (ex.Slice a high low) context
    ≡ checks_step view (Expr-F.Slice (a, expr_checks view a) high low) context
unfolding expr_checks
checks-Slice view a high low context =
    ap (λ f. f context) (para-Expr-Slice Checks (checks_step view) a high low)

pub checks-Call : (view : View) (name : Name) (es : List Expr) (context : List Cond)
    → expr_checks view (ex.Call name es) context
    ≡ checks_step view (Expr-F.Call name (map (λ p. (p, expr_checks view p)) es)) context
unfolding expr_checks
checks-Call view name es context =
    ap (λ f. f context) (para-Expr-Call Checks (checks_step view) name es)

pub checks-Signed : (view : View) (a : Expr) (context : List Cond)
    → expr_checks view (ex.Signed a) context
    ≡ checks_step view (Expr-F.Signed (a, expr_checks view a)) context
unfolding expr_checks
checks-Signed view a context = ap (λ f. f context) (para-Expr-Signed Checks (checks_step view) a)

pub checks-Resize : (view : View) (width : Width) (a : Expr) (context : List Cond)
    → expr_checks view (ex.Resize width a) context
    ≡ checks_step view (Expr-F.Resize width (a, expr_checks view a)) context
unfolding expr_checks
checks-Resize view width a context =
    ap (λ f. f context) (para-Expr-Resize Checks (checks_step view) width a)

pub checks-Pc : (view : View) (context : List Cond)
    → expr_checks view ex.Pc context ≡ checks_step view Expr-F.Pc context
unfolding expr_checks
checks-Pc view context = ap (λ f. f context) (para-Expr-Pc Checks (checks_step view))

pub checks-Encoding : (view : View) (context : List Cond)
    → expr_checks view ex.Encoding context ≡ checks_step view Expr-F.Encoding context
unfolding expr_checks
checks-Encoding view context = ap (λ f. f context) (para-Expr-Encoding Checks (checks_step view))

pub checks-Register : (view : View) (a : Expr) (context : List Cond)
    → expr_checks view (ex.Register a) context
    ≡ checks_step view (Expr-F.Register (a, expr_checks view a)) context
unfolding expr_checks
checks-Register view a context =
    ap (λ f. f context) (para-Expr-Register Checks (checks_step view) a)

pub checks-Field : (view : View) (csr field : Name) (context : List Cond)
    → expr_checks view (ex.Field csr field) context
    ≡ checks_step view (Expr-F.Field csr field) context
unfolding expr_checks
checks-Field view csr field context =
    ap (λ f. f context) (para-Expr-Field Checks (checks_step view) csr field)

pub checks-SoftRead : (view : View) (a : Expr) (context : List Cond)
    → expr_checks view (ex.SoftRead a) context
    ≡ checks_step view (Expr-F.SoftRead (a, expr_checks view a)) context
unfolding expr_checks
checks-SoftRead view a context =
    ap (λ f. f context) (para-Expr-SoftRead Checks (checks_step view) a)

pub checks-ReadMemory : (view : View) (count : ℕ) (at : Expr) (context : List Cond)
    → expr_checks view (ex.ReadMemory count at) context
    ≡ checks_step view (Expr-F.ReadMemory count (at, expr_checks view at)) context
unfolding expr_checks
checks-ReadMemory view count at context =
    ap (λ f. f context) (para-Expr-ReadMemory Checks (checks_step view) count at)

pub checks-NewField : (view : View) (name : Name) (context : List Cond)
    → expr_checks view (ex.NewField name) context ≡ checks_step view (Expr-F.NewField name) context
unfolding expr_checks
checks-NewField view name context =
    ap (λ f. f context) (para-Expr-NewField Checks (checks_step view) name)

pub checks-Mode : (view : View) (context : List Cond)
    → expr_checks view ex.Mode context ≡ checks_step view Expr-F.Mode context
unfolding expr_checks
checks-Mode view context = ap (λ f. f context) (para-Expr-Mode Checks (checks_step view))

pub checks-Implemented : (view : View) (name : Name) (context : List Cond)
    → expr_checks view (ex.Implemented name) context
    ≡ checks_step view (Expr-F.Implemented name) context
unfolding expr_checks
checks-Implemented view name context =
    ap (λ f. f context) (para-Expr-Implemented Checks (checks_step view) name)

pub checks-ImplementedVersion : (view : View) (extension : Name) (x : Chars) (context : List Cond)
    → expr_checks view (ex.ImplementedVersion extension x) context
    ≡ checks_step view (Expr-F.ImplementedVersion extension x) context
unfolding expr_checks
checks-ImplementedVersion view extension x context =
    ap (λ f. f context) (para-Expr-ImplementedVersion Checks (checks_step view) extension x)

pub walks-Declare : (view : View) (declared : Shape) (name : Name) (x : Expr)
    (visible : List Visible) (context : List Cond)
    → stmt_checks view (st.Declare declared name x) visible context
    ≡ walk_step view (Stmt-F.Declare declared name x) visible context
unfolding stmt_checks
walks-Declare view declared name x visible context =
    ap (λ f. f visible context) (para-Stmt-Declare Walk (walk_step view) declared name x)

pub walks-Assign : (view : View) (target : Target) (x : Expr) (visible : List Visible)
    (context : List Cond)
    → stmt_checks view (st.Assign target x) visible context
    ≡ walk_step view (Stmt-F.Assign target x) visible context
unfolding stmt_checks
walks-Assign view target x visible context =
    ap (λ f. f visible context) (para-Stmt-Assign Walk (walk_step view) target x)

pub walks-Block : (view : View) (ss : List Stmt) (visible : List Visible) (context : List Cond)
    → stmt_checks view (st.Block ss) visible context
    ≡ walk_step view (Stmt-F.Block (map (λ p. (p, stmt_checks view p)) ss)) visible context
unfolding stmt_checks
walks-Block view ss visible context =
    ap (λ f. f visible context) (para-Stmt-Block Walk (walk_step view) ss)

pub walks-Return : (view : View) (x : Expr) (visible : List Visible) (context : List Cond)
    → stmt_checks view (st.Return x) visible context
    ≡ walk_step view (Stmt-F.Return x) visible context
unfolding stmt_checks
walks-Return view x visible context =
    ap (λ f. f visible context) (para-Stmt-Return Walk (walk_step view) x)

pub walks-If : (view : View) (test : Expr) (taken : List Stmt) (other : Option (List Stmt))
    (visible : List Visible) (context : List Cond)
    → stmt_checks view (st.If test taken other) visible context
    ≡ walk_step view (Stmt-F.If test (map (λ p. (p, stmt_checks view p)) taken) (option_map (map (λ p. (p, stmt_checks view p))) other)) visible context
unfolding stmt_checks
walks-If view test taken other visible context =
    ap (λ f. f visible context) (para-Stmt-If Walk (walk_step view) test taken other)

pub walks-For : (view : View) (name : Name) (from to : Width) (ss : List Stmt)
    (visible : List Visible) (context : List Cond)
    → stmt_checks view (st.For name from to ss) visible context
    ≡ walk_step view (Stmt-F.For name from to (map (λ p. (p, stmt_checks view p)) ss)) visible context
unfolding stmt_checks
walks-For view name from to ss visible context =
    ap (λ f. f visible context) (para-Stmt-For Walk (walk_step view) name from to ss)

pub walks-Jump : (view : View) (x : Expr) (visible : List Visible) (context : List Cond)
    → stmt_checks view (st.Jump x) visible context ≡ walk_step view (Stmt-F.Jump x) visible context
unfolding stmt_checks
walks-Jump view x visible context =
    ap (λ f. f visible context) (para-Stmt-Jump Walk (walk_step view) x)

pub walks-Raise : (view : View) (cause tval : Expr) (visible : List Visible) (context : List Cond)
    → stmt_checks view (st.Raise cause tval) visible context
    ≡ walk_step view (Stmt-F.Raise cause tval) visible context
unfolding stmt_checks
walks-Raise view cause tval visible context =
    ap (λ f. f visible context) (para-Stmt-Raise Walk (walk_step view) cause tval)

pub walks-WriteMemory : (view : View) (count : ℕ) (at x : Expr) (visible : List Visible)
    (context : List Cond)
    → stmt_checks view (st.WriteMemory count at x) visible context
    ≡ walk_step view (Stmt-F.WriteMemory count at x) visible context
unfolding stmt_checks
walks-WriteMemory view count at x visible context =
    ap (λ f. f visible context) (para-Stmt-WriteMemory Walk (walk_step view) count at x)

pub walks-SoftWrite : (view : View) (address x : Expr) (visible : List Visible)
    (context : List Cond)
    → stmt_checks view (st.SoftWrite address x) visible context
    ≡ walk_step view (Stmt-F.SoftWrite address x) visible context
unfolding stmt_checks
walks-SoftWrite view address x visible context =
    ap (λ f. f visible context) (para-Stmt-SoftWrite Walk (walk_step view) address x)

pub walks-Call : (view : View) (name : Name) (es : List Expr) (visible : List Visible)
    (context : List Cond)
    → stmt_checks view (st.Call name es) visible context
    ≡ walk_step view (Stmt-F.Call name es) visible context
unfolding stmt_checks
walks-Call view name es visible context =
    ap (λ f. f visible context) (para-Stmt-Call Walk (walk_step view) name es)

pub ruleset all_checks = (issues-Number, issues-Word, issues-Plus, issues-Minus, issues-Times, issues-Max, issues-Bits, checks-Number, checks-Sized, checks-Text, checks-Flag, checks-Word, checks-Member, checks-Unary, checks-Binary, checks-WideLeft, checks-Choice, checks-Join, checks-Repeat, checks-Index, checks-Slice, checks-Call, checks-Signed, checks-Resize, checks-Pc, checks-Encoding, checks-Register, checks-Field, checks-SoftRead, checks-ReadMemory, checks-NewField, checks-Mode, checks-Implemented, checks-ImplementedVersion, walks-Declare, walks-Assign, walks-Block, walks-Return, walks-If, walks-For, walks-Jump, walks-Raise, walks-WriteMemory, walks-SoftWrite, walks-Call)
