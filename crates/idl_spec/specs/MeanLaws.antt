-- What expressions and statements mean, form by form.
use Rattle.std.specs.Prelude.{◌≡◌, Bool, ℕ, List, map, Option, option_map}
use Rattle.std.proofs.Common.{ap}
use Rattle.udb_base.specs.declared.names.Name.{Name}
use Rattle.udb_base.specs.declared.characters.Chars.{Chars}
use Rattle.idl_tree.specs.declared.widths.Width.{Width}
use Rattle.idl_tree.specs.declared.widths.EnumKind.{EnumKind}
use Rattle.idl_tree.specs.declared.widths.Shape.{Shape}
use Rattle.idl_tree.specs.declared.expressions.Unary.{Unary}
use Rattle.idl_tree.specs.declared.expressions.Binary.{Binary}
use Rattle.idl_tree.specs.declared.expressions.Expr.{Expr}
use Rattle.idl_tree.specs.declared.statements.Target.{Target}
use Rattle.idl_tree.specs.declared.statements.Stmt.{Stmt}
use Rattle.idl_tree.specs.declared.expressions.Expr.TheVariants as ex
use Rattle.idl_tree.specs.declared.expressions.Expr.TheOpen.{Expr-F}
use Rattle.idl_tree.specs.ExprLaws.{para-Expr-Number, para-Expr-Sized, para-Expr-Text, para-Expr-Flag, para-Expr-Word, para-Expr-Member, para-Expr-Unary, para-Expr-Binary, para-Expr-WideLeft, para-Expr-Choice, para-Expr-Join, para-Expr-Repeat, para-Expr-Index, para-Expr-Slice, para-Expr-Call, para-Expr-Signed, para-Expr-Resize, para-Expr-Pc, para-Expr-Encoding, para-Expr-Register, para-Expr-Field, para-Expr-SoftRead, para-Expr-ReadMemory, para-Expr-NewField, para-Expr-Mode, para-Expr-Implemented, para-Expr-ImplementedVersion}
use Rattle.idl_tree.specs.declared.statements.Stmt.TheVariants as st
use Rattle.idl_tree.specs.declared.statements.Stmt.TheOpen.{Stmt-F}
use Rattle.idl_tree.specs.StmtLaws.{fold-Stmt-Declare, fold-Stmt-Assign, fold-Stmt-Block, fold-Stmt-Return, fold-Stmt-If, fold-Stmt-For, fold-Stmt-Jump, fold-Stmt-Raise, fold-Stmt-WriteMemory, fold-Stmt-SoftWrite, fold-Stmt-Call}
use Rattle.idl_spec.specs.Harts.{State}
use Rattle.idl_spec.specs.Settings.{Setting, Scope, Reading, Change}
use Rattle.idl_spec.specs.Mean.{mean_expr, expr_step, mean_stmt, stmt_step}

pub mean-Number : (e : Setting) (n : ℕ) (scope : Scope) (s : State)
    → mean_expr e (ex.Number n) scope s ≡ expr_step e (Expr-F.Number n) scope s
unfolding mean_expr
mean-Number e n scope s = ap (λ f. f scope s) (para-Expr-Number Reading (expr_step e) n)

pub mean-Sized : (e : Setting) (width : Width) (signed : Bool) (n : ℕ) (scope : Scope) (s : State)
    → mean_expr e (ex.Sized width signed n) scope s
    ≡ expr_step e (Expr-F.Sized width signed n) scope s
unfolding mean_expr
mean-Sized e width signed n scope s =
    ap (λ f. f scope s) (para-Expr-Sized Reading (expr_step e) width signed n)

pub mean-Text : (e : Setting) (x : Chars) (scope : Scope) (s : State)
    → mean_expr e (ex.Text x) scope s ≡ expr_step e (Expr-F.Text x) scope s
unfolding mean_expr
mean-Text e x scope s = ap (λ f. f scope s) (para-Expr-Text Reading (expr_step e) x)

pub mean-Flag : (e : Setting) (x : Bool) (scope : Scope) (s : State)
    → mean_expr e (ex.Flag x) scope s ≡ expr_step e (Expr-F.Flag x) scope s
unfolding mean_expr
mean-Flag e x scope s = ap (λ f. f scope s) (para-Expr-Flag Reading (expr_step e) x)

pub mean-Word : (e : Setting) (name : Name) (scope : Scope) (s : State)
    → mean_expr e (ex.Word name) scope s ≡ expr_step e (Expr-F.Word name) scope s
unfolding mean_expr
mean-Word e name scope s = ap (λ f. f scope s) (para-Expr-Word Reading (expr_step e) name)

pub mean-Member : (e : Setting) (kind : EnumKind) (name : Name) (scope : Scope) (s : State)
    → mean_expr e (ex.Member kind name) scope s ≡ expr_step e (Expr-F.Member kind name) scope s
unfolding mean_expr
mean-Member e kind name scope s =
    ap (λ f. f scope s) (para-Expr-Member Reading (expr_step e) kind name)

pub mean-Unary : (e : Setting) (sign : Unary) (a : Expr) (scope : Scope) (s : State)
    → mean_expr e (ex.Unary sign a) scope s
    ≡ expr_step e (Expr-F.Unary sign (a, mean_expr e a)) scope s
unfolding mean_expr
mean-Unary e sign a scope s = ap (λ f. f scope s) (para-Expr-Unary Reading (expr_step e) sign a)

pub mean-Binary : (e : Setting) (sign : Binary) (a c : Expr) (scope : Scope) (s : State)
    → mean_expr e (ex.Binary sign a c) scope s
    ≡ expr_step e (Expr-F.Binary sign (a, mean_expr e a) (c, mean_expr e c)) scope s
unfolding mean_expr
mean-Binary e sign a c scope s =
    ap (λ f. f scope s) (para-Expr-Binary Reading (expr_step e) sign a c)

pub mean-WideLeft : (e : Setting) (a : Expr) (by : Width) (scope : Scope) (s : State)
    → mean_expr e (ex.WideLeft a by) scope s
    ≡ expr_step e (Expr-F.WideLeft (a, mean_expr e a) by) scope s
unfolding mean_expr
mean-WideLeft e a by scope s = ap (λ f. f scope s) (para-Expr-WideLeft Reading (expr_step e) a by)

pub mean-Choice : (e : Setting) (test taken other : Expr) (scope : Scope) (s : State)
    → mean_expr e (ex.Choice test taken other) scope s
    ≡ expr_step e (Expr-F.Choice (test, mean_expr e test) (taken, mean_expr e taken) (other, mean_expr e other)) scope s
unfolding mean_expr
mean-Choice e test taken other scope s =
    ap (λ f. f scope s) (para-Expr-Choice Reading (expr_step e) test taken other)

pub mean-Join : (e : Setting) (es : List Expr) (scope : Scope) (s : State)
    → mean_expr e (ex.Join es) scope s
    ≡ expr_step e (Expr-F.Join (map (λ p. (p, mean_expr e p)) es)) scope s
unfolding mean_expr
mean-Join e es scope s = ap (λ f. f scope s) (para-Expr-Join Reading (expr_step e) es)

pub mean-Repeat : (e : Setting) (times : Width) (a : Expr) (scope : Scope) (s : State)
    → mean_expr e (ex.Repeat times a) scope s
    ≡ expr_step e (Expr-F.Repeat times (a, mean_expr e a)) scope s
unfolding mean_expr
mean-Repeat e times a scope s = ap (λ f. f scope s) (para-Expr-Repeat Reading (expr_step e) times a)

pub mean-Index : (e : Setting) (a at : Expr) (scope : Scope) (s : State)
    → mean_expr e (ex.Index a at) scope s
    ≡ expr_step e (Expr-F.Index (a, mean_expr e a) (at, mean_expr e at)) scope s
unfolding mean_expr
mean-Index e a at scope s = ap (λ f. f scope s) (para-Expr-Index Reading (expr_step e) a at)

pub mean-Slice : (e : Setting) (a : Expr) (high low : Width) (scope : Scope) (s : State)
    → mean_expr e (ex.Slice a high low) scope s
    ≡ expr_step e (Expr-F.Slice (a, mean_expr e a) high low) scope s
unfolding mean_expr
mean-Slice e a high low scope s =
    ap (λ f. f scope s) (para-Expr-Slice Reading (expr_step e) a high low)

pub mean-Call : (e : Setting) (name : Name) (es : List Expr) (scope : Scope) (s : State)
    → mean_expr e (ex.Call name es) scope s
    ≡ expr_step e (Expr-F.Call name (map (λ p. (p, mean_expr e p)) es)) scope s
unfolding mean_expr
mean-Call e name es scope s = ap (λ f. f scope s) (para-Expr-Call Reading (expr_step e) name es)

pub mean-Signed : (e : Setting) (a : Expr) (scope : Scope) (s : State)
    → mean_expr e (ex.Signed a) scope s ≡ expr_step e (Expr-F.Signed (a, mean_expr e a)) scope s
unfolding mean_expr
mean-Signed e a scope s = ap (λ f. f scope s) (para-Expr-Signed Reading (expr_step e) a)

pub mean-Resize : (e : Setting) (width : Width) (a : Expr) (scope : Scope) (s : State)
    → mean_expr e (ex.Resize width a) scope s
    ≡ expr_step e (Expr-F.Resize width (a, mean_expr e a)) scope s
unfolding mean_expr
mean-Resize e width a scope s = ap (λ f. f scope s) (para-Expr-Resize Reading (expr_step e) width a)

pub mean-Pc : (e : Setting) (scope : Scope) (s : State)
    → mean_expr e ex.Pc scope s ≡ expr_step e Expr-F.Pc scope s
unfolding mean_expr
mean-Pc e scope s = ap (λ f. f scope s) (para-Expr-Pc Reading (expr_step e))

pub mean-Encoding : (e : Setting) (scope : Scope) (s : State)
    → mean_expr e ex.Encoding scope s ≡ expr_step e Expr-F.Encoding scope s
unfolding mean_expr
mean-Encoding e scope s = ap (λ f. f scope s) (para-Expr-Encoding Reading (expr_step e))

pub mean-Register : (e : Setting) (a : Expr) (scope : Scope) (s : State)
    → mean_expr e (ex.Register a) scope s ≡ expr_step e (Expr-F.Register (a, mean_expr e a)) scope s
unfolding mean_expr
mean-Register e a scope s = ap (λ f. f scope s) (para-Expr-Register Reading (expr_step e) a)

pub mean-Field : (e : Setting) (csr field : Name) (scope : Scope) (s : State)
    → mean_expr e (ex.Field csr field) scope s ≡ expr_step e (Expr-F.Field csr field) scope s
unfolding mean_expr
mean-Field e csr field scope s =
    ap (λ f. f scope s) (para-Expr-Field Reading (expr_step e) csr field)

pub mean-SoftRead : (e : Setting) (a : Expr) (scope : Scope) (s : State)
    → mean_expr e (ex.SoftRead a) scope s ≡ expr_step e (Expr-F.SoftRead (a, mean_expr e a)) scope s
unfolding mean_expr
mean-SoftRead e a scope s = ap (λ f. f scope s) (para-Expr-SoftRead Reading (expr_step e) a)

pub mean-ReadMemory : (e : Setting) (count : ℕ) (at : Expr) (scope : Scope) (s : State)
    → mean_expr e (ex.ReadMemory count at) scope s
    ≡ expr_step e (Expr-F.ReadMemory count (at, mean_expr e at)) scope s
unfolding mean_expr
mean-ReadMemory e count at scope s =
    ap (λ f. f scope s) (para-Expr-ReadMemory Reading (expr_step e) count at)

pub mean-NewField : (e : Setting) (name : Name) (scope : Scope) (s : State)
    → mean_expr e (ex.NewField name) scope s ≡ expr_step e (Expr-F.NewField name) scope s
unfolding mean_expr
mean-NewField e name scope s = ap (λ f. f scope s) (para-Expr-NewField Reading (expr_step e) name)

pub mean-Mode : (e : Setting) (scope : Scope) (s : State)
    → mean_expr e ex.Mode scope s ≡ expr_step e Expr-F.Mode scope s
unfolding mean_expr
mean-Mode e scope s = ap (λ f. f scope s) (para-Expr-Mode Reading (expr_step e))

pub mean-Implemented : (e : Setting) (name : Name) (scope : Scope) (s : State)
    → mean_expr e (ex.Implemented name) scope s ≡ expr_step e (Expr-F.Implemented name) scope s
unfolding mean_expr
mean-Implemented e name scope s =
    ap (λ f. f scope s) (para-Expr-Implemented Reading (expr_step e) name)

pub mean-ImplementedVersion : (e : Setting) (extension : Name) (x : Chars) (scope : Scope) (s : State)
    → mean_expr e (ex.ImplementedVersion extension x) scope s
    ≡ expr_step e (Expr-F.ImplementedVersion extension x) scope s
unfolding mean_expr
mean-ImplementedVersion e extension x scope s =
    ap (λ f. f scope s) (para-Expr-ImplementedVersion Reading (expr_step e) extension x)

pub runs-Declare : (e : Setting) (declared : Shape) (name : Name) (x : Expr) (scope : Scope) (s : State)
    → mean_stmt e (st.Declare declared name x) scope s
    ≡ stmt_step e (Stmt-F.Declare declared name x) scope s
unfolding mean_stmt
runs-Declare e declared name x scope s =
    ap (λ f. f scope s) (fold-Stmt-Declare Change (stmt_step e) declared name x)

pub runs-Assign : (e : Setting) (target : Target) (x : Expr) (scope : Scope) (s : State)
    → mean_stmt e (st.Assign target x) scope s ≡ stmt_step e (Stmt-F.Assign target x) scope s
unfolding mean_stmt
runs-Assign e target x scope s =
    ap (λ f. f scope s) (fold-Stmt-Assign Change (stmt_step e) target x)

pub runs-Block : (e : Setting) (ss : List Stmt) (scope : Scope) (s : State)
    → mean_stmt e (st.Block ss) scope s ≡ stmt_step e (Stmt-F.Block (map (mean_stmt e) ss)) scope s
unfolding mean_stmt
runs-Block e ss scope s = ap (λ f. f scope s) (fold-Stmt-Block Change (stmt_step e) ss)

pub runs-Return : (e : Setting) (x : Expr) (scope : Scope) (s : State)
    → mean_stmt e (st.Return x) scope s ≡ stmt_step e (Stmt-F.Return x) scope s
unfolding mean_stmt
runs-Return e x scope s = ap (λ f. f scope s) (fold-Stmt-Return Change (stmt_step e) x)

pub runs-If : (e : Setting) (test : Expr) (taken : List Stmt) (other : Option (List Stmt)) (scope : Scope) (s : State)
    → mean_stmt e (st.If test taken other) scope s
    ≡ stmt_step e (Stmt-F.If test (map (mean_stmt e) taken) (option_map (map (mean_stmt e)) other)) scope s
unfolding mean_stmt
runs-If e test taken other scope s =
    ap (λ f. f scope s) (fold-Stmt-If Change (stmt_step e) test taken other)

pub runs-For : (e : Setting) (name : Name) (from to : Width) (ss : List Stmt) (scope : Scope) (s : State)
    → mean_stmt e (st.For name from to ss) scope s
    ≡ stmt_step e (Stmt-F.For name from to (map (mean_stmt e) ss)) scope s
unfolding mean_stmt
runs-For e name from to ss scope s =
    ap (λ f. f scope s) (fold-Stmt-For Change (stmt_step e) name from to ss)

pub runs-Jump : (e : Setting) (x : Expr) (scope : Scope) (s : State)
    → mean_stmt e (st.Jump x) scope s ≡ stmt_step e (Stmt-F.Jump x) scope s
unfolding mean_stmt
runs-Jump e x scope s = ap (λ f. f scope s) (fold-Stmt-Jump Change (stmt_step e) x)

pub runs-Raise : (e : Setting) (cause tval : Expr) (scope : Scope) (s : State)
    → mean_stmt e (st.Raise cause tval) scope s ≡ stmt_step e (Stmt-F.Raise cause tval) scope s
unfolding mean_stmt
runs-Raise e cause tval scope s =
    ap (λ f. f scope s) (fold-Stmt-Raise Change (stmt_step e) cause tval)

pub runs-WriteMemory : (e : Setting) (count : ℕ) (at x : Expr) (scope : Scope) (s : State)
    → mean_stmt e (st.WriteMemory count at x) scope s
    ≡ stmt_step e (Stmt-F.WriteMemory count at x) scope s
unfolding mean_stmt
runs-WriteMemory e count at x scope s =
    ap (λ f. f scope s) (fold-Stmt-WriteMemory Change (stmt_step e) count at x)

pub runs-SoftWrite : (e : Setting) (address x : Expr) (scope : Scope) (s : State)
    → mean_stmt e (st.SoftWrite address x) scope s
    ≡ stmt_step e (Stmt-F.SoftWrite address x) scope s
unfolding mean_stmt
runs-SoftWrite e address x scope s =
    ap (λ f. f scope s) (fold-Stmt-SoftWrite Change (stmt_step e) address x)

pub runs-Call : (e : Setting) (name : Name) (es : List Expr) (scope : Scope) (s : State)
    → mean_stmt e (st.Call name es) scope s ≡ stmt_step e (Stmt-F.Call name es) scope s
unfolding mean_stmt
runs-Call e name es scope s = ap (λ f. f scope s) (fold-Stmt-Call Change (stmt_step e) name es)

-- all of them: `simp meanings` computes a body
pub ruleset meanings = (mean-Number, mean-Sized, mean-Text, mean-Flag, mean-Word, mean-Member, mean-Unary, mean-Binary, mean-WideLeft, mean-Choice, mean-Join, mean-Repeat, mean-Index, mean-Slice, mean-Call, mean-Signed, mean-Resize, mean-Pc, mean-Encoding, mean-Register, mean-Field, mean-SoftRead, mean-ReadMemory, mean-NewField, mean-Mode, mean-Implemented, mean-ImplementedVersion, runs-Declare, runs-Assign, runs-Block, runs-Return, runs-If, runs-For, runs-Jump, runs-Raise, runs-WriteMemory, runs-SoftWrite, runs-Call)
