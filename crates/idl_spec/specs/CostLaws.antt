-- The parameters of widths and the costs of bodies, form by form.
use Rattle.std.specs.Prelude.{◌≡◌, Bool, ℕ, List, map, Option, option_map}
use Rattle.udb_base.specs.declared.names.Name.{Name}
use Rattle.udb_base.specs.declared.characters.Chars.{Chars}
use Rattle.idl_tree.specs.declared.widths.Width.{Width}
use Rattle.idl_tree.specs.declared.widths.EnumKind.{EnumKind}
use Rattle.idl_tree.specs.declared.widths.Shape.{Shape}
use Rattle.idl_tree.specs.declared.expressions.Unary.{Unary}
use Rattle.idl_tree.specs.declared.expressions.Binary.{Binary}
use Rattle.idl_tree.specs.declared.expressions.Expr.{Expr}
use Rattle.idl_tree.specs.declared.statements.Target.{Target}
use Rattle.idl_tree.specs.declared.statements.Stmt.{Stmt}
use Rattle.idl_tree.specs.declared.widths.Width.TheVariants as wd
use Rattle.idl_tree.specs.declared.widths.Width.TheOpen.{Width-F}
use Rattle.idl_tree.specs.WidthLaws.{fold-Width-Number, fold-Width-Word, fold-Width-Plus, fold-Width-Minus, fold-Width-Times, fold-Width-Max, fold-Width-Bits}
use Rattle.idl_tree.specs.declared.expressions.Expr.TheVariants as ex
use Rattle.idl_tree.specs.declared.expressions.Expr.TheOpen.{Expr-F}
use Rattle.idl_tree.specs.ExprLaws.{fold-Expr-Number, fold-Expr-Sized, fold-Expr-Text, fold-Expr-Flag, fold-Expr-Word, fold-Expr-Member, fold-Expr-Unary, fold-Expr-Binary, fold-Expr-WideLeft, fold-Expr-Choice, fold-Expr-Join, fold-Expr-Repeat, fold-Expr-Index, fold-Expr-Slice, fold-Expr-Call, fold-Expr-Signed, fold-Expr-Resize, fold-Expr-Pc, fold-Expr-Encoding, fold-Expr-Register, fold-Expr-Field, fold-Expr-SoftRead, fold-Expr-ReadMemory, fold-Expr-NewField, fold-Expr-Mode, fold-Expr-Implemented, fold-Expr-ImplementedVersion}
use Rattle.idl_tree.specs.declared.statements.Stmt.TheVariants as st
use Rattle.idl_tree.specs.declared.statements.Stmt.TheOpen.{Stmt-F}
use Rattle.idl_tree.specs.StmtLaws.{fold-Stmt-Declare, fold-Stmt-Assign, fold-Stmt-Block, fold-Stmt-Return, fold-Stmt-If, fold-Stmt-For, fold-Stmt-Jump, fold-Stmt-Raise, fold-Stmt-WriteMemory, fold-Stmt-SoftWrite, fold-Stmt-Call}
use Rattle.idl_tree.specs.declared.programs.Variable.{Variable}
use Rattle.idl_tree.specs.declared.programs.Program.{Program}
use Rattle.idl_spec.specs.Costs.{Named, named_in, named_step, Prices, expr_cost, cost_step, stmt_cost, stmt_cost_step}

pub named-Number : (program : Program) (variables : List Variable) (n : ℕ)
    → named_in program variables (wd.Number n) ≡ named_step program variables (Width-F.Number n)
unfolding named_in
named-Number program variables n = fold-Width-Number Named (named_step program variables) n

pub named-Word : (program : Program) (variables : List Variable) (name : Name)
    → named_in program variables (wd.Word name) ≡ named_step program variables (Width-F.Word name)
unfolding named_in
named-Word program variables name = fold-Width-Word Named (named_step program variables) name

pub named-Plus : (program : Program) (variables : List Variable) (a c : Width)
    → named_in program variables (wd.Plus a c)
    ≡ named_step program variables (Width-F.Plus (named_in program variables a) (named_in program variables c))
unfolding named_in
named-Plus program variables a c = fold-Width-Plus Named (named_step program variables) a c

pub named-Minus : (program : Program) (variables : List Variable) (a c : Width)
    → named_in program variables (wd.Minus a c)
    ≡ named_step program variables (Width-F.Minus (named_in program variables a) (named_in program variables c))
unfolding named_in
named-Minus program variables a c = fold-Width-Minus Named (named_step program variables) a c

pub named-Times : (program : Program) (variables : List Variable) (a c : Width)
    → named_in program variables (wd.Times a c)
    ≡ named_step program variables (Width-F.Times (named_in program variables a) (named_in program variables c))
unfolding named_in
named-Times program variables a c = fold-Width-Times Named (named_step program variables) a c

pub named-Max : (program : Program) (variables : List Variable) (a c : Width)
    → named_in program variables (wd.Max a c)
    ≡ named_step program variables (Width-F.Max (named_in program variables a) (named_in program variables c))
unfolding named_in
named-Max program variables a c = fold-Width-Max Named (named_step program variables) a c

pub named-Bits : (program : Program) (variables : List Variable) (csr : Option Name) (name : Name)
    → named_in program variables (wd.Bits csr name)
    ≡ named_step program variables (Width-F.Bits csr name)
unfolding named_in
named-Bits program variables csr name =
    fold-Width-Bits Named (named_step program variables) csr name

pub costs-Number : (prices : Prices) (n : ℕ)
    → expr_cost prices (ex.Number n) ≡ cost_step prices (Expr-F.Number n)
unfolding expr_cost
costs-Number prices n = fold-Expr-Number ℕ (cost_step prices) n

pub costs-Sized : (prices : Prices) (width : Width) (signed : Bool) (n : ℕ)
    → expr_cost prices (ex.Sized width signed n) ≡ cost_step prices (Expr-F.Sized width signed n)
unfolding expr_cost
costs-Sized prices width signed n = fold-Expr-Sized ℕ (cost_step prices) width signed n

pub costs-Text : (prices : Prices) (x : Chars)
    → expr_cost prices (ex.Text x) ≡ cost_step prices (Expr-F.Text x)
unfolding expr_cost
costs-Text prices x = fold-Expr-Text ℕ (cost_step prices) x

pub costs-Flag : (prices : Prices) (x : Bool)
    → expr_cost prices (ex.Flag x) ≡ cost_step prices (Expr-F.Flag x)
unfolding expr_cost
costs-Flag prices x = fold-Expr-Flag ℕ (cost_step prices) x

pub costs-Word : (prices : Prices) (name : Name)
    → expr_cost prices (ex.Word name) ≡ cost_step prices (Expr-F.Word name)
unfolding expr_cost
costs-Word prices name = fold-Expr-Word ℕ (cost_step prices) name

pub costs-Member : (prices : Prices) (kind : EnumKind) (name : Name)
    → expr_cost prices (ex.Member kind name) ≡ cost_step prices (Expr-F.Member kind name)
unfolding expr_cost
costs-Member prices kind name = fold-Expr-Member ℕ (cost_step prices) kind name

pub costs-Unary : (prices : Prices) (sign : Unary) (a : Expr)
    → expr_cost prices (ex.Unary sign a) ≡ cost_step prices (Expr-F.Unary sign (expr_cost prices a))
unfolding expr_cost
costs-Unary prices sign a = fold-Expr-Unary ℕ (cost_step prices) sign a

pub costs-Binary : (prices : Prices) (sign : Binary) (a c : Expr)
    → expr_cost prices (ex.Binary sign a c)
    ≡ cost_step prices (Expr-F.Binary sign (expr_cost prices a) (expr_cost prices c))
unfolding expr_cost
costs-Binary prices sign a c = fold-Expr-Binary ℕ (cost_step prices) sign a c

pub costs-WideLeft : (prices : Prices) (a : Expr) (by : Width)
    → expr_cost prices (ex.WideLeft a by)
    ≡ cost_step prices (Expr-F.WideLeft (expr_cost prices a) by)
unfolding expr_cost
costs-WideLeft prices a by = fold-Expr-WideLeft ℕ (cost_step prices) a by

pub costs-Choice : (prices : Prices) (test taken other : Expr)
    → expr_cost prices (ex.Choice test taken other)
    ≡ cost_step prices (Expr-F.Choice (expr_cost prices test) (expr_cost prices taken) (expr_cost prices other))
unfolding expr_cost
costs-Choice prices test taken other = fold-Expr-Choice ℕ (cost_step prices) test taken other

pub costs-Join : (prices : Prices) (es : List Expr)
    → expr_cost prices (ex.Join es) ≡ cost_step prices (Expr-F.Join (map (expr_cost prices) es))
unfolding expr_cost
costs-Join prices es = fold-Expr-Join ℕ (cost_step prices) es

pub costs-Repeat : (prices : Prices) (times : Width) (a : Expr)
    → expr_cost prices (ex.Repeat times a)
    ≡ cost_step prices (Expr-F.Repeat times (expr_cost prices a))
unfolding expr_cost
costs-Repeat prices times a = fold-Expr-Repeat ℕ (cost_step prices) times a

pub costs-Index : (prices : Prices) (a at : Expr)
    → expr_cost prices (ex.Index a at)
    ≡ cost_step prices (Expr-F.Index (expr_cost prices a) (expr_cost prices at))
unfolding expr_cost
costs-Index prices a at = fold-Expr-Index ℕ (cost_step prices) a at

pub costs-Slice : (prices : Prices) (a : Expr) (high low : Width)
    → expr_cost prices (ex.Slice a high low)
    ≡ cost_step prices (Expr-F.Slice (expr_cost prices a) high low)
unfolding expr_cost
costs-Slice prices a high low = fold-Expr-Slice ℕ (cost_step prices) a high low

pub costs-Call : (prices : Prices) (name : Name) (es : List Expr)
    → expr_cost prices (ex.Call name es)
    ≡ cost_step prices (Expr-F.Call name (map (expr_cost prices) es))
unfolding expr_cost
costs-Call prices name es = fold-Expr-Call ℕ (cost_step prices) name es

pub costs-Signed : (prices : Prices) (a : Expr)
    → expr_cost prices (ex.Signed a) ≡ cost_step prices (Expr-F.Signed (expr_cost prices a))
unfolding expr_cost
costs-Signed prices a = fold-Expr-Signed ℕ (cost_step prices) a

pub costs-Resize : (prices : Prices) (width : Width) (a : Expr)
    → expr_cost prices (ex.Resize width a)
    ≡ cost_step prices (Expr-F.Resize width (expr_cost prices a))
unfolding expr_cost
costs-Resize prices width a = fold-Expr-Resize ℕ (cost_step prices) width a

pub costs-Pc : (prices : Prices) → expr_cost prices ex.Pc ≡ cost_step prices Expr-F.Pc
unfolding expr_cost
costs-Pc prices = fold-Expr-Pc ℕ (cost_step prices)

pub costs-Encoding : (prices : Prices)
    → expr_cost prices ex.Encoding ≡ cost_step prices Expr-F.Encoding
unfolding expr_cost
costs-Encoding prices = fold-Expr-Encoding ℕ (cost_step prices)

pub costs-Register : (prices : Prices) (a : Expr)
    → expr_cost prices (ex.Register a) ≡ cost_step prices (Expr-F.Register (expr_cost prices a))
unfolding expr_cost
costs-Register prices a = fold-Expr-Register ℕ (cost_step prices) a

pub costs-Field : (prices : Prices) (csr field : Name)
    → expr_cost prices (ex.Field csr field) ≡ cost_step prices (Expr-F.Field csr field)
unfolding expr_cost
costs-Field prices csr field = fold-Expr-Field ℕ (cost_step prices) csr field

pub costs-SoftRead : (prices : Prices) (a : Expr)
    → expr_cost prices (ex.SoftRead a) ≡ cost_step prices (Expr-F.SoftRead (expr_cost prices a))
unfolding expr_cost
costs-SoftRead prices a = fold-Expr-SoftRead ℕ (cost_step prices) a

pub costs-ReadMemory : (prices : Prices) (count : ℕ) (at : Expr)
    → expr_cost prices (ex.ReadMemory count at)
    ≡ cost_step prices (Expr-F.ReadMemory count (expr_cost prices at))
unfolding expr_cost
costs-ReadMemory prices count at = fold-Expr-ReadMemory ℕ (cost_step prices) count at

pub costs-NewField : (prices : Prices) (name : Name)
    → expr_cost prices (ex.NewField name) ≡ cost_step prices (Expr-F.NewField name)
unfolding expr_cost
costs-NewField prices name = fold-Expr-NewField ℕ (cost_step prices) name

pub costs-Mode : (prices : Prices) → expr_cost prices ex.Mode ≡ cost_step prices Expr-F.Mode
unfolding expr_cost
costs-Mode prices = fold-Expr-Mode ℕ (cost_step prices)

pub costs-Implemented : (prices : Prices) (name : Name)
    → expr_cost prices (ex.Implemented name) ≡ cost_step prices (Expr-F.Implemented name)
unfolding expr_cost
costs-Implemented prices name = fold-Expr-Implemented ℕ (cost_step prices) name

pub costs-ImplementedVersion : (prices : Prices) (extension : Name) (x : Chars)
    → expr_cost prices (ex.ImplementedVersion extension x)
    ≡ cost_step prices (Expr-F.ImplementedVersion extension x)
unfolding expr_cost
costs-ImplementedVersion prices extension x =
    fold-Expr-ImplementedVersion ℕ (cost_step prices) extension x

pub costs-stmt-Declare : (prices : Prices) (declared : Shape) (name : Name) (x : Expr)
    → stmt_cost prices (st.Declare declared name x)
    ≡ stmt_cost_step prices (Stmt-F.Declare declared name x)
unfolding stmt_cost
costs-stmt-Declare prices declared name x =
    fold-Stmt-Declare ℕ (stmt_cost_step prices) declared name x

pub costs-stmt-Assign : (prices : Prices) (target : Target) (x : Expr)
    → stmt_cost prices (st.Assign target x) ≡ stmt_cost_step prices (Stmt-F.Assign target x)
unfolding stmt_cost
costs-stmt-Assign prices target x = fold-Stmt-Assign ℕ (stmt_cost_step prices) target x

pub costs-stmt-Block : (prices : Prices) (ss : List Stmt)
    → stmt_cost prices (st.Block ss)
    ≡ stmt_cost_step prices (Stmt-F.Block (map (stmt_cost prices) ss))
unfolding stmt_cost
costs-stmt-Block prices ss = fold-Stmt-Block ℕ (stmt_cost_step prices) ss

pub costs-stmt-Return : (prices : Prices) (x : Expr)
    → stmt_cost prices (st.Return x) ≡ stmt_cost_step prices (Stmt-F.Return x)
unfolding stmt_cost
costs-stmt-Return prices x = fold-Stmt-Return ℕ (stmt_cost_step prices) x

pub costs-stmt-If : (prices : Prices) (test : Expr) (taken : List Stmt) (other : Option (List Stmt))
    → stmt_cost prices (st.If test taken other)
    ≡ stmt_cost_step prices (Stmt-F.If test (map (stmt_cost prices) taken) (option_map (map (stmt_cost prices)) other))
unfolding stmt_cost
costs-stmt-If prices test taken other = fold-Stmt-If ℕ (stmt_cost_step prices) test taken other

pub costs-stmt-For : (prices : Prices) (name : Name) (from to : Width) (ss : List Stmt)
    → stmt_cost prices (st.For name from to ss)
    ≡ stmt_cost_step prices (Stmt-F.For name from to (map (stmt_cost prices) ss))
unfolding stmt_cost
costs-stmt-For prices name from to ss = fold-Stmt-For ℕ (stmt_cost_step prices) name from to ss

pub costs-stmt-Jump : (prices : Prices) (x : Expr)
    → stmt_cost prices (st.Jump x) ≡ stmt_cost_step prices (Stmt-F.Jump x)
unfolding stmt_cost
costs-stmt-Jump prices x = fold-Stmt-Jump ℕ (stmt_cost_step prices) x

pub costs-stmt-Raise : (prices : Prices) (cause tval : Expr)
    → stmt_cost prices (st.Raise cause tval) ≡ stmt_cost_step prices (Stmt-F.Raise cause tval)
unfolding stmt_cost
costs-stmt-Raise prices cause tval = fold-Stmt-Raise ℕ (stmt_cost_step prices) cause tval

pub costs-stmt-WriteMemory : (prices : Prices) (count : ℕ) (at x : Expr)
    → stmt_cost prices (st.WriteMemory count at x)
    ≡ stmt_cost_step prices (Stmt-F.WriteMemory count at x)
unfolding stmt_cost
costs-stmt-WriteMemory prices count at x =
    fold-Stmt-WriteMemory ℕ (stmt_cost_step prices) count at x

pub costs-stmt-SoftWrite : (prices : Prices) (address x : Expr)
    → stmt_cost prices (st.SoftWrite address x) ≡ stmt_cost_step prices (Stmt-F.SoftWrite address x)
unfolding stmt_cost
costs-stmt-SoftWrite prices address x = fold-Stmt-SoftWrite ℕ (stmt_cost_step prices) address x

pub costs-stmt-Call : (prices : Prices) (name : Name) (es : List Expr)
    → stmt_cost prices (st.Call name es) ≡ stmt_cost_step prices (Stmt-F.Call name es)
unfolding stmt_cost
costs-stmt-Call prices name es = fold-Stmt-Call ℕ (stmt_cost_step prices) name es

pub ruleset costs = (named-Number, named-Word, named-Plus, named-Minus, named-Times, named-Max, named-Bits, costs-Number, costs-Sized, costs-Text, costs-Flag, costs-Word, costs-Member, costs-Unary, costs-Binary, costs-WideLeft, costs-Choice, costs-Join, costs-Repeat, costs-Index, costs-Slice, costs-Call, costs-Signed, costs-Resize, costs-Pc, costs-Encoding, costs-Register, costs-Field, costs-SoftRead, costs-ReadMemory, costs-NewField, costs-Mode, costs-Implemented, costs-ImplementedVersion, costs-stmt-Declare, costs-stmt-Assign, costs-stmt-Block, costs-stmt-Return, costs-stmt-If, costs-stmt-For, costs-stmt-Jump, costs-stmt-Raise, costs-stmt-WriteMemory, costs-stmt-SoftWrite, costs-stmt-Call)
