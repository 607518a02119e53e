-- The numbers that are written, form by form.
use Rattle.std.specs.Prelude.{◌≡◌, Bool, ℕ, List, map, Option, option_map}
use Rattle.udb_base.specs.declared.names.Name.{Name}
use Rattle.udb_base.specs.declared.characters.Chars.{Chars}
use Rattle.idl_tree.specs.declared.widths.Width.{Width}
use Rattle.idl_tree.specs.declared.widths.EnumKind.{EnumKind}
use Rattle.idl_tree.specs.declared.widths.Shape.{Shape}
use Rattle.idl_tree.specs.declared.expressions.Unary.{Unary}
use Rattle.idl_tree.specs.declared.expressions.Binary.{Binary}
use Rattle.idl_tree.specs.declared.expressions.Expr.{Expr}
use Rattle.idl_tree.specs.declared.statements.Target.{Target}
use Rattle.idl_tree.specs.declared.statements.Stmt.{Stmt}
use Rattle.idl_tree.specs.declared.expressions.Expr.TheVariants as ex
use Rattle.idl_tree.specs.declared.expressions.Expr.TheOpen.{Expr-F}
use Rattle.idl_tree.specs.ExprLaws.{fold-Expr-Number, fold-Expr-Sized, fold-Expr-Text, fold-Expr-Flag, fold-Expr-Word, fold-Expr-Member, fold-Expr-Unary, fold-Expr-Binary, fold-Expr-WideLeft, fold-Expr-Choice, fold-Expr-Join, fold-Expr-Repeat, fold-Expr-Index, fold-Expr-Slice, fold-Expr-Call, fold-Expr-Signed, fold-Expr-Resize, fold-Expr-Pc, fold-Expr-Encoding, fold-Expr-Register, fold-Expr-Field, fold-Expr-SoftRead, fold-Expr-ReadMemory, fold-Expr-NewField, fold-Expr-Mode, fold-Expr-Implemented, fold-Expr-ImplementedVersion}
use Rattle.idl_tree.specs.declared.statements.Stmt.TheVariants as st
use Rattle.idl_tree.specs.declared.statements.Stmt.TheOpen.{Stmt-F}
use Rattle.idl_tree.specs.StmtLaws.{fold-Stmt-Declare, fold-Stmt-Assign, fold-Stmt-Block, fold-Stmt-Return, fold-Stmt-If, fold-Stmt-For, fold-Stmt-Jump, fold-Stmt-Raise, fold-Stmt-WriteMemory, fold-Stmt-SoftWrite, fold-Stmt-Call}
use Rattle.type_laws.specs.Literals.{expr_numbers, expr_numbers_step, stmt_numbers, stmt_numbers_step}

pub numbers-Number : (n : ℕ) → expr_numbers (ex.Number n) ≡ expr_numbers_step (Expr-F.Number n)
unfolding expr_numbers
numbers-Number n = fold-Expr-Number (List ℕ) expr_numbers_step n

pub numbers-Sized : (width : Width) (signed : Bool) (n : ℕ)
    → expr_numbers (ex.Sized width signed n) ≡ expr_numbers_step (Expr-F.Sized width signed n)
unfolding expr_numbers
numbers-Sized width signed n = fold-Expr-Sized (List ℕ) expr_numbers_step width signed n

pub numbers-Text : (x : Chars) → expr_numbers (ex.Text x) ≡ expr_numbers_step (Expr-F.Text x)
unfolding expr_numbers
numbers-Text x = fold-Expr-Text (List ℕ) expr_numbers_step x

pub numbers-Flag : (x : Bool) → expr_numbers (ex.Flag x) ≡ expr_numbers_step (Expr-F.Flag x)
unfolding expr_numbers
numbers-Flag x = fold-Expr-Flag (List ℕ) expr_numbers_step x

pub numbers-Word : (name : Name) → expr_numbers (ex.Word name) ≡ expr_numbers_step (Expr-F.Word name)
unfolding expr_numbers
numbers-Word name = fold-Expr-Word (List ℕ) expr_numbers_step name

pub numbers-Member : (kind : EnumKind) (name : Name)
    → expr_numbers (ex.Member kind name) ≡ expr_numbers_step (Expr-F.Member kind name)
unfolding expr_numbers
numbers-Member kind name = fold-Expr-Member (List ℕ) expr_numbers_step kind name

pub numbers-Unary : (sign : Unary) (a : Expr)
    → expr_numbers (ex.Unary sign a) ≡ expr_numbers_step (Expr-F.Unary sign (expr_numbers a))
unfolding expr_numbers
numbers-Unary sign a = fold-Expr-Unary (List ℕ) expr_numbers_step sign a

pub numbers-Binary : (sign : Binary) (a c : Expr)
    → expr_numbers (ex.Binary sign a c)
    ≡ expr_numbers_step (Expr-F.Binary sign (expr_numbers a) (expr_numbers c))
unfolding expr_numbers
numbers-Binary sign a c = fold-Expr-Binary (List ℕ) expr_numbers_step sign a c

pub numbers-WideLeft : (a : Expr) (by : Width)
    → expr_numbers (ex.WideLeft a by) ≡ expr_numbers_step (Expr-F.WideLeft (expr_numbers a) by)
unfolding expr_numbers
numbers-WideLeft a by = fold-Expr-WideLeft (List ℕ) expr_numbers_step a by

pub numbers-Choice : (test taken other : Expr)
    → expr_numbers (ex.Choice test taken other)
    ≡ expr_numbers_step (Expr-F.Choice (expr_numbers test) (expr_numbers taken) (expr_numbers other))
unfolding expr_numbers
numbers-Choice test taken other = fold-Expr-Choice (List ℕ) expr_numbers_step test taken other

pub numbers-Join : (es : List Expr)
    → expr_numbers (ex.Join es) ≡ expr_numbers_step (Expr-F.Join (map expr_numbers es))
unfolding expr_numbers
numbers-Join es = fold-Expr-Join (List ℕ) expr_numbers_step es

pub numbers-Repeat : (times : Width) (a : Expr)
    → expr_numbers (ex.Repeat times a) ≡ expr_numbers_step (Expr-F.Repeat times (expr_numbers a))
unfolding expr_numbers
numbers-Repeat times a = fold-Expr-Repeat (List ℕ) expr_numbers_step times a

pub numbers-Index : (a at : Expr)
    → expr_numbers (ex.Index a at) ≡ expr_numbers_step (Expr-F.Index (expr_numbers a) (expr_numbers at))
unfolding expr_numbers
numbers-Index a at = fold-Expr-Index (List ℕ) expr_numbers_step a at

pub numbers-Slice : (a : Expr) (high low : Width)
    → expr_numbers (ex.Slice a high low) ≡ expr_numbers_step (Expr-F.Slice (expr_numbers a) high low)
unfolding expr_numbers
numbers-Slice a high low = fold-Expr-Slice (List ℕ) expr_numbers_step a high low

pub numbers-Call : (name : Name) (es : List Expr)
    → expr_numbers (ex.Call name es) ≡ expr_numbers_step (Expr-F.Call name (map expr_numbers es))
unfolding expr_numbers
numbers-Call name es = fold-Expr-Call (List ℕ) expr_numbers_step name es

pub numbers-Signed : (a : Expr)
    → expr_numbers (ex.Signed a) ≡ expr_numbers_step (Expr-F.Signed (expr_numbers a))
unfolding expr_numbers
numbers-Signed a = fold-Expr-Signed (List ℕ) expr_numbers_step a

pub numbers-Resize : (width : Width) (a : Expr)
    → expr_numbers (ex.Resize width a) ≡ expr_numbers_step (Expr-F.Resize width (expr_numbers a))
unfolding expr_numbers
numbers-Resize width a = fold-Expr-Resize (List ℕ) expr_numbers_step width a

pub numbers-Pc : expr_numbers ex.Pc ≡ expr_numbers_step Expr-F.Pc
unfolding expr_numbers
numbers-Pc = fold-Expr-Pc (List ℕ) expr_numbers_step

pub numbers-Encoding : expr_numbers ex.Encoding ≡ expr_numbers_step Expr-F.Encoding
unfolding expr_numbers
numbers-Encoding = fold-Expr-Encoding (List ℕ) expr_numbers_step

pub numbers-Register : (a : Expr)
    → expr_numbers (ex.Register a) ≡ expr_numbers_step (Expr-F.Register (expr_numbers a))
unfolding expr_numbers
numbers-Register a = fold-Expr-Register (List ℕ) expr_numbers_step a

pub numbers-Field : (csr field : Name)
    → expr_numbers (ex.Field csr field) ≡ expr_numbers_step (Expr-F.Field csr field)
unfolding expr_numbers
numbers-Field csr field = fold-Expr-Field (List ℕ) expr_numbers_step csr field

pub numbers-SoftRead : (a : Expr)
    → expr_numbers (ex.SoftRead a) ≡ expr_numbers_step (Expr-F.SoftRead (expr_numbers a))
unfolding expr_numbers
numbers-SoftRead a = fold-Expr-SoftRead (List ℕ) expr_numbers_step a

pub numbers-ReadMemory : (count : ℕ) (at : Expr)
    → expr_numbers (ex.ReadMemory count at)
    ≡ expr_numbers_step (Expr-F.ReadMemory count (expr_numbers at))
unfolding expr_numbers
numbers-ReadMemory count at = fold-Expr-ReadMemory (List ℕ) expr_numbers_step count at

pub numbers-NewField : (name : Name)
    → expr_numbers (ex.NewField name) ≡ expr_numbers_step (Expr-F.NewField name)
unfolding expr_numbers
numbers-NewField name = fold-Expr-NewField (List ℕ) expr_numbers_step name

pub numbers-Mode : expr_numbers ex.Mode ≡ expr_numbers_step Expr-F.Mode
unfolding expr_numbers
numbers-Mode = fold-Expr-Mode (List ℕ) expr_numbers_step

pub numbers-Implemented : (name : Name)
    → expr_numbers (ex.Implemented name) ≡ expr_numbers_step (Expr-F.Implemented name)
unfolding expr_numbers
numbers-Implemented name = fold-Expr-Implemented (List ℕ) expr_numbers_step name

pub numbers-ImplementedVersion : (extension : Name) (x : Chars)
    → expr_numbers (ex.ImplementedVersion extension x)
    ≡ expr_numbers_step (Expr-F.ImplementedVersion extension x)
unfolding expr_numbers
numbers-ImplementedVersion extension x =
    fold-Expr-ImplementedVersion (List ℕ) expr_numbers_step extension x

pub counts-Declare : (declared : Shape) (name : Name) (x : Expr)
    → stmt_numbers (st.Declare declared name x) ≡ stmt_numbers_step (Stmt-F.Declare declared name x)
unfolding stmt_numbers
counts-Declare declared name x = fold-Stmt-Declare (List ℕ) stmt_numbers_step declared name x

pub counts-Assign : (target : Target) (x : Expr)
    → stmt_numbers (st.Assign target x) ≡ stmt_numbers_step (Stmt-F.Assign target x)
unfolding stmt_numbers
counts-Assign target x = fold-Stmt-Assign (List ℕ) stmt_numbers_step target x

pub counts-Block : (ss : List Stmt)
    → stmt_numbers (st.Block ss) ≡ stmt_numbers_step (Stmt-F.Block (map stmt_numbers ss))
unfolding stmt_numbers
counts-Block ss = fold-Stmt-Block (List ℕ) stmt_numbers_step ss

pub counts-Return : (x : Expr) → stmt_numbers (st.Return x) ≡ stmt_numbers_step (Stmt-F.Return x)
unfolding stmt_numbers
counts-Return x = fold-Stmt-Return (List ℕ) stmt_numbers_step x

pub counts-If : (test : Expr) (taken : List Stmt) (other : Option (List Stmt))
    → stmt_numbers (st.If test taken other)
    ≡ stmt_numbers_step (Stmt-F.If test (map stmt_numbers taken) (option_map (map stmt_numbers) other))
unfolding stmt_numbers
counts-If test taken other = fold-Stmt-If (List ℕ) stmt_numbers_step test taken other

pub counts-For : (name : Name) (from to : Width) (ss : List Stmt)
    → stmt_numbers (st.For name from to ss)
    ≡ stmt_numbers_step (Stmt-F.For name from to (map stmt_numbers ss))
unfolding stmt_numbers
counts-For name from to ss = fold-Stmt-For (List ℕ) stmt_numbers_step name from to ss

pub counts-Jump : (x : Expr) → stmt_numbers (st.Jump x) ≡ stmt_numbers_step (Stmt-F.Jump x)
unfolding stmt_numbers
counts-Jump x = fold-Stmt-Jump (List ℕ) stmt_numbers_step x

pub counts-Raise : (cause tval : Expr)
    → stmt_numbers (st.Raise cause tval) ≡ stmt_numbers_step (Stmt-F.Raise cause tval)
unfolding stmt_numbers
counts-Raise cause tval = fold-Stmt-Raise (List ℕ) stmt_numbers_step cause tval

pub counts-WriteMemory : (count : ℕ) (at x : Expr)
    → stmt_numbers (st.WriteMemory count at x) ≡ stmt_numbers_step (Stmt-F.WriteMemory count at x)
unfolding stmt_numbers
counts-WriteMemory count at x = fold-Stmt-WriteMemory (List ℕ) stmt_numbers_step count at x

pub counts-SoftWrite : (address x : Expr)
    → stmt_numbers (st.SoftWrite address x) ≡ stmt_numbers_step (Stmt-F.SoftWrite address x)
unfolding stmt_numbers
counts-SoftWrite address x = fold-Stmt-SoftWrite (List ℕ) stmt_numbers_step address x

pub counts-Call : (name : Name) (es : List Expr)
    → stmt_numbers (st.Call name es) ≡ stmt_numbers_step (Stmt-F.Call name es)
unfolding stmt_numbers
counts-Call name es = fold-Stmt-Call (List ℕ) stmt_numbers_step name es
