-- What nodes do and whether statements end in a return, form by form.
use Rattle.std.specs.Prelude.{◌≡◌, Bool, ℕ, List, map, Option, option_map}
use Rattle.udb_base.specs.declared.names.Name.{Name}
use Rattle.udb_base.specs.declared.characters.Chars.{Chars}
use Rattle.idl_tree.specs.declared.widths.Width.{Width}
use Rattle.idl_tree.specs.declared.widths.EnumKind.{EnumKind}
use Rattle.idl_tree.specs.declared.widths.Shape.{Shape}
use Rattle.idl_tree.specs.declared.expressions.Unary.{Unary}
use Rattle.idl_tree.specs.declared.expressions.Binary.{Binary}
use Rattle.idl_tree.specs.declared.expressions.Expr.{Expr}
use Rattle.idl_tree.specs.declared.statements.Target.{Target}
use Rattle.idl_tree.specs.declared.statements.Stmt.{Stmt}
use Rattle.idl_tree.specs.declared.expressions.Expr.TheVariants as ex
use Rattle.idl_tree.specs.declared.expressions.Expr.TheOpen.{Expr-F}
use Rattle.idl_tree.specs.ExprLaws.{fold-Expr-Number, fold-Expr-Sized, fold-Expr-Text, fold-Expr-Flag, fold-Expr-Word, fold-Expr-Member, fold-Expr-Unary, fold-Expr-Binary, fold-Expr-WideLeft, fold-Expr-Choice, fold-Expr-Join, fold-Expr-Repeat, fold-Expr-Index, fold-Expr-Slice, fold-Expr-Call, fold-Expr-Signed, fold-Expr-Resize, fold-Expr-Pc, fold-Expr-Encoding, fold-Expr-Register, fold-Expr-Field, fold-Expr-SoftRead, fold-Expr-ReadMemory, fold-Expr-NewField, fold-Expr-Mode, fold-Expr-Implemented, fold-Expr-ImplementedVersion}
use Rattle.idl_tree.specs.declared.statements.Stmt.TheVariants as st
use Rattle.idl_tree.specs.declared.statements.Stmt.TheOpen.{Stmt-F}
use Rattle.idl_tree.specs.StmtLaws.{fold-Stmt-Declare, fold-Stmt-Assign, fold-Stmt-Block, fold-Stmt-Return, fold-Stmt-If, fold-Stmt-For, fold-Stmt-Jump, fold-Stmt-Raise, fold-Stmt-WriteMemory, fold-Stmt-SoftWrite, fold-Stmt-Call}
use Rattle.idl_spec.specs.Deeds.{Deed, expr_deeds, expr_deeds_step, stmt_deeds, stmt_deeds_step, stmt_ends, ends_step}

pub deeds-Number : (n : ℕ) → expr_deeds (ex.Number n) ≡ expr_deeds_step (Expr-F.Number n)
unfolding expr_deeds
deeds-Number n = fold-Expr-Number (List Deed) expr_deeds_step n

pub deeds-Sized : (width : Width) (signed : Bool) (n : ℕ)
    → expr_deeds (ex.Sized width signed n) ≡ expr_deeds_step (Expr-F.Sized width signed n)
unfolding expr_deeds
deeds-Sized width signed n = fold-Expr-Sized (List Deed) expr_deeds_step width signed n

pub deeds-Text : (x : Chars) → expr_deeds (ex.Text x) ≡ expr_deeds_step (Expr-F.Text x)
unfolding expr_deeds
deeds-Text x = fold-Expr-Text (List Deed) expr_deeds_step x

pub deeds-Flag : (x : Bool) → expr_deeds (ex.Flag x) ≡ expr_deeds_step (Expr-F.Flag x)
unfolding expr_deeds
deeds-Flag x = fold-Expr-Flag (List Deed) expr_deeds_step x

pub deeds-Word : (name : Name) → expr_deeds (ex.Word name) ≡ expr_deeds_step (Expr-F.Word name)
unfolding expr_deeds
deeds-Word name = fold-Expr-Word (List Deed) expr_deeds_step name

pub deeds-Member : (kind : EnumKind) (name : Name)
    → expr_deeds (ex.Member kind name) ≡ expr_deeds_step (Expr-F.Member kind name)
unfolding expr_deeds
deeds-Member kind name = fold-Expr-Member (List Deed) expr_deeds_step kind name

pub deeds-Unary : (sign : Unary) (a : Expr)
    → expr_deeds (ex.Unary sign a) ≡ expr_deeds_step (Expr-F.Unary sign (expr_deeds a))
unfolding expr_deeds
deeds-Unary sign a = fold-Expr-Unary (List Deed) expr_deeds_step sign a

pub deeds-Binary : (sign : Binary) (a c : Expr)
    → expr_deeds (ex.Binary sign a c)
    ≡ expr_deeds_step (Expr-F.Binary sign (expr_deeds a) (expr_deeds c))
unfolding expr_deeds
deeds-Binary sign a c = fold-Expr-Binary (List Deed) expr_deeds_step sign a c

pub deeds-WideLeft : (a : Expr) (by : Width)
    → expr_deeds (ex.WideLeft a by) ≡ expr_deeds_step (Expr-F.WideLeft (expr_deeds a) by)
unfolding expr_deeds
deeds-WideLeft a by = fold-Expr-WideLeft (List Deed) expr_deeds_step a by

pub deeds-Choice : (test taken other : Expr)
    → expr_deeds (ex.Choice test taken other)
    ≡ expr_deeds_step (Expr-F.Choice (expr_deeds test) (expr_deeds taken) (expr_deeds other))
unfolding expr_deeds
deeds-Choice test taken other = fold-Expr-Choice (List Deed) expr_deeds_step test taken other

pub deeds-Join : (es : List Expr)
    → expr_deeds (ex.Join es) ≡ expr_deeds_step (Expr-F.Join (map expr_deeds es))
unfolding expr_deeds
deeds-Join es = fold-Expr-Join (List Deed) expr_deeds_step es

pub deeds-Repeat : (times : Width) (a : Expr)
    → expr_deeds (ex.Repeat times a) ≡ expr_deeds_step (Expr-F.Repeat times (expr_deeds a))
unfolding expr_deeds
deeds-Repeat times a = fold-Expr-Repeat (List Deed) expr_deeds_step times a

pub deeds-Index : (a at : Expr)
    → expr_deeds (ex.Index a at) ≡ expr_deeds_step (Expr-F.Index (expr_deeds a) (expr_deeds at))
unfolding expr_deeds
deeds-Index a at = fold-Expr-Index (List Deed) expr_deeds_step a at

pub deeds-Slice : (a : Expr) (high low : Width)
    → expr_deeds (ex.Slice a high low) ≡ expr_deeds_step (Expr-F.Slice (expr_deeds a) high low)
unfolding expr_deeds
deeds-Slice a high low = fold-Expr-Slice (List Deed) expr_deeds_step a high low

pub deeds-Call : (name : Name) (es : List Expr)
    → expr_deeds (ex.Call name es) ≡ expr_deeds_step (Expr-F.Call name (map expr_deeds es))
unfolding expr_deeds
deeds-Call name es = fold-Expr-Call (List Deed) expr_deeds_step name es

pub deeds-Signed : (a : Expr)
    → expr_deeds (ex.Signed a) ≡ expr_deeds_step (Expr-F.Signed (expr_deeds a))
unfolding expr_deeds
deeds-Signed a = fold-Expr-Signed (List Deed) expr_deeds_step a

pub deeds-Resize : (width : Width) (a : Expr)
    → expr_deeds (ex.Resize width a) ≡ expr_deeds_step (Expr-F.Resize width (expr_deeds a))
unfolding expr_deeds
deeds-Resize width a = fold-Expr-Resize (List Deed) expr_deeds_step width a

pub deeds-Pc : expr_deeds ex.Pc ≡ expr_deeds_step Expr-F.Pc
unfolding expr_deeds
deeds-Pc = fold-Expr-Pc (List Deed) expr_deeds_step

pub deeds-Encoding : expr_deeds ex.Encoding ≡ expr_deeds_step Expr-F.Encoding
unfolding expr_deeds
deeds-Encoding = fold-Expr-Encoding (List Deed) expr_deeds_step

pub deeds-Register : (a : Expr)
    → expr_deeds (ex.Register a) ≡ expr_deeds_step (Expr-F.Register (expr_deeds a))
unfolding expr_deeds
deeds-Register a = fold-Expr-Register (List Deed) expr_deeds_step a

pub deeds-Field : (csr field : Name)
    → expr_deeds (ex.Field csr field) ≡ expr_deeds_step (Expr-F.Field csr field)
unfolding expr_deeds
deeds-Field csr field = fold-Expr-Field (List Deed) expr_deeds_step csr field

pub deeds-SoftRead : (a : Expr)
    → expr_deeds (ex.SoftRead a) ≡ expr_deeds_step (Expr-F.SoftRead (expr_deeds a))
unfolding expr_deeds
deeds-SoftRead a = fold-Expr-SoftRead (List Deed) expr_deeds_step a

pub deeds-ReadMemory : (count : ℕ) (at : Expr)
    → expr_deeds (ex.ReadMemory count at)
    ≡ expr_deeds_step (Expr-F.ReadMemory count (expr_deeds at))
unfolding expr_deeds
deeds-ReadMemory count at = fold-Expr-ReadMemory (List Deed) expr_deeds_step count at

pub deeds-NewField : (name : Name)
    → expr_deeds (ex.NewField name) ≡ expr_deeds_step (Expr-F.NewField name)
unfolding expr_deeds
deeds-NewField name = fold-Expr-NewField (List Deed) expr_deeds_step name

pub deeds-Mode : expr_deeds ex.Mode ≡ expr_deeds_step Expr-F.Mode
unfolding expr_deeds
deeds-Mode = fold-Expr-Mode (List Deed) expr_deeds_step

pub deeds-Implemented : (name : Name)
    → expr_deeds (ex.Implemented name) ≡ expr_deeds_step (Expr-F.Implemented name)
unfolding expr_deeds
deeds-Implemented name = fold-Expr-Implemented (List Deed) expr_deeds_step name

pub deeds-ImplementedVersion : (extension : Name) (x : Chars)
    → expr_deeds (ex.ImplementedVersion extension x)
    ≡ expr_deeds_step (Expr-F.ImplementedVersion extension x)
unfolding expr_deeds
deeds-ImplementedVersion extension x =
    fold-Expr-ImplementedVersion (List Deed) expr_deeds_step extension x

pub does-Declare : (declared : Shape) (name : Name) (x : Expr)
    → stmt_deeds (st.Declare declared name x) ≡ stmt_deeds_step (Stmt-F.Declare declared name x)
unfolding stmt_deeds
does-Declare declared name x = fold-Stmt-Declare (List Deed) stmt_deeds_step declared name x

pub does-Assign : (target : Target) (x : Expr)
    → stmt_deeds (st.Assign target x) ≡ stmt_deeds_step (Stmt-F.Assign target x)
unfolding stmt_deeds
does-Assign target x = fold-Stmt-Assign (List Deed) stmt_deeds_step target x

pub does-Block : (ss : List Stmt)
    → stmt_deeds (st.Block ss) ≡ stmt_deeds_step (Stmt-F.Block (map stmt_deeds ss))
unfolding stmt_deeds
does-Block ss = fold-Stmt-Block (List Deed) stmt_deeds_step ss

pub does-Return : (x : Expr) → stmt_deeds (st.Return x) ≡ stmt_deeds_step (Stmt-F.Return x)
unfolding stmt_deeds
does-Return x = fold-Stmt-Return (List Deed) stmt_deeds_step x

pub does-If : (test : Expr) (taken : List Stmt) (other : Option (List Stmt))
    → stmt_deeds (st.If test taken other)
    ≡ stmt_deeds_step (Stmt-F.If test (map stmt_deeds taken) (option_map (map stmt_deeds) other))
unfolding stmt_deeds
does-If test taken other = fold-Stmt-If (List Deed) stmt_deeds_step test taken other

pub does-For : (name : Name) (from to : Width) (ss : List Stmt)
    → stmt_deeds (st.For name from to ss)
    ≡ stmt_deeds_step (Stmt-F.For name from to (map stmt_deeds ss))
unfolding stmt_deeds
does-For name from to ss = fold-Stmt-For (List Deed) stmt_deeds_step name from to ss

pub does-Jump : (x : Expr) → stmt_deeds (st.Jump x) ≡ stmt_deeds_step (Stmt-F.Jump x)
unfolding stmt_deeds
does-Jump x = fold-Stmt-Jump (List Deed) stmt_deeds_step x

pub does-Raise : (cause tval : Expr)
    → stmt_deeds (st.Raise cause tval) ≡ stmt_deeds_step (Stmt-F.Raise cause tval)
unfolding stmt_deeds
does-Raise cause tval = fold-Stmt-Raise (List Deed) stmt_deeds_step cause tval

pub does-WriteMemory : (count : ℕ) (at x : Expr)
    → stmt_deeds (st.WriteMemory count at x) ≡ stmt_deeds_step (Stmt-F.WriteMemory count at x)
unfolding stmt_deeds
does-WriteMemory count at x = fold-Stmt-WriteMemory (List Deed) stmt_deeds_step count at x

pub does-SoftWrite : (address x : Expr)
    → stmt_deeds (st.SoftWrite address x) ≡ stmt_deeds_step (Stmt-F.SoftWrite address x)
unfolding stmt_deeds
does-SoftWrite address x = fold-Stmt-SoftWrite (List Deed) stmt_deeds_step address x

pub does-Call : (name : Name) (es : List Expr)
    → stmt_deeds (st.Call name es) ≡ stmt_deeds_step (Stmt-F.Call name es)
unfolding stmt_deeds
does-Call name es = fold-Stmt-Call (List Deed) stmt_deeds_step name es

pub ends-Declare : (declared : Shape) (name : Name) (x : Expr)
    → stmt_ends (st.Declare declared name x) ≡ ends_step (Stmt-F.Declare declared name x)
unfolding stmt_ends
ends-Declare declared name x = fold-Stmt-Declare Bool ends_step declared name x

pub ends-Assign : (target : Target) (x : Expr)
    → stmt_ends (st.Assign target x) ≡ ends_step (Stmt-F.Assign target x)
unfolding stmt_ends
ends-Assign target x = fold-Stmt-Assign Bool ends_step target x

pub ends-Block : (ss : List Stmt)
    → stmt_ends (st.Block ss) ≡ ends_step (Stmt-F.Block (map stmt_ends ss))
unfolding stmt_ends
ends-Block ss = fold-Stmt-Block Bool ends_step ss

pub ends-Return : (x : Expr) → stmt_ends (st.Return x) ≡ ends_step (Stmt-F.Return x)
unfolding stmt_ends
ends-Return x = fold-Stmt-Return Bool ends_step x

pub ends-If : (test : Expr) (taken : List Stmt) (other : Option (List Stmt))
    → stmt_ends (st.If test taken other)
    ≡ ends_step (Stmt-F.If test (map stmt_ends taken) (option_map (map stmt_ends) other))
unfolding stmt_ends
ends-If test taken other = fold-Stmt-If Bool ends_step test taken other

pub ends-For : (name : Name) (from to : Width) (ss : List Stmt)
    → stmt_ends (st.For name from to ss) ≡ ends_step (Stmt-F.For name from to (map stmt_ends ss))
unfolding stmt_ends
ends-For name from to ss = fold-Stmt-For Bool ends_step name from to ss

pub ends-Jump : (x : Expr) → stmt_ends (st.Jump x) ≡ ends_step (Stmt-F.Jump x)
unfolding stmt_ends
ends-Jump x = fold-Stmt-Jump Bool ends_step x

pub ends-Raise : (cause tval : Expr)
    → stmt_ends (st.Raise cause tval) ≡ ends_step (Stmt-F.Raise cause tval)
unfolding stmt_ends
ends-Raise cause tval = fold-Stmt-Raise Bool ends_step cause tval

pub ends-WriteMemory : (count : ℕ) (at x : Expr)
    → stmt_ends (st.WriteMemory count at x) ≡ ends_step (Stmt-F.WriteMemory count at x)
unfolding stmt_ends
ends-WriteMemory count at x = fold-Stmt-WriteMemory Bool ends_step count at x

pub ends-SoftWrite : (address x : Expr)
    → stmt_ends (st.SoftWrite address x) ≡ ends_step (Stmt-F.SoftWrite address x)
unfolding stmt_ends
ends-SoftWrite address x = fold-Stmt-SoftWrite Bool ends_step address x

pub ends-Call : (name : Name) (es : List Expr)
    → stmt_ends (st.Call name es) ≡ ends_step (Stmt-F.Call name es)
unfolding stmt_ends
ends-Call name es = fold-Stmt-Call Bool ends_step name es

pub ruleset deeds = (deeds-Number, deeds-Sized, deeds-Text, deeds-Flag, deeds-Word, deeds-Member, deeds-Unary, deeds-Binary, deeds-WideLeft, deeds-Choice, deeds-Join, deeds-Repeat, deeds-Index, deeds-Slice, deeds-Call, deeds-Signed, deeds-Resize, deeds-Pc, deeds-Encoding, deeds-Register, deeds-Field, deeds-SoftRead, deeds-ReadMemory, deeds-NewField, deeds-Mode, deeds-Implemented, deeds-ImplementedVersion, does-Declare, does-Assign, does-Block, does-Return, does-If, does-For, does-Jump, does-Raise, does-WriteMemory, does-SoftWrite, does-Call, ends-Declare, ends-Assign, ends-Block, ends-Return, ends-If, ends-For, ends-Jump, ends-Raise, ends-WriteMemory, ends-SoftWrite, ends-Call)
