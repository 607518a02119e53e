-- The words of widths, expressions and statements, form by form.
use Rattle.std.specs.Prelude.{◌≡◌, Bool, ℕ, List, map, Option, option_map}
use Rattle.udb_base.specs.declared.names.Name.{Name}
use Rattle.udb_base.specs.declared.characters.Chars.{Chars}
use Rattle.idl_tree.specs.declared.widths.Width.{Width}
use Rattle.idl_tree.specs.declared.widths.EnumKind.{EnumKind}
use Rattle.idl_tree.specs.declared.widths.Shape.{Shape}
use Rattle.idl_tree.specs.declared.expressions.Unary.{Unary}
use Rattle.idl_tree.specs.declared.expressions.Binary.{Binary}
use Rattle.idl_tree.specs.declared.expressions.Expr.{Expr}
use Rattle.idl_tree.specs.declared.statements.Target.{Target}
use Rattle.idl_tree.specs.declared.statements.Stmt.{Stmt}
use Rattle.idl_tree.specs.declared.widths.Width.TheVariants as wd
use Rattle.idl_tree.specs.declared.widths.Width.TheOpen.{Width-F}
use Rattle.idl_tree.specs.WidthLaws.{fold-Width-Number, fold-Width-Word, fold-Width-Plus, fold-Width-Minus, fold-Width-Times, fold-Width-Max, fold-Width-Bits}
use Rattle.idl_tree.specs.declared.expressions.Expr.TheVariants as ex
use Rattle.idl_tree.specs.declared.expressions.Expr.TheOpen.{Expr-F}
use Rattle.idl_tree.specs.ExprLaws.{para-Expr-Number, para-Expr-Sized, para-Expr-Text, para-Expr-Flag, para-Expr-Word, para-Expr-Member, para-Expr-Unary, para-Expr-Binary, para-Expr-WideLeft, para-Expr-Choice, para-Expr-Join, para-Expr-Repeat, para-Expr-Index, para-Expr-Slice, para-Expr-Call, para-Expr-Signed, para-Expr-Resize, para-Expr-Pc, para-Expr-Encoding, para-Expr-Register, para-Expr-Field, para-Expr-SoftRead, para-Expr-ReadMemory, para-Expr-NewField, para-Expr-Mode, para-Expr-Implemented, para-Expr-ImplementedVersion}
use Rattle.idl_tree.specs.declared.statements.Stmt.TheVariants as st
use Rattle.idl_tree.specs.declared.statements.Stmt.TheOpen.{Stmt-F}
use Rattle.idl_tree.specs.StmtLaws.{fold-Stmt-Declare, fold-Stmt-Assign, fold-Stmt-Block, fold-Stmt-Return, fold-Stmt-If, fold-Stmt-For, fold-Stmt-Jump, fold-Stmt-Raise, fold-Stmt-WriteMemory, fold-Stmt-SoftWrite, fold-Stmt-Call}
use Rattle.idl_spec.specs.Words.{Word, width_words, width_words_step, expr_words, expr_words_step, stmt_words, stmt_words_step}

pub words-width-Number : (n : ℕ) → width_words (wd.Number n) ≡ width_words_step (Width-F.Number n)
unfolding width_words
words-width-Number n = fold-Width-Number (List Word) width_words_step n

pub words-width-Word : (name : Name)
    → width_words (wd.Word name) ≡ width_words_step (Width-F.Word name)
unfolding width_words
words-width-Word name = fold-Width-Word (List Word) width_words_step name

pub words-width-Plus : (a c : Width)
    → width_words (wd.Plus a c) ≡ width_words_step (Width-F.Plus (width_words a) (width_words c))
unfolding width_words
words-width-Plus a c = fold-Width-Plus (List Word) width_words_step a c

pub words-width-Minus : (a c : Width)
    → width_words (wd.Minus a c) ≡ width_words_step (Width-F.Minus (width_words a) (width_words c))
unfolding width_words
words-width-Minus a c = fold-Width-Minus (List Word) width_words_step a c

pub words-width-Times : (a c : Width)
    → width_words (wd.Times a c) ≡ width_words_step (Width-F.Times (width_words a) (width_words c))
unfolding width_words
words-width-Times a c = fold-Width-Times (List Word) width_words_step a c

pub words-width-Max : (a c : Width)
    → width_words (wd.Max a c) ≡ width_words_step (Width-F.Max (width_words a) (width_words c))
unfolding width_words
words-width-Max a c = fold-Width-Max (List Word) width_words_step a c

pub words-width-Bits : (csr : Option Name) (name : Name)
    → width_words (wd.Bits csr name) ≡ width_words_step (Width-F.Bits csr name)
unfolding width_words
words-width-Bits csr name = fold-Width-Bits (List Word) width_words_step csr name

pub words-Number : (n : ℕ) → expr_words (ex.Number n) ≡ expr_words_step (Expr-F.Number n)
unfolding expr_words
words-Number n = para-Expr-Number (List Word) expr_words_step n

pub words-Sized : (width : Width) (signed : Bool) (n : ℕ)
    → expr_words (ex.Sized width signed n) ≡ expr_words_step (Expr-F.Sized width signed n)
unfolding expr_words
words-Sized width signed n = para-Expr-Sized (List Word) expr_words_step width signed n

pub words-Text : (x : Chars) → expr_words (ex.Text x) ≡ expr_words_step (Expr-F.Text x)
unfolding expr_words
words-Text x = para-Expr-Text (List Word) expr_words_step x

pub words-Flag : (x : Bool) → expr_words (ex.Flag x) ≡ expr_words_step (Expr-F.Flag x)
unfolding expr_words
words-Flag x = para-Expr-Flag (List Word) expr_words_step x

pub words-Word : (name : Name) → expr_words (ex.Word name) ≡ expr_words_step (Expr-F.Word name)
unfolding expr_words
words-Word name = para-Expr-Word (List Word) expr_words_step name

pub words-Member : (kind : EnumKind) (name : Name)
    → expr_words (ex.Member kind name) ≡ expr_words_step (Expr-F.Member kind name)
unfolding expr_words
words-Member kind name = para-Expr-Member (List Word) expr_words_step kind name

pub words-Unary : (sign : Unary) (a : Expr)
    → expr_words (ex.Unary sign a) ≡ expr_words_step (Expr-F.Unary sign (a, expr_words a))
unfolding expr_words
words-Unary sign a = para-Expr-Unary (List Word) expr_words_step sign a

pub words-Binary : (sign : Binary) (a c : Expr)
    → expr_words (ex.Binary sign a c)
    ≡ expr_words_step (Expr-F.Binary sign (a, expr_words a) (c, expr_words c))
unfolding expr_words
words-Binary sign a c = para-Expr-Binary (List Word) expr_words_step sign a c

pub words-WideLeft : (a : Expr) (by : Width)
    → expr_words (ex.WideLeft a by) ≡ expr_words_step (Expr-F.WideLeft (a, expr_words a) by)
unfolding expr_words
words-WideLeft a by = para-Expr-WideLeft (List Word) expr_words_step a by

pub words-Choice : (test taken other : Expr)
    → expr_words (ex.Choice test taken other)
    ≡ expr_words_step (Expr-F.Choice (test, expr_words test) (taken, expr_words taken) (other, expr_words other))
unfolding expr_words
words-Choice test taken other = para-Expr-Choice (List Word) expr_words_step test taken other

pub words-Join : (es : List Expr)
    → expr_words (ex.Join es) ≡ expr_words_step (Expr-F.Join (map (λ p. (p, expr_words p)) es))
unfolding expr_words
words-Join es = para-Expr-Join (List Word) expr_words_step es

pub words-Repeat : (times : Width) (a : Expr)
    → expr_words (ex.Repeat times a) ≡ expr_words_step (Expr-F.Repeat times (a, expr_words a))
unfolding expr_words
words-Repeat times a = para-Expr-Repeat (List Word) expr_words_step times a

pub words-Index : (a at : Expr)
    → expr_words (ex.Index a at)
    ≡ expr_words_step (Expr-F.Index (a, expr_words a) (at, expr_words at))
unfolding expr_words
words-Index a at = para-Expr-Index (List Word) expr_words_step a at

pub words-Slice : (a : Expr) (high low : Width)
    → expr_words (ex.Slice a high low) ≡ expr_words_step (Expr-F.Slice (a, expr_words a) high low)
unfolding expr_words
words-Slice a high low = para-Expr-Slice (List Word) expr_words_step a high low

pub words-Call : (name : Name) (es : List Expr)
    → expr_words (ex.Call name es)
    ≡ expr_words_step (Expr-F.Call name (map (λ p. (p, expr_words p)) es))
unfolding expr_words
words-Call name es = para-Expr-Call (List Word) expr_words_step name es

pub words-Signed : (a : Expr)
    → expr_words (ex.Signed a) ≡ expr_words_step (Expr-F.Signed (a, expr_words a))
unfolding expr_words
words-Signed a = para-Expr-Signed (List Word) expr_words_step a

pub words-Resize : (width : Width) (a : Expr)
    → expr_words (ex.Resize width a) ≡ expr_words_step (Expr-F.Resize width (a, expr_words a))
unfolding expr_words
words-Resize width a = para-Expr-Resize (List Word) expr_words_step width a

pub words-Pc : expr_words ex.Pc ≡ expr_words_step Expr-F.Pc
unfolding expr_words
words-Pc = para-Expr-Pc (List Word) expr_words_step

pub words-Encoding : expr_words ex.Encoding ≡ expr_words_step Expr-F.Encoding
unfolding expr_words
words-Encoding = para-Expr-Encoding (List Word) expr_words_step

pub words-Register : (a : Expr)
    → expr_words (ex.Register a) ≡ expr_words_step (Expr-F.Register (a, expr_words a))
unfolding expr_words
words-Register a = para-Expr-Register (List Word) expr_words_step a

pub words-Field : (csr field : Name)
    → expr_words (ex.Field csr field) ≡ expr_words_step (Expr-F.Field csr field)
unfolding expr_words
words-Field csr field = para-Expr-Field (List Word) expr_words_step csr field

pub words-SoftRead : (a : Expr)
    → expr_words (ex.SoftRead a) ≡ expr_words_step (Expr-F.SoftRead (a, expr_words a))
unfolding expr_words
words-SoftRead a = para-Expr-SoftRead (List Word) expr_words_step a

pub words-ReadMemory : (count : ℕ) (at : Expr)
    → expr_words (ex.ReadMemory count at)
    ≡ expr_words_step (Expr-F.ReadMemory count (at, expr_words at))
unfolding expr_words
words-ReadMemory count at = para-Expr-ReadMemory (List Word) expr_words_step count at

pub words-NewField : (name : Name)
    → expr_words (ex.NewField name) ≡ expr_words_step (Expr-F.NewField name)
unfolding expr_words
words-NewField name = para-Expr-NewField (List Word) expr_words_step name

pub words-Mode : expr_words ex.Mode ≡ expr_words_step Expr-F.Mode
unfolding expr_words
words-Mode = para-Expr-Mode (List Word) expr_words_step

pub words-Implemented : (name : Name)
    → expr_words (ex.Implemented name) ≡ expr_words_step (Expr-F.Implemented name)
unfolding expr_words
words-Implemented name = para-Expr-Implemented (List Word) expr_words_step name

pub words-ImplementedVersion : (extension : Name) (x : Chars)
    → expr_words (ex.ImplementedVersion extension x)
    ≡ expr_words_step (Expr-F.ImplementedVersion extension x)
unfolding expr_words
words-ImplementedVersion extension x =
    para-Expr-ImplementedVersion (List Word) expr_words_step extension x

pub words-stmt-Declare : (declared : Shape) (name : Name) (x : Expr)
    → stmt_words (st.Declare declared name x) ≡ stmt_words_step (Stmt-F.Declare declared name x)
unfolding stmt_words
words-stmt-Declare declared name x = fold-Stmt-Declare (List Word) stmt_words_step declared name x

pub words-stmt-Assign : (target : Target) (x : Expr)
    → stmt_words (st.Assign target x) ≡ stmt_words_step (Stmt-F.Assign target x)
unfolding stmt_words
words-stmt-Assign target x = fold-Stmt-Assign (List Word) stmt_words_step target x

pub words-stmt-Block : (ss : List Stmt)
    → stmt_words (st.Block ss) ≡ stmt_words_step (Stmt-F.Block (map stmt_words ss))
unfolding stmt_words
words-stmt-Block ss = fold-Stmt-Block (List Word) stmt_words_step ss

pub words-stmt-Return : (x : Expr) → stmt_words (st.Return x) ≡ stmt_words_step (Stmt-F.Return x)
unfolding stmt_words
words-stmt-Return x = fold-Stmt-Return (List Word) stmt_words_step x

pub words-stmt-If : (test : Expr) (taken : List Stmt) (other : Option (List Stmt))
    → stmt_words (st.If test taken other)
    ≡ stmt_words_step (Stmt-F.If test (map stmt_words taken) (option_map (map stmt_words) other))
unfolding stmt_words
words-stmt-If test taken other = fold-Stmt-If (List Word) stmt_words_step test taken other

pub words-stmt-For : (name : Name) (from to : Width) (ss : List Stmt)
    → stmt_words (st.For name from to ss)
    ≡ stmt_words_step (Stmt-F.For name from to (map stmt_words ss))
unfolding stmt_words
words-stmt-For name from to ss = fold-Stmt-For (List Word) stmt_words_step name from to ss

pub words-stmt-Jump : (x : Expr) → stmt_words (st.Jump x) ≡ stmt_words_step (Stmt-F.Jump x)
unfolding stmt_words
words-stmt-Jump x = fold-Stmt-Jump (List Word) stmt_words_step x

pub words-stmt-Raise : (cause tval : Expr)
    → stmt_words (st.Raise cause tval) ≡ stmt_words_step (Stmt-F.Raise cause tval)
unfolding stmt_words
words-stmt-Raise cause tval = fold-Stmt-Raise (List Word) stmt_words_step cause tval

pub words-stmt-WriteMemory : (count : ℕ) (at x : Expr)
    → stmt_words (st.WriteMemory count at x) ≡ stmt_words_step (Stmt-F.WriteMemory count at x)
unfolding stmt_words
words-stmt-WriteMemory count at x = fold-Stmt-WriteMemory (List Word) stmt_words_step count at x

pub words-stmt-SoftWrite : (address x : Expr)
    → stmt_words (st.SoftWrite address x) ≡ stmt_words_step (Stmt-F.SoftWrite address x)
unfolding stmt_words
words-stmt-SoftWrite address x = fold-Stmt-SoftWrite (List Word) stmt_words_step address x

pub words-stmt-Call : (name : Name) (es : List Expr)
    → stmt_words (st.Call name es) ≡ stmt_words_step (Stmt-F.Call name es)
unfolding stmt_words
words-stmt-Call name es = fold-Stmt-Call (List Word) stmt_words_step name es

pub ruleset all_words = (words-width-Number, words-width-Word, words-width-Plus, words-width-Minus, words-width-Times, words-width-Max, words-width-Bits, words-Number, words-Sized, words-Text, words-Flag, words-Word, words-Member, words-Unary, words-Binary, words-WideLeft, words-Choice, words-Join, words-Repeat, words-Index, words-Slice, words-Call, words-Signed, words-Resize, words-Pc, words-Encoding, words-Register, words-Field, words-SoftRead, words-ReadMemory, words-NewField, words-Mode, words-Implemented, words-ImplementedVersion, words-stmt-Declare, words-stmt-Assign, words-stmt-Block, words-stmt-Return, words-stmt-If, words-stmt-For, words-stmt-Jump, words-stmt-Raise, words-stmt-WriteMemory, words-stmt-SoftWrite, words-stmt-Call)
