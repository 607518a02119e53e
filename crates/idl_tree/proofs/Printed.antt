-- The forms of trees, variant by variant, and margins.
use Rattle.std.proofs.Common.{◌≡◌, ◌<◌, ℕ, zero, suc, Bool, List, [], ◌∷◌, ◌++◌, map, take, length, get_or, Option, None, Some, codes, refl, sym, ap, ◌∙◌, append_assoc}
use Rattle.std.specs.Option.{option_map}
use Rattle.udb_base.specs.declared.names.Name.{Name}
use Rattle.udb_base.specs.declared.characters.Chars.{Chars}
use Rattle.idl_tree.specs.declared.widths.Width.{Width}
use Rattle.idl_tree.specs.declared.widths.Width.TheVariants as w
use Rattle.idl_tree.specs.declared.widths.Width.TheOpen.{Width-F}
use Rattle.idl_tree.specs.declared.widths.EnumKind.{EnumKind}
use Rattle.idl_tree.specs.declared.widths.Shape.{Shape}
use Rattle.idl_tree.specs.declared.expressions.Unary.{Unary}
use Rattle.idl_tree.specs.declared.expressions.Binary.{Binary}
use Rattle.idl_tree.specs.declared.expressions.Expr.{Expr}
use Rattle.idl_tree.specs.declared.expressions.Expr.TheVariants as e
use Rattle.idl_tree.specs.declared.expressions.Expr.TheOpen.{Expr-F}
use Rattle.idl_tree.specs.declared.statements.Target.{Target}
use Rattle.idl_tree.specs.declared.statements.Stmt.{Stmt}
use Rattle.idl_tree.specs.declared.statements.Stmt.TheVariants as s
use Rattle.idl_tree.specs.declared.statements.Stmt.TheOpen.{Stmt-F}
use Rattle.idl_tree.specs.WidthLaws.{fold-Width-Number, fold-Width-Word, fold-Width-Plus, fold-Width-Minus, fold-Width-Times, fold-Width-Max, fold-Width-Bits}
use Rattle.idl_tree.specs.ExprLaws.{fold-Expr-Number, fold-Expr-Sized, fold-Expr-Text, fold-Expr-Flag, fold-Expr-Word, fold-Expr-Member, fold-Expr-Unary, fold-Expr-Binary, fold-Expr-WideLeft, fold-Expr-Choice, fold-Expr-Join, fold-Expr-Repeat, fold-Expr-Index, fold-Expr-Slice, fold-Expr-Call, fold-Expr-Signed, fold-Expr-Resize, fold-Expr-Pc, fold-Expr-Encoding, fold-Expr-Register, fold-Expr-Field, fold-Expr-SoftRead, fold-Expr-ReadMemory, fold-Expr-NewField, fold-Expr-Mode, fold-Expr-Implemented, fold-Expr-ImplementedVersion}
use Rattle.idl_tree.specs.StmtLaws.{fold-Stmt-Declare, fold-Stmt-Assign, fold-Stmt-Block, fold-Stmt-Return, fold-Stmt-If, fold-Stmt-For, fold-Stmt-Jump, fold-Stmt-Raise, fold-Stmt-WriteMemory, fold-Stmt-SoftWrite, fold-Stmt-Call}
use Rattle.udb_base.specs.Lines.{Lines}
use Rattle.idl_tree.specs.Print.{Form, width_step, width_form, expr_step, expr_form, expr_text, lines_step, stmt_lines}

pub width_form-Number : (n : ℕ) → width_form (w.Number n) ≡ width_step (Width-F.Number n)
unfolding width_form
width_form-Number = fold-Width-Number Form width_step

pub width_form-Word : (name : Name) → width_form (w.Word name) ≡ width_step (Width-F.Word name)
unfolding width_form
width_form-Word = fold-Width-Word Form width_step

pub width_form-Plus : (a : Width) (b : Width) → width_form (w.Plus a b) ≡ width_step (Width-F.Plus (width_form a) (width_form b))
unfolding width_form
width_form-Plus = fold-Width-Plus Form width_step

pub width_form-Minus : (a : Width) (b : Width) → width_form (w.Minus a b) ≡ width_step (Width-F.Minus (width_form a) (width_form b))
unfolding width_form
width_form-Minus = fold-Width-Minus Form width_step

pub width_form-Times : (a : Width) (b : Width) → width_form (w.Times a b) ≡ width_step (Width-F.Times (width_form a) (width_form b))
unfolding width_form
width_form-Times = fold-Width-Times Form width_step

pub width_form-Max : (a : Width) (b : Width) → width_form (w.Max a b) ≡ width_step (Width-F.Max (width_form a) (width_form b))
unfolding width_form
width_form-Max = fold-Width-Max Form width_step

pub width_form-Bits : (csr : Option Name) (name : Name) → width_form (w.Bits csr name) ≡ width_step (Width-F.Bits csr name)
unfolding width_form
width_form-Bits = fold-Width-Bits Form width_step

pub ruleset width_forms = (width_form-Number, width_form-Word, width_form-Plus, width_form-Minus, width_form-Times, width_form-Max, width_form-Bits, append_assoc)

pub expr_form-Number : (n : ℕ) → expr_form (e.Number n) ≡ expr_step (Expr-F.Number n)
unfolding expr_form
expr_form-Number = fold-Expr-Number Form expr_step

pub expr_form-Sized : (width : Width) (signed : Bool) (value : ℕ) → expr_form (e.Sized width signed value) ≡ expr_step (Expr-F.Sized width signed value)
unfolding expr_form
expr_form-Sized = fold-Expr-Sized Form expr_step

pub expr_form-Text : (text : Chars) → expr_form (e.Text text) ≡ expr_step (Expr-F.Text text)
unfolding expr_form
expr_form-Text = fold-Expr-Text Form expr_step

pub expr_form-Flag : (flag : Bool) → expr_form (e.Flag flag) ≡ expr_step (Expr-F.Flag flag)
unfolding expr_form
expr_form-Flag = fold-Expr-Flag Form expr_step

pub expr_form-Word : (name : Name) → expr_form (e.Word name) ≡ expr_step (Expr-F.Word name)
unfolding expr_form
expr_form-Word = fold-Expr-Word Form expr_step

pub expr_form-Member : (kind : EnumKind) (name : Name) → expr_form (e.Member kind name) ≡ expr_step (Expr-F.Member kind name)
unfolding expr_form
expr_form-Member = fold-Expr-Member Form expr_step

pub expr_form-Unary : (sign : Unary) (a : Expr) → expr_form (e.Unary sign a) ≡ expr_step (Expr-F.Unary sign (expr_form a))
unfolding expr_form
expr_form-Unary = fold-Expr-Unary Form expr_step

pub expr_form-Binary : (sign : Binary) (a : Expr) (b : Expr) → expr_form (e.Binary sign a b) ≡ expr_step (Expr-F.Binary sign (expr_form a) (expr_form b))
unfolding expr_form
expr_form-Binary = fold-Expr-Binary Form expr_step

pub expr_form-WideLeft : (a : Expr) (by : Width) → expr_form (e.WideLeft a by) ≡ expr_step (Expr-F.WideLeft (expr_form a) by)
unfolding expr_form
expr_form-WideLeft = fold-Expr-WideLeft Form expr_step

pub expr_form-Choice : (test : Expr) (taken : Expr) (other : Expr) → expr_form (e.Choice test taken other) ≡ expr_step (Expr-F.Choice (expr_form test) (expr_form taken) (expr_form other))
unfolding expr_form
expr_form-Choice = fold-Expr-Choice Form expr_step

pub expr_form-Join : (es : List Expr) → expr_form (e.Join es) ≡ expr_step (Expr-F.Join (map expr_form es))
unfolding expr_form
expr_form-Join = fold-Expr-Join Form expr_step

pub expr_form-Repeat : (times : Width) (a : Expr) → expr_form (e.Repeat times a) ≡ expr_step (Expr-F.Repeat times (expr_form a))
unfolding expr_form
expr_form-Repeat = fold-Expr-Repeat Form expr_step

pub expr_form-Index : (a : Expr) (at : Expr) → expr_form (e.Index a at) ≡ expr_step (Expr-F.Index (expr_form a) (expr_form at))
unfolding expr_form
expr_form-Index = fold-Expr-Index Form expr_step

pub expr_form-Slice : (a : Expr) (high : Width) (low : Width) → expr_form (e.Slice a high low) ≡ expr_step (Expr-F.Slice (expr_form a) high low)
unfolding expr_form
expr_form-Slice = fold-Expr-Slice Form expr_step

pub expr_form-Call : (name : Name) (es : List Expr) → expr_form (e.Call name es) ≡ expr_step (Expr-F.Call name (map expr_form es))
unfolding expr_form
expr_form-Call = fold-Expr-Call Form expr_step

pub expr_form-Signed : (a : Expr) → expr_form (e.Signed a) ≡ expr_step (Expr-F.Signed (expr_form a))
unfolding expr_form
expr_form-Signed = fold-Expr-Signed Form expr_step

pub expr_form-Resize : (width : Width) (a : Expr) → expr_form (e.Resize width a) ≡ expr_step (Expr-F.Resize width (expr_form a))
unfolding expr_form
expr_form-Resize = fold-Expr-Resize Form expr_step

pub expr_form-Pc : expr_form e.Pc ≡ expr_step Expr-F.Pc
unfolding expr_form
expr_form-Pc = fold-Expr-Pc Form expr_step

pub expr_form-Encoding : expr_form e.Encoding ≡ expr_step Expr-F.Encoding
unfolding expr_form
expr_form-Encoding = fold-Expr-Encoding Form expr_step

pub expr_form-Register : (a : Expr) → expr_form (e.Register a) ≡ expr_step (Expr-F.Register (expr_form a))
unfolding expr_form
expr_form-Register = fold-Expr-Register Form expr_step

pub expr_form-Field : (csr : Name) (field : Name) → expr_form (e.Field csr field) ≡ expr_step (Expr-F.Field csr field)
unfolding expr_form
expr_form-Field = fold-Expr-Field Form expr_step

pub expr_form-SoftRead : (a : Expr) → expr_form (e.SoftRead a) ≡ expr_step (Expr-F.SoftRead (expr_form a))
unfolding expr_form
expr_form-SoftRead = fold-Expr-SoftRead Form expr_step

pub expr_form-ReadMemory : (bits : ℕ) (at : Expr) → expr_form (e.ReadMemory bits at) ≡ expr_step (Expr-F.ReadMemory bits (expr_form at))
unfolding expr_form
expr_form-ReadMemory = fold-Expr-ReadMemory Form expr_step

pub expr_form-NewField : (name : Name) → expr_form (e.NewField name) ≡ expr_step (Expr-F.NewField name)
unfolding expr_form
expr_form-NewField = fold-Expr-NewField Form expr_step

pub expr_form-Mode : expr_form e.Mode ≡ expr_step Expr-F.Mode
unfolding expr_form
expr_form-Mode = fold-Expr-Mode Form expr_step

pub expr_form-Implemented : (name : Name) → expr_form (e.Implemented name) ≡ expr_step (Expr-F.Implemented name)
unfolding expr_form
expr_form-Implemented = fold-Expr-Implemented Form expr_step

pub expr_form-ImplementedVersion : (extension : Name) (text : Chars) → expr_form (e.ImplementedVersion extension text) ≡ expr_step (Expr-F.ImplementedVersion extension text)
unfolding expr_form
expr_form-ImplementedVersion = fold-Expr-ImplementedVersion Form expr_step

pub texts : (es : List Expr) → map (λ x. x.1) (map expr_form es) ≡ map expr_text es
texts [] = refl
texts (x ∷ es) = ap (λ ts. expr_text x ∷ ts) (texts es)

pub ruleset expr_forms = (expr_form-Number, expr_form-Sized, expr_form-Text, expr_form-Flag, expr_form-Word, expr_form-Member, expr_form-Unary, expr_form-Binary, expr_form-WideLeft, expr_form-Choice, expr_form-Join, expr_form-Repeat, expr_form-Index, expr_form-Slice, expr_form-Call, expr_form-Signed, expr_form-Resize, expr_form-Pc, expr_form-Encoding, expr_form-Register, expr_form-Field, expr_form-SoftRead, expr_form-ReadMemory, expr_form-NewField, expr_form-Mode, expr_form-Implemented, expr_form-ImplementedVersion, texts, append_assoc)

pub stmt_lines-Declare : (shape : Shape) (name : Name) (value : Expr) → stmt_lines (s.Declare shape name value) ≡ lines_step (Stmt-F.Declare shape name value)
unfolding stmt_lines
stmt_lines-Declare = fold-Stmt-Declare Lines lines_step

pub stmt_lines-Assign : (target : Target) (value : Expr) → stmt_lines (s.Assign target value) ≡ lines_step (Stmt-F.Assign target value)
unfolding stmt_lines
stmt_lines-Assign = fold-Stmt-Assign Lines lines_step

pub stmt_lines-Block : (ss : List Stmt) → stmt_lines (s.Block ss) ≡ lines_step (Stmt-F.Block (map stmt_lines ss))
unfolding stmt_lines
stmt_lines-Block = fold-Stmt-Block Lines lines_step

pub stmt_lines-Return : (value : Expr) → stmt_lines (s.Return value) ≡ lines_step (Stmt-F.Return value)
unfolding stmt_lines
stmt_lines-Return = fold-Stmt-Return Lines lines_step

pub stmt_lines-If : (test : Expr) (taken : List Stmt) (other : Option (List Stmt)) → stmt_lines (s.If test taken other) ≡ lines_step (Stmt-F.If test (map stmt_lines taken) (option_map (map stmt_lines) other))
unfolding stmt_lines
stmt_lines-If = fold-Stmt-If Lines lines_step

pub stmt_lines-For : (name : Name) (from : Width) (to : Width) (ss : List Stmt) → stmt_lines (s.For name from to ss) ≡ lines_step (Stmt-F.For name from to (map stmt_lines ss))
unfolding stmt_lines
stmt_lines-For = fold-Stmt-For Lines lines_step

pub stmt_lines-Jump : (value : Expr) → stmt_lines (s.Jump value) ≡ lines_step (Stmt-F.Jump value)
unfolding stmt_lines
stmt_lines-Jump = fold-Stmt-Jump Lines lines_step

pub stmt_lines-Raise : (code : Expr) (tval : Expr) → stmt_lines (s.Raise code tval) ≡ lines_step (Stmt-F.Raise code tval)
unfolding stmt_lines
stmt_lines-Raise = fold-Stmt-Raise Lines lines_step

pub stmt_lines-WriteMemory : (bits : ℕ) (at : Expr) (value : Expr) → stmt_lines (s.WriteMemory bits at value) ≡ lines_step (Stmt-F.WriteMemory bits at value)
unfolding stmt_lines
stmt_lines-WriteMemory = fold-Stmt-WriteMemory Lines lines_step

pub stmt_lines-SoftWrite : (address : Expr) (value : Expr) → stmt_lines (s.SoftWrite address value) ≡ lines_step (Stmt-F.SoftWrite address value)
unfolding stmt_lines
stmt_lines-SoftWrite = fold-Stmt-SoftWrite Lines lines_step

pub stmt_lines-Call : (name : Name) (es : List Expr) → stmt_lines (s.Call name es) ≡ lines_step (Stmt-F.Call name es)
unfolding stmt_lines
stmt_lines-Call = fold-Stmt-Call Lines lines_step
