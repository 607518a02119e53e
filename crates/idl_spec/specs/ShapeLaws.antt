-- The shapes of expressions, form by form.
use Rattle.std.specs.Prelude.{◌≡◌, Bool, ℕ, List, map, Option}
use Rattle.udb_base.specs.declared.names.Name.{Name}
use Rattle.udb_base.specs.declared.characters.Chars.{Chars}
use Rattle.idl_tree.specs.declared.widths.Width.{Width}
use Rattle.idl_tree.specs.declared.widths.EnumKind.{EnumKind}
use Rattle.idl_tree.specs.declared.expressions.Unary.{Unary}
use Rattle.idl_tree.specs.declared.expressions.Binary.{Binary}
use Rattle.idl_tree.specs.declared.expressions.Expr.{Expr}
use Rattle.idl_tree.specs.declared.expressions.Expr.TheVariants as ex
use Rattle.idl_tree.specs.declared.expressions.Expr.TheOpen.{Expr-F}
use Rattle.idl_tree.specs.ExprLaws.{fold-Expr-Number, fold-Expr-Sized, fold-Expr-Text, fold-Expr-Flag, fold-Expr-Word, fold-Expr-Member, fold-Expr-Unary, fold-Expr-Binary, fold-Expr-WideLeft, fold-Expr-Choice, fold-Expr-Join, fold-Expr-Repeat, fold-Expr-Index, fold-Expr-Slice, fold-Expr-Call, fold-Expr-Signed, fold-Expr-Resize, fold-Expr-Pc, fold-Expr-Encoding, fold-Expr-Register, fold-Expr-Field, fold-Expr-SoftRead, fold-Expr-ReadMemory, fold-Expr-NewField, fold-Expr-Mode, fold-Expr-Implemented, fold-Expr-ImplementedVersion}
use Rattle.idl_spec.specs.Shapes.{Kind, Names, shape, shape_step}

pub shape-Number : (names : Names) (n : ℕ)
    → shape names (ex.Number n) ≡ shape_step names (Expr-F.Number n)
unfolding shape
shape-Number names n = fold-Expr-Number (Option Kind) (shape_step names) n

pub shape-Sized : (names : Names) (width : Width) (signed : Bool) (n : ℕ)
    → shape names (ex.Sized width signed n) ≡ shape_step names (Expr-F.Sized width signed n)
unfolding shape
shape-Sized names width signed n = fold-Expr-Sized (Option Kind) (shape_step names) width signed n

pub shape-Text : (names : Names) (x : Chars)
    → shape names (ex.Text x) ≡ shape_step names (Expr-F.Text x)
unfolding shape
shape-Text names x = fold-Expr-Text (Option Kind) (shape_step names) x

pub shape-Flag : (names : Names) (x : Bool)
    → shape names (ex.Flag x) ≡ shape_step names (Expr-F.Flag x)
unfolding shape
shape-Flag names x = fold-Expr-Flag (Option Kind) (shape_step names) x

pub shape-Word : (names : Names) (name : Name)
    → shape names (ex.Word name) ≡ shape_step names (Expr-F.Word name)
unfolding shape
shape-Word names name = fold-Expr-Word (Option Kind) (shape_step names) name

pub shape-Member : (names : Names) (kind : EnumKind) (name : Name)
    → shape names (ex.Member kind name) ≡ shape_step names (Expr-F.Member kind name)
unfolding shape
shape-Member names kind name = fold-Expr-Member (Option Kind) (shape_step names) kind name

pub shape-Unary : (names : Names) (sign : Unary) (a : Expr)
    → shape names (ex.Unary sign a) ≡ shape_step names (Expr-F.Unary sign (shape names a))
unfolding shape
shape-Unary names sign a = fold-Expr-Unary (Option Kind) (shape_step names) sign a

pub shape-Binary : (names : Names) (sign : Binary) (a c : Expr)
    → shape names (ex.Binary sign a c)
    ≡ shape_step names (Expr-F.Binary sign (shape names a) (shape names c))
unfolding shape
shape-Binary names sign a c = fold-Expr-Binary (Option Kind) (shape_step names) sign a c

pub shape-WideLeft : (names : Names) (a : Expr) (by : Width)
    → shape names (ex.WideLeft a by) ≡ shape_step names (Expr-F.WideLeft (shape names a) by)
unfolding shape
shape-WideLeft names a by = fold-Expr-WideLeft (Option Kind) (shape_step names) a by

pub shape-Choice : (names : Names) (test taken other : Expr)
    → shape names (ex.Choice test taken other)
    ≡ shape_step names (Expr-F.Choice (shape names test) (shape names taken) (shape names other))
unfolding shape
shape-Choice names test taken other =
    fold-Expr-Choice (Option Kind) (shape_step names) test taken other

pub shape-Join : (names : Names) (es : List Expr)
    → shape names (ex.Join es) ≡ shape_step names (Expr-F.Join (map (shape names) es))
unfolding shape
shape-Join names es = fold-Expr-Join (Option Kind) (shape_step names) es

pub shape-Repeat : (names : Names) (times : Width) (a : Expr)
    → shape names (ex.Repeat times a) ≡ shape_step names (Expr-F.Repeat times (shape names a))
unfolding shape
shape-Repeat names times a = fold-Expr-Repeat (Option Kind) (shape_step names) times a

pub shape-Index : (names : Names) (a at : Expr)
    → shape names (ex.Index a at) ≡ shape_step names (Expr-F.Index (shape names a) (shape names at))
unfolding shape
shape-Index names a at = fold-Expr-Index (Option Kind) (shape_step names) a at

pub shape-Slice : (names : Names) (a : Expr) (high low : Width)
    → shape names (ex.Slice a high low) ≡ shape_step names (Expr-F.Slice (shape names a) high low)
unfolding shape
shape-Slice names a high low = fold-Expr-Slice (Option Kind) (shape_step names) a high low

pub shape-Call : (names : Names) (name : Name) (es : List Expr)
    → shape names (ex.Call name es) ≡ shape_step names (Expr-F.Call name (map (shape names) es))
unfolding shape
shape-Call names name es = fold-Expr-Call (Option Kind) (shape_step names) name es

pub shape-Signed : (names : Names) (a : Expr)
    → shape names (ex.Signed a) ≡ shape_step names (Expr-F.Signed (shape names a))
unfolding shape
shape-Signed names a = fold-Expr-Signed (Option Kind) (shape_step names) a

pub shape-Resize : (names : Names) (width : Width) (a : Expr)
    → shape names (ex.Resize width a) ≡ shape_step names (Expr-F.Resize width (shape names a))
unfolding shape
shape-Resize names width a = fold-Expr-Resize (Option Kind) (shape_step names) width a

pub shape-Pc : (names : Names) → shape names ex.Pc ≡ shape_step names Expr-F.Pc
unfolding shape
shape-Pc names = fold-Expr-Pc (Option Kind) (shape_step names)

pub shape-Encoding : (names : Names) → shape names ex.Encoding ≡ shape_step names Expr-F.Encoding
unfolding shape
shape-Encoding names = fold-Expr-Encoding (Option Kind) (shape_step names)

pub shape-Register : (names : Names) (a : Expr)
    → shape names (ex.Register a) ≡ shape_step names (Expr-F.Register (shape names a))
unfolding shape
shape-Register names a = fold-Expr-Register (Option Kind) (shape_step names) a

pub shape-Field : (names : Names) (csr field : Name)
    → shape names (ex.Field csr field) ≡ shape_step names (Expr-F.Field csr field)
unfolding shape
shape-Field names csr field = fold-Expr-Field (Option Kind) (shape_step names) csr field

pub shape-SoftRead : (names : Names) (a : Expr)
    → shape names (ex.SoftRead a) ≡ shape_step names (Expr-F.SoftRead (shape names a))
unfolding shape
shape-SoftRead names a = fold-Expr-SoftRead (Option Kind) (shape_step names) a

pub shape-ReadMemory : (names : Names) (count : ℕ) (at : Expr)
    → shape names (ex.ReadMemory count at)
    ≡ shape_step names (Expr-F.ReadMemory count (shape names at))
unfolding shape
shape-ReadMemory names count at = fold-Expr-ReadMemory (Option Kind) (shape_step names) count at

pub shape-NewField : (names : Names) (name : Name)
    → shape names (ex.NewField name) ≡ shape_step names (Expr-F.NewField name)
unfolding shape
shape-NewField names name = fold-Expr-NewField (Option Kind) (shape_step names) name

pub shape-Mode : (names : Names) → shape names ex.Mode ≡ shape_step names Expr-F.Mode
unfolding shape
shape-Mode names = fold-Expr-Mode (Option Kind) (shape_step names)

pub shape-Implemented : (names : Names) (name : Name)
    → shape names (ex.Implemented name) ≡ shape_step names (Expr-F.Implemented name)
unfolding shape
shape-Implemented names name = fold-Expr-Implemented (Option Kind) (shape_step names) name

pub shape-ImplementedVersion : (names : Names) (extension : Name) (x : Chars)
    → shape names (ex.ImplementedVersion extension x)
    ≡ shape_step names (Expr-F.ImplementedVersion extension x)
unfolding shape
shape-ImplementedVersion names extension x =
    fold-Expr-ImplementedVersion (Option Kind) (shape_step names) extension x

pub ruleset shapes = (shape-Number, shape-Sized, shape-Text, shape-Flag, shape-Word, shape-Member, shape-Unary, shape-Binary, shape-WideLeft, shape-Choice, shape-Join, shape-Repeat, shape-Index, shape-Slice, shape-Call, shape-Signed, shape-Resize, shape-Pc, shape-Encoding, shape-Register, shape-Field, shape-SoftRead, shape-ReadMemory, shape-NewField, shape-Mode, shape-Implemented, shape-ImplementedVersion)
