-- The text of trees: one statement a line, two spaces a level, parentheses round an operand that is
-- itself binary or ternary, and in widths only where the grammar wants them.
use Rattle.std.specs.Prelude.{ℕ, zero, suc, nat_le, Bool, true, false, if◌then◌else◌, List, [], ◌∷◌, ◌++◌, map, codes, Option, None, Some}
use Rattle.std.specs.List.{flat_map, join_by}
use Rattle.std.specs.Fmt.{decimal}
use Rattle.udb_base.specs.declared.names.Name.{Name}
use Rattle.udb_base.specs.declared.characters.Chars.{Chars}
use Rattle.udb_base.specs.Lines.{Lines, text_of_lines}
use Rattle.idl_tree.specs.declared.widths.Width.{Width}
use Rattle.idl_tree.specs.declared.widths.Width.TheOpen.{Width-F}
use Rattle.idl_tree.specs.declared.widths.Width.TheFolds.{fold-Width}
use Rattle.idl_tree.specs.declared.widths.EnumKind.{EnumKind}
use Rattle.idl_tree.specs.declared.widths.EnumKind.TheVariants as kind
use Rattle.idl_tree.specs.declared.widths.Shape.{Shape}
use Rattle.idl_tree.specs.declared.widths.Shape.TheVariants as shape
use Rattle.idl_tree.specs.declared.expressions.Unary.{Unary}
use Rattle.idl_tree.specs.declared.expressions.Unary.TheVariants as unary
use Rattle.idl_tree.specs.declared.expressions.Binary.{Binary}
use Rattle.idl_tree.specs.declared.expressions.Binary.TheVariants as binary
use Rattle.idl_tree.specs.declared.expressions.Expr.{Expr}
use Rattle.idl_tree.specs.declared.expressions.Expr.TheOpen.{Expr-F}
use Rattle.idl_tree.specs.declared.expressions.Expr.TheFolds.{fold-Expr}
use Rattle.idl_tree.specs.declared.statements.Target.{Target}
use Rattle.idl_tree.specs.declared.statements.Target.TheVariants as target
use Rattle.idl_tree.specs.declared.statements.Stmt.{Stmt}
use Rattle.idl_tree.specs.declared.statements.Stmt.TheOpen.{Stmt-F}
use Rattle.idl_tree.specs.declared.statements.Stmt.TheFolds.{fold-Stmt}
use Rattle.idl_tree.specs.declared.programs.Body.{Body}

-- how loosely a form binds, and its text
abbrev pub Form : Type 0
Form = ℕ × List ℕ

-- in a place where no looser form than k stands
abbrev pub within : ℕ → Form → List ℕ
within k x = if nat_le x.0 k then x.1 else codes "(" ++ x.1 ++ codes ")"

abbrev pub field_text : Name → Name → List ℕ
field_text csr field = codes "CSR[" ++ csr ++ codes "]." ++ field

-- ---- widths: 1 is a product, 2 a sum, which groups to the left

abbrev pub bits_text : Option Name → Name → List ℕ
bits_text None name = codes "$bits(" ++ name ++ codes ")"
bits_text (Some csr) name = codes "$bits(" ++ field_text csr name ++ codes ")"

abbrev pub width_step : Width-F Form → Form
width_step (Width-F.Number n) = (0, decimal n)
width_step (Width-F.Word name) = (0, name)
width_step (Width-F.Plus a b) = (2, within 2 a ++ codes "+" ++ within 1 b)
width_step (Width-F.Minus a b) = (2, within 2 a ++ codes "-" ++ within 1 b)
width_step (Width-F.Times a b) = (1, within 0 a ++ codes "*" ++ within 0 b)
width_step (Width-F.Max a b) = (0, codes "max(" ++ a.1 ++ codes ", " ++ b.1 ++ codes ")")
width_step (Width-F.Bits csr name) = (0, bits_text csr name)

unfoldable pub width_form : Width → Form
width_form = fold-Width Form width_step

abbrev pub width_text : Width → List ℕ
width_text w = (width_form w).1

abbrev pub range_text : Width → Width → List ℕ
range_text high low = codes "[" ++ width_text high ++ codes ":" ++ width_text low ++ codes "]"

-- ---- shapes

abbrev pub enum_word : EnumKind → List ℕ
enum_word kind.PrivilegeMode = codes "PrivilegeMode"
enum_word kind.ExceptionCode = codes "ExceptionCode"
enum_word kind.CsrFieldType = codes "CsrFieldType"

abbrev pub signed_word : Bool → List ℕ
signed_word true = codes "signed "
signed_word false = []

abbrev pub shape_text : Shape → List ℕ
shape_text (shape.Bits signed width) = signed_word signed ++ codes "Bits<" ++ width_text width ++ codes ">"
shape_text shape.Boolean = codes "Boolean"
shape_text (shape.Enum kind) = enum_word kind

-- ---- expressions: 1 is unary, 2 binary or ternary

abbrev pub unary_word : Unary → List ℕ
unary_word unary.Not = codes "!"
unary_word unary.Invert = codes "~"
unary_word unary.Minus = codes "-"

abbrev pub binary_word : Binary → List ℕ
binary_word binary.Or = codes " || "
binary_word binary.And = codes " && "
binary_word binary.BitOr = codes " | "
binary_word binary.BitXor = codes " ^ "
binary_word binary.BitAnd = codes " & "
binary_word binary.Equal = codes " == "
binary_word binary.NotEqual = codes " != "
binary_word binary.Below = codes " < "
binary_word binary.AtMost = codes " <= "
binary_word binary.Above = codes " > "
binary_word binary.AtLeast = codes " >= "
binary_word binary.Left = codes " << "
binary_word binary.Right = codes " >> "
binary_word binary.RightSigned = codes " >>> "
binary_word binary.Add = codes " + "
binary_word binary.Sub = codes " - "
binary_word binary.WideAdd = codes " `+ "
binary_word binary.WideSub = codes " `- "
binary_word binary.Mul = codes " * "
binary_word binary.WideMul = codes " `* "
binary_word binary.Div = codes " / "
binary_word binary.Rem = codes " % "

abbrev pub flag_word : Bool → List ℕ
flag_word true = codes "true"
flag_word false = codes "false"

abbrev pub quote_word : Bool → List ℕ
quote_word true = codes "'sd"
quote_word false = codes "'d"

abbrev pub sized_text : Width → Bool → ℕ → List ℕ
sized_text width signed value = within 0 (width_form width) ++ quote_word signed ++ decimal value

abbrev pub member_text : EnumKind → Name → List ℕ
member_text kind name = enum_word kind ++ codes "::" ++ name

-- with a comma and a space between two
abbrev pub commas : List (List ℕ) → List ℕ
commas = join_by (λ text. text) (codes ", ")

-- what stands before the part at a place
abbrev pub separator : ℕ → List ℕ
separator zero = []
separator (suc n) = codes ", "

abbrev pub call_text : Name → List (List ℕ) → List ℕ
call_text name args = name ++ codes "(" ++ commas args ++ codes ")"

abbrev pub resize_word : Width → List ℕ
resize_word width = codes "$resize<" ++ width_text width ++ codes ">("

abbrev pub implemented_word : List ℕ
implemented_word = codes "implemented?(ExtensionName::"

abbrev pub version_word : List ℕ
version_word = codes "implemented_version?(ExtensionName::"

-- the second argument, and the end of the call
abbrev pub version_text : Chars → List ℕ
version_text text = codes ", \"" ++ text ++ codes "\")"

abbrev pub expr_step : Expr-F Form → Form
expr_step (Expr-F.Number n) = (0, decimal n)
expr_step (Expr-F.Sized width signed value) = (0, sized_text width signed value)
expr_step (Expr-F.Text text) = (0, codes "\"" ++ text ++ codes "\"")
expr_step (Expr-F.Flag flag) = (0, flag_word flag)
expr_step (Expr-F.Word name) = (0, name)
expr_step (Expr-F.Member kind name) = (0, member_text kind name)
expr_step (Expr-F.Unary sign a) = (1, unary_word sign ++ within 1 a)
expr_step (Expr-F.Binary sign a b) = (2, within 1 a ++ binary_word sign ++ within 1 b)
expr_step (Expr-F.WideLeft a by) = (2, within 1 a ++ codes " `<< " ++ within 0 (width_form by))
expr_step (Expr-F.Choice test taken other) = (2, within 1 test ++ codes " ? " ++ within 1 taken ++ codes " : " ++ within 1 other)
expr_step (Expr-F.Join es) = (0, codes "{" ++ commas (map (λ e. e.1) es) ++ codes "}")
expr_step (Expr-F.Repeat times a) = (0, codes "{" ++ width_text times ++ codes "{" ++ a.1 ++ codes "}}")
expr_step (Expr-F.Index a at) = (0, within 0 a ++ codes "[" ++ at.1 ++ codes "]")
expr_step (Expr-F.Slice a high low) = (0, within 0 a ++ range_text high low)
expr_step (Expr-F.Call name es) = (0, call_text name (map (λ e. e.1) es))
expr_step (Expr-F.Signed a) = (0, codes "$signed(" ++ a.1 ++ codes ")")
expr_step (Expr-F.Resize width a) = (0, resize_word width ++ a.1 ++ codes ")")
expr_step Expr-F.Pc = (0, codes "$pc")
expr_step Expr-F.Encoding = (0, codes "$encoding")
expr_step (Expr-F.Register a) = (0, codes "X[" ++ a.1 ++ codes "]")
expr_step (Expr-F.Field csr field) = (0, field_text csr field)
expr_step (Expr-F.SoftRead a) = (0, codes "CSR[" ++ a.1 ++ codes "].sw_read()")
expr_step (Expr-F.ReadMemory bits at) = (0, codes "read_memory<" ++ decimal bits ++ codes ">(" ++ at.1 ++ codes ")")
expr_step (Expr-F.NewField name) = (0, codes "csr_value." ++ name)
expr_step Expr-F.Mode = (0, codes "mode()")
expr_step (Expr-F.Implemented name) = (0, implemented_word ++ name ++ codes ")")
expr_step (Expr-F.ImplementedVersion extension text) = (0, version_word ++ extension ++ codes ", \"" ++ text ++ codes "\")")

unfoldable pub expr_form : Expr → Form
expr_form = fold-Expr Form expr_step

abbrev pub expr_text : Expr → List ℕ
expr_text e = (expr_form e).1

-- ---- statements

abbrev pub target_text : Target → List ℕ
target_text (target.Word name) = name
target_text (target.Bit name at) = name ++ codes "[" ++ expr_text at ++ codes "]"
target_text (target.Slice name high low) = name ++ range_text high low
target_text (target.Register at) = codes "X[" ++ expr_text at ++ codes "]"
target_text (target.Field csr field) = field_text csr field

abbrev pub for_text : Name → Width → Width → List ℕ
for_text name from to = codes "for (U32 " ++ name ++ codes " = " ++ width_text from ++ codes "; " ++ name ++ codes " < " ++ width_text to ++ codes "; " ++ name ++ codes "++) {"

abbrev pub if_text : Expr → List ℕ
if_text test = codes "if (" ++ expr_text test ++ codes ") {"

-- each line after a margin
unfoldable pub margined : List ℕ → Lines → Lines
margined margin = map (λ line. margin ++ line)

-- one level further in
abbrev pub indented : Lines → Lines
indented = margined (codes "  ")

-- a block between its first line and its last
abbrev pub enclosed : List ℕ → List Lines → Lines → Lines
enclosed first block last = first ∷ indented (flat_map (λ lines. lines) block) ++ last

abbrev pub else_lines : Option (List Lines) → Lines
else_lines None = codes "}" ∷ []
else_lines (Some block) = enclosed (codes "} else {") block (codes "}" ∷ [])

-- the first line of a statement, which is its whole text where it has no block
abbrev pub first_line : {A : Type 0} → Stmt-F A → List ℕ
first_line (Stmt-F.Declare shape name value) = shape_text shape ++ codes " " ++ name ++ codes " = " ++ expr_text value ++ codes ";"
first_line (Stmt-F.Assign target value) = target_text target ++ codes " = " ++ expr_text value ++ codes ";"
first_line (Stmt-F.Block block) = codes "{"
first_line (Stmt-F.Return value) = codes "return " ++ expr_text value ++ codes ";"
first_line (Stmt-F.If test taken other) = if_text test
first_line (Stmt-F.For name from to block) = for_text name from to
first_line (Stmt-F.Jump to) = codes "jump(" ++ expr_text to ++ codes ");"
first_line (Stmt-F.Raise cause tval) = codes "raise(" ++ expr_text cause ++ codes ", mode(), " ++ expr_text tval ++ codes ");"
first_line (Stmt-F.WriteMemory bits at value) = codes "write_memory<" ++ decimal bits ++ codes ">(" ++ expr_text at ++ codes ", " ++ expr_text value ++ codes ");"
first_line (Stmt-F.SoftWrite address value) = codes "CSR[" ++ expr_text address ++ codes "].sw_write(" ++ expr_text value ++ codes ");"
first_line (Stmt-F.Call name args) = call_text name (map expr_text args) ++ codes ";"

-- the lines of its blocks, each up to what closes it
abbrev pub lines_after_first : Stmt-F Lines → Lines
lines_after_first (Stmt-F.Block block) = indented (flat_map (λ lines. lines) block) ++ (codes "}" ∷ [])
lines_after_first (Stmt-F.If test taken other) = indented (flat_map (λ lines. lines) taken) ++ else_lines other
lines_after_first (Stmt-F.For name from to block) = indented (flat_map (λ lines. lines) block) ++ (codes "}" ∷ [])
lines_after_first _ = []

abbrev pub lines_step : Stmt-F Lines → Lines
lines_step layer = first_line layer ∷ lines_after_first layer

unfoldable pub stmt_lines : Stmt → Lines
stmt_lines = fold-Stmt Lines lines_step

abbrev pub lines_of_statements : List Stmt → Lines
lines_of_statements = flat_map stmt_lines

abbrev pub body_lines : Body → Lines
body_lines body = lines_of_statements body.statements

abbrev pub body_text : Body → List ℕ
body_text body = text_of_lines (body_lines body)
