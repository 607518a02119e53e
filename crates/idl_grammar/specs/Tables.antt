-- Statement: which signs and words stand for which forms of the tree.
use Rattle.std.specs.Prelude.{ℕ, Bool, true, false, ◌||◌, ◌==◌, List, codes, Option, None, Some}
use Rattle.idl_token.specs.declared.kinds.Reserved.{Reserved}
use Rattle.idl_token.specs.declared.kinds.Reserved.TheVariants as r
use Rattle.idl_token.specs.declared.kinds.Sign.{Sign}
use Rattle.idl_token.specs.declared.kinds.Sign.TheVariants as s
pub use Rattle.idl_token.specs.Precedence.{precedence, loosest}
pub use Rattle.idl_token.specs.Numbers.{is_short}
use Rattle.idl_token.specs.Numbers as numbers
use Rattle.idl_token.specs.Numbers.{SizedWidth}
use Rattle.idl_tree.specs.declared.widths.Width.{Width}
use Rattle.idl_tree.specs.declared.widths.Width.TheVariants as w
use Rattle.idl_tree.specs.declared.widths.EnumKind.{EnumKind}
use Rattle.idl_tree.specs.declared.widths.EnumKind.TheVariants as kind
use Rattle.idl_tree.specs.declared.expressions.Unary.{Unary}
use Rattle.idl_tree.specs.declared.expressions.Unary.TheVariants as u
use Rattle.idl_tree.specs.declared.expressions.Binary.{Binary}
use Rattle.idl_tree.specs.declared.expressions.Binary.TheVariants as b

-- what stands between two operands: a binary form, or the left shift that widens by a width
pub data Infix : Type 0 where
  plain : Binary → Infix
  wide : Infix

-- the form of a sign between two operands
abbrev pub infix_of : Sign → Option Infix
infix_of s.Times = Some (plain b.Mul)
infix_of s.WideTimes = Some (plain b.WideMul)
infix_of s.Divide = Some (plain b.Div)
infix_of s.Remainder = Some (plain b.Rem)
infix_of s.Plus = Some (plain b.Add)
infix_of s.Minus = Some (plain b.Sub)
infix_of s.WidePlus = Some (plain b.WideAdd)
infix_of s.WideMinus = Some (plain b.WideSub)
infix_of s.Left = Some (plain b.Left)
infix_of s.Right = Some (plain b.Right)
infix_of s.RightSigned = Some (plain b.RightSigned)
infix_of s.WideLeft = Some wide
infix_of s.Less = Some (plain b.Below)
infix_of s.AtMost = Some (plain b.AtMost)
infix_of s.Greater = Some (plain b.Above)
infix_of s.AtLeast = Some (plain b.AtLeast)
infix_of s.Equal = Some (plain b.Equal)
infix_of s.NotEqual = Some (plain b.NotEqual)
infix_of s.Ampersand = Some (plain b.BitAnd)
infix_of s.Caret = Some (plain b.BitXor)
infix_of s.Bar = Some (plain b.BitOr)
infix_of s.And = Some (plain b.And)
infix_of s.Or = Some (plain b.Or)
infix_of _ = None

-- of two that may be missing, both
abbrev pub zip : Option ℕ → Option Infix → Option (ℕ × Infix)
zip (Some k) (Some op) = Some (k, op)
zip _ _ = None

-- the precedence of a sign between two operands, and its form
abbrev pub binding : Sign → Option (ℕ × Infix)
binding c = zip (precedence c) (infix_of c)

-- what stands before an operand
abbrev pub unary_of : Sign → Option Unary
unary_of s.Not = Some u.Not
unary_of s.Tilde = Some u.Invert
unary_of s.Minus = Some u.Minus
unary_of _ = None

-- the sums of widths
abbrev pub summing : Sign → Option (Width → Width → Width)
summing s.Plus = Some w.Plus
summing s.Minus = Some w.Minus
summing _ = None

abbrev pub enum_of : Reserved → Option EnumKind
enum_of r.PrivilegeMode = Some kind.PrivilegeMode
enum_of r.ExceptionCode = Some kind.ExceptionCode
enum_of r.CsrFieldType = Some kind.CsrFieldType
enum_of _ = None

-- how many bits an access to memory has
abbrev pub is_access : ℕ → Bool
is_access n = n == 8 || (n == 16 || (n == 32 || n == 64))

-- the width of a sized number, if it is none past the limit
abbrev pub width_if : Bool → Width → Option Width
width_if true v = Some v
width_if false v = None

abbrev pub sized_width : SizedWidth → Option Width
sized_width (numbers.Number n) = width_if (is_short n) (w.Number n)
sized_width (numbers.Parameter x) = Some (w.Word x)

-- the parameter that `XReg` and `xlen()` stand for
abbrev pub mxlen : List ℕ
mxlen = codes "MXLEN"

-- the words of the two accesses to a CSR as software sees it
abbrev pub sw_read : List ℕ
sw_read = codes "sw_read"

abbrev pub sw_write : List ℕ
sw_write = codes "sw_write"
