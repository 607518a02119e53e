-- Statement: the precedence of the signs that stand between two operands.
use Rattle.std.specs.Prelude.{ℕ, Option, Some, None}
use Rattle.idl_token.specs.declared.kinds.Sign.{Sign}
use Rattle.idl_token.specs.declared.kinds.Sign.TheVariants as s

-- how loosely a sign binds, from the products, which bind tightest, on
abbrev pub precedence : Sign → Option ℕ
precedence s.Times = Some 0
precedence s.WideTimes = Some 0
precedence s.Divide = Some 0
precedence s.Remainder = Some 0
precedence s.Plus = Some 1
precedence s.Minus = Some 1
precedence s.WidePlus = Some 1
precedence s.WideMinus = Some 1
precedence s.Left = Some 2
precedence s.Right = Some 2
precedence s.RightSigned = Some 2
precedence s.WideLeft = Some 2
precedence s.Less = Some 3
precedence s.AtMost = Some 3
precedence s.Greater = Some 3
precedence s.AtLeast = Some 3
precedence s.Equal = Some 4
precedence s.NotEqual = Some 4
precedence s.Ampersand = Some 5
precedence s.Caret = Some 6
precedence s.Bar = Some 7
precedence s.And = Some 8
precedence s.Or = Some 9
precedence _ = None

-- how many levels there are
abbrev pub loosest : ℕ
loosest = 10
