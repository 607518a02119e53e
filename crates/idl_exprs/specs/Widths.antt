-- Parts of widths and signs of sums, as the grammar sees them.
use Rattle.std.specs.Prelude.{ℕ, Bool, true, List, Option, Some, None}
use Rattle.idl_token.specs.declared.kinds.Sign.TheVariants as s
use Rattle.idl_tree.specs.declared.widths.Width.{Width}
use Rattle.idl_tree.specs.declared.widths.Width.TheVariants as w
use Rattle.idl_token.specs.Symbol.{Symbol}
use Rattle.idl_token.specs.Symbol as t
use Rattle.idl_grammar.specs.Outcome.{Reader, ◌>>=◌, ◌>>◌, pure, expect, name}
use Rattle.idl_grammar.specs.WidthReader as wr
use Rattle.idl_exprs.specs.Gives.{in_width}
use Rattle.idl_exprs.specs.declared.widths.SumSign.{SumSign}
use Rattle.idl_exprs.specs.declared.widths.SumSign.TheVariants as a
use Rattle.idl_exprs.specs.declared.widths.WidthPart.{WidthPart}
use Rattle.idl_exprs.specs.declared.widths.WidthPart.TheVariants as p

abbrev pub part_of : WidthPart → wr.Part
part_of p.Atom = wr.atom
part_of p.Term = wr.term
part_of p.Whole = wr.whole
part_of p.Factor = wr.factor
part_of p.Product = wr.product

-- the sign of a sum that comes next
abbrev pub sum_sign_at : Option Symbol → Option SumSign
sum_sign_at (Some (t.sign s.Plus)) = Some a.Plus
sum_sign_at (Some (t.sign s.Minus)) = Some a.Minus
sum_sign_at _ = None

abbrev pub sum_of : SumSign → Width → Width → Width
sum_of a.Plus = w.Plus
sum_of a.Minus = w.Minus

-- after the word for CSRs, in what asks for the width of a field
abbrev pub field_bits : Reader wr.Found
field_bits = do
  expect s.OpenBracket
  x ← name
  expect s.CloseBracket
  expect s.Dot
  y ← name
  expect s.CloseParen
  pure (w.Bits (Some x) y, true, 0)

-- the same after a word
abbrev pub word_bits : List ℕ → Reader wr.Found
word_bits x = do expect s.CloseParen; pure (w.Bits None x, true, 0)

-- an atom and its nesting
abbrev pub atom : ℕ → Reader (Width × ℕ)
atom n = do x ← wr.width_part n wr.atom; pure (x.0, x.2)

-- ---- what may follow a term, and what may follow an atom

abbrev pub sums : ℕ → Width → Bool → ℕ → Reader wr.Found
sums n x may h = in_width wr.sums n n (x, may, h)

abbrev pub multiplied : ℕ → Width → Bool → ℕ → Reader wr.Found
multiplied n x may h = in_width wr.multiplied n (x, may, h)
