-- Machinery: readers of widths, from left to right, one for each production. A reader answers the
-- width, whether it may be multiplied, and its nesting, which is at most the limit.
use Rattle.std.specs.Prelude.{ℕ, zero, suc, max, Bool, true, false, if◌then◌else◌, nat_lt, Option, Some, None}
use Rattle.idl_token.specs.declared.kinds.Reserved.TheVariants as r
use Rattle.idl_token.specs.declared.kinds.Special.TheVariants as p
use Rattle.idl_token.specs.declared.kinds.Sign.TheVariants as s
use Rattle.idl_tree.specs.declared.widths.Width.{Width}
use Rattle.idl_tree.specs.declared.widths.Width.TheVariants as w
use Rattle.idl_token.specs.Symbol.{Symbol}
use Rattle.idl_token.specs.Symbol as t
use Rattle.idl_grammar.specs.Tables.{summing, is_short}
use Rattle.idl_grammar.specs.Outcome.{Reader, ◌>>=◌, ◌>>◌, pure, refuse, Move, take, stop, pass, choose, among, expect, name, deeper}

-- a width, whether it may be multiplied, its nesting
abbrev pub Found : Type 0
Found = Width × Bool × ℕ

-- what is read: an atom, a term, or a whole width; a factor is an atom that may be multiplied, and
-- a product a term that may stand in a factor's parentheses
pub data Part : Type 0 where
  atom : Part
  term : Part
  whole : Part
  factor : Part
  product : Part

abbrev pub bits_by : Symbol → Move Found
bits_by (t.word x) = take (do expect s.CloseParen; pure (w.Bits None x, true, 0))
bits_by (t.reserved r.Csr) = take (do
  expect s.OpenBracket
  x ← name
  expect s.CloseBracket
  expect s.Dot
  y ← name
  expect s.CloseParen
  pure (w.Bits (Some x) y, true, 0))
bits_by _ = stop

-- behind `$bits`: "(" ( word | "CSR" "[" word "]" "." word ) ")"
unfoldable pub bits : Reader Found
bits = do expect s.OpenParen; among bits_by

-- a number, where it isn't past the limit of numbers
abbrev pub short_by : ℕ → Reader Found → Move Found
short_by k p = if is_short k then take p else stop

-- Within a nesting of at most n; inner reads within one less, and is asked only where n isn't 0.
module _ (n : ℕ) (inner : Part → Reader Found) where
  -- an operator, its right operand, and what follows
  abbrev pub sum_by : (Found → Reader Found) → Found → Option (Width → Width → Width) → Move Found
  sum_by again x None = pass
  sum_by again x (Some op) = if nat_lt x.2 n then take (do y ← inner term; again (op x.0 y.0, false, suc (max x.2 y.2))) else stop

  abbrev pub sums_by : (Found → Reader Found) → Found → Symbol → Move Found
  sums_by again x (t.sign c) = sum_by again x (summing c)
  sums_by again x _ = pass

  -- sums = { ( "+" | "-" ) term }
  unfoldable pub sums : ℕ → Found → Reader Found
  sums zero x = choose (sums_by (λ _. refuse) x) (pure x)
  sums (suc f) x = choose (sums_by (sums f) x) (pure x)

  -- behind the parenthesis of an atom: term sums ")"
  unfoldable pub parens : Reader Found
  parens = do
    x ← inner term
    y ← sums n x
    expect s.CloseParen
    pure (y.0, y.1, max (suc x.2) y.2)

  -- behind the parenthesis of a factor: product ")"
  unfoldable pub factor_parens : Reader Found
  factor_parens = do
    x ← inner product
    expect s.CloseParen
    pure (x.0, x.1, suc x.2)

  -- behind `max`: "(" width "," width ")"
  unfoldable pub greatest : Reader Found
  greatest = do
    expect s.OpenParen
    a ← inner whole
    expect s.Comma
    b ← inner whole
    expect s.CloseParen
    pure (w.Max a.0 b.0, false, suc (max a.2 b.2))

  abbrev pub atom_by : Bool → Symbol → Move Found
  atom_by m (t.number k) = short_by k (pure (w.Number k, true, 0))
  atom_by m (t.word x) = take (pure (w.Word x, true, 0))
  atom_by m (t.special p.WidthOf) = take bits
  atom_by true (t.sign s.OpenParen) = deeper n factor_parens
  atom_by false (t.sign s.OpenParen) = deeper n parens
  atom_by false (t.reserved r.Max) = deeper n greatest
  atom_by _ _ = stop

  -- atom = number | word | "$bits" .. | "(" term sums ")" | "max" .., and where the flag stands
  -- factor = number | word | "$bits" .. | "(" product ")"
  unfoldable pub atoms : Bool → Reader Found
  atoms m = among (atom_by m)

  abbrev pub number_by : Found → Symbol → Move Found
  number_by x (t.number k) = short_by k (pure (w.Times x.0 (w.Number k), true, suc x.2))
  number_by x _ = stop

  -- after a factor: its sign and a number
  abbrev pub times_by : Found → Symbol → Move Found
  times_by x (t.sign s.Times) = if x.1 then (if nat_lt x.2 n then take (among (number_by x)) else stop) else pass
  times_by x _ = pass

  -- behind a term: [ "*" number ], where it may be multiplied
  unfoldable pub multiplied : Found → Reader Found
  multiplied x = choose (times_by x) (pure x)

  -- after a number
  abbrev pub factor_by : ℕ → Symbol → Move Found
  factor_by k (t.sign s.Times) = deeper n (do y ← inner factor; pure (w.Times (w.Number k) y.0, true, suc y.2))
  factor_by k _ = pass

  -- behind a number: [ "*" factor ]
  unfoldable pub after_number : ℕ → Reader Found
  after_number k = choose (factor_by k) (pure (w.Number k, true, 0))

  abbrev pub term_by : Symbol → Move Found
  term_by (t.number k) = short_by k (after_number k)
  term_by _ = pass

  -- term = number after_number | atom multiplied, and where the flag stands
  -- product = number after_number | factor multiplied
  unfoldable pub terms : Bool → Reader Found
  terms m = choose term_by (do x ← atoms m; multiplied x)

  -- the part of a width; width = term sums
  unfoldable pub level : Part → Reader Found
  level atom = atoms false
  level term = terms false
  level whole = do x ← terms false; sums n x
  level factor = atoms true
  level product = terms true

-- a part of a width, of nesting at most the number
unfoldable pub width_part : ℕ → Part → Reader Found
width_part zero = level zero (λ _. refuse)
width_part (suc n) = level (suc n) (width_part n)

-- a whole width and its nesting
abbrev pub width : ℕ → Reader (Width × ℕ)
width n = do x ← width_part n whole; pure (x.0, x.2)
