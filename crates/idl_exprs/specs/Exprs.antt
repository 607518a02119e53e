-- Parts of expressions as the grammar sees them, and what comes next.
use Rattle.std.specs.Prelude.{ℕ, suc, max, nat_eq, nat_le, nat_lt, if◌then◌else◌, ◌&&◌, Bool, true, false, List, Option, Some, None, Result, Ok, Err, IfOk, ◌≤◌}
use Rattle.idl_token.specs.declared.kinds.Sign.TheVariants as s
use Rattle.idl_tree.specs.declared.expressions.Unary.{Unary}
use Rattle.idl_tree.specs.declared.expressions.Expr.{Expr}
use Rattle.idl_tree.specs.declared.expressions.Expr.TheVariants as e
use Rattle.idl_token.specs.Symbol.{Symbol}
use Rattle.idl_token.specs.Symbol as t
use Rattle.idl_grammar.specs.Tables.{Infix, plain, wide, binding, unary_of, is_access, mxlen}
use Rattle.idl_grammar.specs.ExprGrammar as g
use Rattle.idl_grammar.specs.Outcome.{Outcome, Reader, refuse, farther, ◌>>=◌, ◌>>◌, pure, among, expect}
use Rattle.idl_grammar.specs.WidthReader as wr
use Rattle.idl_grammar.specs.ExprReader as er
use Rattle.idl_grammar.specs.ExprReader.{Found}
use Rattle.idl_token.specs.declared.views.Seen.{Seen}
use Rattle.idl_token.specs.Seen.{symbols}
use Rattle.idl_exprs.specs.Gives.{Gives, ahead}
use Rattle.idl_exprs.specs.declared.cursor.Cursor.{Cursor}
use Rattle.idl_exprs.specs.declared.exprs.ExprPart.{ExprPart}
use Rattle.idl_exprs.specs.declared.exprs.ExprPart.TheVariants as part
use Rattle.idl_exprs.specs.declared.exprs.Inside.{Inside}
use Rattle.idl_exprs.specs.declared.exprs.Inside.TheVariants as held
use Rattle.idl_exprs.specs.declared.exprs.Operator.{Operator}
use Rattle.idl_exprs.specs.declared.exprs.Operator.TheVariants as op
use Rattle.idl_exprs.specs.declared.farther.Ended.{Ended}
use Rattle.idl_exprs.specs.declared.farther.Ended.TheVariants as end
use Rattle.idl_exprs.specs.declared.farther.Counts.{Counts}
use Rattle.idl_exprs.specs.declared.farther.Counts.TheVariants as one
use Rattle.idl_exprs.specs.declared.stop.Stop.{Stop}
use Rattle.idl_exprs.specs.declared.stop.Stop.TheVariants as stopped

abbrev pub inside_of : Inside → g.Inside
inside_of (held.Place x) = g.place x
inside_of (held.Slice high low) = g.slice high low

abbrev pub part_of : ExprPart → er.Part
part_of (part.Tight k) = er.tight k
part_of part.Any = er.any
part_of (part.Behind w) = er.behind w.now

-- what is asked for, of nesting at most the number
abbrev pub expr_of : ℕ → ExprPart → Reader Found
expr_of n part = er.expr_part n (part_of part)

-- ---- signs

abbrev pub operator_of : Operator → Infix
operator_of (op.Plain x) = plain x
operator_of op.Wide = wide

abbrev pub leveled : Option (ℕ × Operator) → Option (ℕ × Infix)
leveled None = None
leveled (Some x) = Some (x.0, operator_of x.1)

abbrev pub at_level : ℕ → Option (ℕ × Infix) → Option Infix
at_level k None = None
at_level k (Some (j, x)) = if nat_eq j k then Some x else None

-- the sign of a level that comes next
abbrev pub operator_at : ℕ → Option Symbol → Option Infix
operator_at k (Some (t.sign c)) = at_level k (binding c)
operator_at k _ = None

-- the sign between two operands that comes next, of a level that isn't below the first number and is
-- below the second
abbrev pub between : ℕ → ℕ → Option (ℕ × Infix) → Option (ℕ × Infix)
between k l None = None
between k l (Some (j, x)) = if nat_le k j && nat_lt j l then Some (j, x) else None

abbrev pub next_operator : ℕ → ℕ → Option Symbol → Option (ℕ × Infix)
next_operator k l (Some (t.sign c)) = between k l (binding c)
next_operator k l _ = None

abbrev pub unary_at : Option Symbol → Option Unary
unary_at (Some (t.sign c)) = unary_of c
unary_at _ = None

-- after the sign before an operand
abbrev pub signed : (er.Part → Reader Found) → Unary → Reader Found
signed inner sign = do
  x ← inner (er.tight 0)
  pure (e.Unary sign x.0, suc x.1)

-- after an operand and a question mark
abbrev pub sides : (er.Part → Reader Found) → Found → Reader Found
sides inner x = do
  y ← inner er.any
  expect s.Colon
  z ← inner er.any
  pure (e.Choice x.0 y.0 z.0, suc (max x.1 (max y.1 z.1)))

-- after an operand and the left shift that widens
abbrev pub wide_right : ℕ → Found → Reader Found
wide_right n x = do a ← wr.width_part n wr.atom; pure (e.WideLeft x.0 a.0, suc (max x.1 a.2))

-- ---- operands that hold no expression

abbrev pub access_at : ℕ → Option ℕ
access_at k = if is_access k then Some k else None

-- the name of an extension; the grammar's reader reads nothing that nests
abbrev pub extension : Reader (List ℕ)
extension = er.extension 0 (λ _. refuse)

-- the width of registers
abbrev pub xlen : Expr
xlen = e.Word mxlen

abbrev pub quoted : Reader (List ℕ)
quoted = among (er.text_by 0 (λ _. refuse))

-- after the name of a CSR, the word for its reading and the opening parenthesis
abbrev pub word_read : List ℕ → Reader Found
word_read x = do expect s.CloseParen; pure (e.SoftRead (e.Word x), 2)

abbrev pub inside : Inside × ℕ → g.Inside × ℕ
inside x = (inside_of x.0, x.1)

-- ---- two readings of one text, by how they ended and what they left

-- the first from the old cursor to the end, the second from there to the cursor
abbrev pub Chooses : {X Y : Type 0} → (X → Y) → Result X Stop → List Seen → Result X Stop → Cursor → Result X Stop → Cursor → Type 0
Chooses {Y = Y} view first end second old result new =
    (p q : Outcome Y) → Gives view p first (symbols end) → Gives view q second (ahead old) → Gives view (farther p q) result (ahead new)

-- what is chosen nests no deeper than both
abbrev pub NoDeeper : {X : Type 0} → Result (X × ℕ) Stop → Result (X × ℕ) Stop → Result (X × ℕ) Stop → Type 0
NoDeeper first second result = (n : ℕ) → IfOk first (λ x. x.1 ≤ n) → IfOk second (λ x. x.1 ≤ n) → IfOk result (λ x. x.1 ≤ n)

abbrev pub how_ended : {X : Type 0} → Result X Stop → Ended
how_ended (Ok x) = end.Value
how_ended (Err stopped.Fault) = end.Fault
how_ended (Err stopped.Memory) = end.Memory

abbrev pub which_counts : Ended → ℕ → Ended → ℕ → Counts
which_counts end.Memory m b n = one.Neither
which_counts end.Value m end.Memory n = one.Neither
which_counts end.Value m b n = if nat_le m n then one.First else one.Second
which_counts end.Fault m end.Memory n = one.Neither
which_counts end.Fault m b n = if nat_le n m then one.Second else one.First
