-- Where the reading of an expression stands, as what is still to be read from there. A level that
-- reads within a nesting of suc n has its parts read within n; q is what the level reads.
use Rattle.std.specs.Prelude.{◌≡◌, ◌≤◌, ◌+◌, ◌-◌, ◌*◌, ℕ, zero, suc, max, Bool, true, false, if◌then◌else◌, Result, Ok, Err, List}
use Rattle.idl_token.specs.declared.kinds.Sign.{Sign}
use Rattle.idl_token.specs.declared.kinds.Sign.TheVariants as s
use Rattle.idl_tree.specs.declared.expressions.Expr.{Expr}
use Rattle.idl_tree.specs.declared.expressions.Expr.TheVariants as e
use Rattle.idl_token.specs.Symbol.{Symbol}
use Rattle.idl_grammar.specs.Tables.{loosest, sw_read}
use Rattle.idl_grammar.specs.ExprGrammar as g
use Rattle.idl_grammar.specs.Outcome.{Outcome, Reader, Move, moved, refuse, ◌>>=◌, ◌>>◌, pure, want, expect, is_word, commas}
use Rattle.idl_grammar.specs.ExprReader as er
use Rattle.idl_grammar.specs.ExprReader.{Found}
use Rattle.idl_exprs.specs.declared.cursor.Cursor.{Cursor}
use Rattle.idl_exprs.specs.declared.exprs.ExprPart.{ExprPart}
use Rattle.idl_exprs.specs.declared.exprs.Operator.{Operator}
use Rattle.idl_exprs.specs.declared.exprs.Operator.TheVariants as op
use Rattle.idl_exprs.specs.declared.progress.Open.{Open}
use Rattle.idl_exprs.specs.declared.progress.Open.TheVariants as hold
use Rattle.idl_exprs.specs.declared.progress.Opening.{Opening}
use Rattle.idl_exprs.specs.declared.progress.Opening.TheVariants as opening
use Rattle.idl_exprs.specs.declared.progress.Place.{Place}
use Rattle.idl_exprs.specs.declared.progress.Place.TheVariants as at
use Rattle.idl_exprs.specs.declared.progress.Hole.{Hole}
use Rattle.idl_exprs.specs.declared.progress.Hole.TheVariants as hole
use Rattle.idl_exprs.specs.declared.progress.Step.{Step}
use Rattle.idl_exprs.specs.declared.progress.Step.TheVariants as step
use Rattle.idl_exprs.specs.declared.stop.Stop.{Stop}
use Rattle.idl_exprs.specs.Exprs as piece
use Rattle.idl_exprs.specs.Gives.{Fails, ahead}

-- ---- atoms

abbrev pub hole_part : Open → er.Part
hole_part (hold.Address p) = piece.part_of p
hole_part _ = er.any

abbrev pub closing_sign : Open → Sign
closing_sign hold.Register = s.CloseBracket
closing_sign _ = s.CloseParen

-- the greater nesting of what an atom holds
abbrev pub highest : Open → ℕ → ℕ
highest (hold.Resize a h) i = max i h
highest _ i = i

abbrev pub held : Open → Expr → Expr
held hold.AsSigned x = e.Signed x
held (hold.Resize a h) x = e.Resize a x
held hold.Register x = e.Register x
held (hold.Memory k) x = e.ReadMemory k x
held (hold.Address p) x = e.SoftRead x

abbrev pub address : Found → Reader Found
address x = do
  expect s.CloseBracket
  expect s.Dot
  want (is_word sw_read)
  expect s.OpenParen
  expect s.CloseParen
  pure (e.SoftRead x.0, suc x.1)

-- the sign behind what was read
abbrev pub before_sign : Sign → Expr → ℕ → Reader Found
before_sign c x h = do expect c; pure (x, h)

abbrev pub closed : Open → Found → Reader Found
closed a x = before_sign (closing_sign a) (held a x.0) (suc (highest a x.1))

-- behind the expression that an atom holds
abbrev pub closes : Open → Found → Reader Found
closes (hold.Address p) x = address x
closes a x = closed a x

-- behind an opening parenthesis and before an argument
abbrev pub arguments : ℕ → List ℕ → Reader Found
arguments n x = do
  xs ← commas (er.expr n)
  expect s.CloseParen
  pure (e.Call x xs.0, suc xs.1)

abbrev pub opens : ℕ → Opening → Reader Found
opens n (opening.Whole x h) = pure (x, h)
opens n (opening.Open a) = do x ← er.expr_part n (hole_part a); closes a x
opens n opening.Parens = er.parens n (er.expr_part n)
opens n opening.Braces = er.braced n (er.expr_part n)
opens n (opening.Arguments x) = arguments n x

-- by what comes next
abbrev pub moved_by : {A : Type 0} → (ℕ → (er.Part → Reader Found) → A → Move Found) → ℕ → A → Reader Found
moved_by f n x = moved (f n (er.expr_part n) x) refuse

abbrev pub atom_at : ℕ → Symbol → Reader Found
atom_at = moved_by er.atom_by

abbrev pub Opens : ℕ → Reader Found → Cursor → Result Opening Stop → Cursor → Type 0
Opens n p old (Ok x) new = p (ahead old) ≡ opens n x (ahead new)
Opens n p old (Err e) new = Fails (p (ahead old)) e (ahead new)

-- of a reader that holds no expression, whatever may nest
abbrev pub OpensEach : (ℕ → (er.Part → Reader Found) → Reader Found) → Cursor → Result Opening Stop → Cursor → Type 0
OpensEach p old result new = (n : ℕ) → Opens n (p n (er.expr_part n)) old result new

abbrev pub OpenFits : ℕ → Open → Type 0
OpenFits n (hold.Resize a h) = h ≤ n
OpenFits n _ = Unit {0}

abbrev pub OpeningFits : ℕ → Opening → Type 0
OpeningFits n (opening.Whole x h) = h ≤ n + 1
OpeningFits n (opening.Open a) = OpenFits n a
OpeningFits n _ = Unit {0}

abbrev pub OpensSmall : ℕ → Result Opening Stop → Type 0
OpensSmall n (Ok x) = OpeningFits n x
OpensSmall n (Err e) = Unit {0}

-- ---- behind an operand

-- before which level the signs of a level end
abbrev pub limit : er.Part → ℕ
limit (er.tight k) = k
limit er.any = loosest
limit (er.behind x) = loosest

abbrev pub upto : er.Part → Place → ℕ
upto q at.Outside = limit q
upto q (at.Parens low) = loosest

-- the signs of as many levels, from a level on, with their right operands
unfoldable pub climb : ℕ → ℕ → ℕ → Found → Reader Found
climb n zero k x = pure x
climb n (suc d) k x = do y ← er.more n (er.expr_part n) (suc n) k x; climb n d (suc k) y

abbrev pub choice : ℕ → Found → Reader Found
choice n = er.choice n (er.expr_part n)

-- where no sign of a level follows any more
abbrev pub ends : ℕ → er.Part → Found → Reader Found
ends n (er.tight k) x = pure x
ends n er.any x = choice n x
ends n (er.behind w) x = choice n x

unfoldable pub outside : ℕ → er.Part → ℕ → Found → Reader Found
outside n q k x = do y ← climb n (limit q - k) k x; ends n q y

-- behind an operand, which brackets may follow
unfoldable pub operand : ℕ → er.Part → Found → Reader Found
operand n q x = do y ← er.parts n (er.expr_part n) (suc n) x; outside n q 0 y

-- before a closing parenthesis, where what was read first behind the opening one had that nesting
abbrev pub shut : ℕ → er.Part → ℕ → Found → Reader Found
shut n q low x = do expect s.CloseParen; operand n q (x.0, max (suc low) x.1)

unfoldable pub within : ℕ → er.Part → ℕ → ℕ → Found → Reader Found
within n q low k x = do
  y ← climb n (loosest - k) k x
  z ← choice n y
  shut n q low z

-- where a choice is read
abbrev pub chosen : ℕ → er.Part → Place → Found → Reader Found
chosen n q at.Outside x = pure x
chosen n q (at.Parens low) x = shut n q low x

-- where no sign follows any more
abbrev pub topped : ℕ → er.Part → Place → Found → Reader Found
topped n q at.Outside x = ends n q x
topped n q (at.Parens low) x = do y ← choice n x; shut n q low y

-- where signs of a level and of looser ones may follow
abbrev pub onward : ℕ → er.Part → Place → ℕ → Found → Reader Found
onward n q at.Outside k x = outside n q k x
onward n q (at.Parens low) k x = within n q low k x

-- ---- steps

-- behind the first side of a choice, where its test and that side nest so deep
abbrev pub second_side : ℕ → er.Part → Expr → Expr → ℕ → Place → Reader Found
second_side n q x y h place = do
  expect s.Colon
  z ← er.expr n
  chosen n q place (e.Choice x y z.0, suc (max h z.1))

-- behind the arguments of a call
abbrev pub called : ℕ → er.Part → List ℕ → List Expr × ℕ → Reader Found
called n q w xs = do expect s.CloseParen; operand n q (e.Call w xs.0, suc xs.1)

abbrev pub asks : Hole → er.Part
asks (hole.Open a) = hole_part a
asks (hole.Signed op) = er.tight 0
asks hole.Parens = er.tight 0
asks (hole.Right k op x h place) = er.tight k
asks (hole.Yes x h place) = er.any
asks (hole.No x y h place) = er.any

-- behind the expression that was asked for
abbrev pub fills : ℕ → er.Part → Hole → Found → Reader Found
fills n q (hole.Open a) x = do y ← closes a x; operand n q y
fills n q (hole.Signed op) x = outside n q 0 (e.Unary op x.0, suc x.1)
fills n q hole.Parens x = within n q x.1 0 x
fills n q (hole.Right k op x h place) y = onward n q place k (e.Binary op x y.0, suc (max h y.1))
fills n q (hole.Yes x h place) y = second_side n q x y.0 (max h y.1) place
fills n q (hole.No x y h place) z = chosen n q place (e.Choice x y z.0, suc (max h z.1))

-- what is read from a step on
abbrev pub awaits : ℕ → er.Part → Step → Reader Found
awaits n q (step.Done x h) = pure (x, h)
awaits n q (step.Operand x h) = operand n q (x, h)
awaits n q (step.Inner a) = do x ← er.expr_part n (asks a); fills n q a x
awaits n q (step.Arguments w) = do xs ← commas (er.expr n); called n q w xs
awaits n q step.Braces = do x ← er.braced n (er.expr_part n); operand n q x
awaits n q (step.Brackets x h) = do
  j ← er.inside n (er.expr n)
  operand n q (g.part_of x j.0, suc (max h j.1))
awaits n q (step.Wide k x h place) = do y ← piece.wide_right n (x, h); onward n q place k y

abbrev pub Leads : ℕ → er.Part → Outcome Found → Result Step Stop → List Symbol → Type 0
Leads n q whole (Ok x) new = whole ≡ awaits n q x new
Leads n q whole (Err e) new = Fails whole e new

-- the first operand of a level, and what follows it
abbrev pub begun : ℕ → er.Part → Reader Found
begun n q = do x ← er.operand n (er.expr_part n); outside n q 0 x

-- ---- what the functions of a step tell: what was to be read is what is to be read behind it

abbrev pub LeadsBy : ℕ → ExprPart → (er.Part → Reader Found) → Cursor → Result Step Stop → Cursor → Type 0
LeadsBy n part p old result new = Leads n (piece.part_of part) (p (piece.part_of part) (ahead old)) result (ahead new)

abbrev pub Level : ℕ → ExprPart → Cursor → Result Step Stop → Cursor → Type 0
Level n part = LeadsBy n part (er.level n (er.expr_part n))

abbrev pub FirstOperand : ℕ → ExprPart → Cursor → Result Step Stop → Cursor → Type 0
FirstOperand n part = LeadsBy n part (begun n)

abbrev pub BehindOperand : ℕ → ExprPart → Expr → ℕ → Cursor → Result Step Stop → Cursor → Type 0
BehindOperand n part x h = LeadsBy n part (λ q. operand n q (x, h))

abbrev pub Onward : ℕ → ExprPart → Place → ℕ → Expr → ℕ → Cursor → Result Step Stop → Cursor → Type 0
Onward n part place k x h = LeadsBy n part (λ q. onward n q place k (x, h))

abbrev pub Topped : ℕ → ExprPart → Place → Expr → ℕ → Cursor → Result Step Stop → Cursor → Type 0
Topped n part place x h = LeadsBy n part (λ q. topped n q place (x, h))

abbrev pub Chosen : ℕ → ExprPart → Place → Expr → ℕ → Cursor → Result Step Stop → Cursor → Type 0
Chosen n part place x h = LeadsBy n part (λ q. chosen n q place (x, h))

abbrev pub Second : ℕ → ExprPart → Expr × Expr → ℕ → Place → Cursor → Result Step Stop → Cursor → Type 0
Second n part x h place = LeadsBy n part (λ q. second_side n q x.0 x.1 h place)

abbrev pub Filled : ℕ → ExprPart → Hole → Expr → ℕ → Cursor → Result Step Stop → Cursor → Type 0
Filled n part a x h = LeadsBy n part (λ q. fills n q a (x, h))

abbrev pub Called : ℕ → ExprPart → List ℕ → List Expr → ℕ → Cursor → Result Step Stop → Cursor → Type 0
Called n part w xs h = LeadsBy n part (λ q. called n q w (xs, h))

abbrev pub Closed : ℕ → ExprPart → Open → Expr → ℕ → Cursor → Result Step Stop → Cursor → Type 0
Closed n part a = Filled n part (hole.Open a)

abbrev pub Widened : ℕ → ExprPart → Place → ℕ → Expr → ℕ → Cursor → Result Step Stop → Cursor → Type 0
Widened n part place k x h = LeadsBy n part (λ q. awaits n q (step.Wide k x h place))

-- ---- nesting

abbrev pub PlaceFits : ℕ → Place → Type 0
PlaceFits n at.Outside = Unit {0}
PlaceFits n (at.Parens low) = low ≤ n

abbrev pub HoleFits : ℕ → Hole → Type 0
HoleFits n (hole.Open a) = OpenFits n a
HoleFits n (hole.Right k op x h place) = (h ≤ n) × PlaceFits n place
HoleFits n (hole.Yes x h place) = (h ≤ n) × PlaceFits n place
HoleFits n (hole.No x y h place) = (h ≤ n) × PlaceFits n place
HoleFits n _ = Unit {0}

-- no part of a step nests deeper than the level allows
abbrev pub StepFits : ℕ → Step → Type 0
StepFits n (step.Operand x h) = h ≤ n + 1
StepFits n (step.Inner a) = HoleFits n a
StepFits n (step.Brackets x h) = h ≤ n
StepFits n (step.Wide k x h place) = (h ≤ n) × PlaceFits n place
StepFits n _ = Unit {0}

-- ---- how far a level has come: what it has read nests deeper at each turn

abbrev pub hole_reach : Hole → ℕ
hole_reach (hole.Right k op x h place) = 4 * h + 2
hole_reach (hole.Yes x h place) = 4 * h + 2
hole_reach (hole.No x y h place) = 4 * h + 3
hole_reach _ = 0

abbrev pub reach : ℕ → Step → ℕ
reach n (step.Done x h) = 4 * n + 9
reach n (step.Operand x h) = 4 * h + 1
reach n (step.Inner a) = hole_reach a
reach n (step.Brackets x h) = 4 * h + 2
reach n (step.Wide k x h place) = 4 * h + 2
reach n _ = 0

-- what any step behind an operand or a form of that nesting has passed
abbrev pub floor : Place → ℕ → ℕ
floor at.Outside h = 4 * h + 1
floor (at.Parens low) h = 4 * h

-- ---- parts of functions

abbrev pub may_choose : er.Part → Place → Bool
may_choose (er.tight k) at.Outside = false
may_choose er.any at.Outside = true
may_choose (er.behind w) at.Outside = true
may_choose q (at.Parens low) = true

abbrev pub right_side : Operator → ℕ → Expr → ℕ → Place → Step
right_side (op.Plain sign) k x h place = step.Inner (hole.Right k sign x h place)
right_side op.Wide k x h place = step.Wide k x h place

abbrev pub opened : Opening → Step
opened (opening.Whole x h) = step.Operand x h
opened (opening.Open a) = step.Inner (hole.Open a)
opened opening.Parens = step.Inner hole.Parens
opened opening.Braces = step.Braces
opened (opening.Arguments w) = step.Arguments w

abbrev pub indexed : Expr → ℕ → g.Inside → ℕ → Step
indexed x h j i = step.Operand (g.part_of x j) (suc (max h i))
