-- Machinery: what the code's items, plans, frames and states are in the recogniser's definition.
use Rattle.std.specs.Prelude.{ℕ, nat_eq, Bool, true, false, if◌then◌else◌, List, [], ◌∷◌, ◌++◌, map, reverse, Option, Some, None, Ok, Err}
use Rattle.idl_token.specs.declared.kinds.Sign.{Sign}
use Rattle.idl_token.specs.declared.kinds.Sign.TheVariants as s
use Rattle.idl_token.specs.Symbol.{Symbol}
use Rattle.idl_grammar.specs.Tables.{sw_read, sw_write}
use Rattle.idl_token.specs.declared.views.Seen.{Seen}
use Rattle.idl_token.specs.Seen.{symbols}
use Rattle.idl_fault.specs.Machine as m
use Rattle.idl_fault.specs.declared.parts.Piece.{Piece}
use Rattle.idl_fault.specs.declared.parts.Piece.TheVariants as piece
use Rattle.idl_fault.specs.declared.parts.WidthPart.{WidthPart}
use Rattle.idl_fault.specs.declared.parts.WidthPart.TheVariants as w
use Rattle.idl_fault.specs.declared.parts.ExprPart.{ExprPart}
use Rattle.idl_fault.specs.declared.parts.ExprPart.TheVariants as e
use Rattle.idl_fault.specs.declared.parts.StmtPart.{StmtPart}
use Rattle.idl_fault.specs.declared.parts.StmtPart.TheVariants as st
use Rattle.idl_fault.specs.declared.parts.FunctionPart.{FunctionPart}
use Rattle.idl_fault.specs.declared.parts.FunctionPart.TheVariants as f
use Rattle.idl_fault.specs.declared.parts.Item.{Item}
use Rattle.idl_fault.specs.declared.parts.Item.TheVariants as i
use Rattle.idl_fault.specs.declared.parts.Pair.{Pair}
use Rattle.idl_fault.specs.declared.parts.Pair.TheVariants as pair
use Rattle.idl_fault.specs.declared.parts.Plan.{Plan}
use Rattle.idl_fault.specs.declared.parts.Plan.TheVariants as plan
use Rattle.idl_fault.specs.declared.parts.Reading.{Reading}
use Rattle.idl_fault.specs.declared.parts.Reading.TheVariants as reading
use Rattle.idl_fault.specs.declared.parts.Frame.{Frame}
use Rattle.idl_fault.specs.declared.parts.Frame.TheVariants as frame
use Rattle.idl_fault.specs.declared.parts.State.{State}
use Rattle.idl_fault.specs.declared.parts.Turn.{Turn}
use Rattle.idl_fault.specs.declared.parts.Turn.TheVariants as turn
use Rattle.idl_fault.specs.declared.parts.Fall.{Fall}
use Rattle.idl_fault.specs.declared.parts.Fall.TheVariants as fall

abbrev pub piece_item : Piece → m.Item
piece_item (piece.Sign x) = m.sign x
piece_item (piece.Reserved x) = m.reserved x
piece_item piece.Word = m.word
piece_item piece.SoftRead = m.same sw_read
piece_item piece.SoftWrite = m.same sw_write
piece_item piece.Quoted = m.quoted
piece_item piece.Access = m.bits

abbrev pub width_item : WidthPart → m.Item
width_item w.Atom = m.watom false
width_item w.Factor = m.watom true
width_item w.Term = m.term false
width_item w.Product = m.term true
width_item w.AfterNumber = m.after_number
width_item w.Multiplied = m.multiplied
width_item w.Short = m.short
width_item w.Sums = m.sums
width_item w.Whole = m.width
width_item w.OfBits = m.of_bits
width_item (w.May b) = m.may b

abbrev pub expr_item : ExprPart → m.Item
expr_item e.Any = m.any
expr_item (e.Tight k) = m.tight k
expr_item e.Behind = m.behind
expr_item e.Operand = m.operand
expr_item e.Primary = m.primary
expr_item e.Parts = m.parts
expr_item e.Inside = m.inside
expr_item (e.Onward k) = m.onward k
expr_item (e.More k) = m.more k
expr_item e.Choice = m.choice
expr_item e.Rest = m.rest
expr_item e.Named = m.named
expr_item e.Called = m.called
expr_item e.Args = m.args
expr_item e.MoreArgs = m.more_args
expr_item e.Braced = m.braced
expr_item e.Csr = m.csr
expr_item e.CsrWord = m.csr_word
expr_item e.CsrField = m.csr_field
expr_item e.ReadOrField = m.read_or_field

abbrev pub stmt_item : StmtPart → m.Item
stmt_item st.Stmts = m.stmts
stmt_item st.Stmt = m.stmt
stmt_item st.Worded = m.worded
stmt_item st.Call = m.call_stmt
stmt_item st.Csr = m.csr_stmt
stmt_item st.CsrWord = m.csr_stmt_word
stmt_item st.CsrTarget = m.csr_target
stmt_item st.WriteOrSet = m.write_or_set
stmt_item st.When = m.when
stmt_item st.Otherwise = m.otherwise
stmt_item st.ElseBlock = m.else_block
stmt_item st.Count = m.count
stmt_item st.Shape = m.shape

abbrev pub function_item : FunctionPart → m.Item
function_item f.Functions = m.functions
function_item f.Function = m.function
function_item f.Result = m.result
function_item f.Taken = m.taken
function_item f.Arguments = m.arguments
function_item f.MoreArguments = m.more_arguments
function_item f.About = m.about
function_item f.AboutText = m.about_text

abbrev pub item : Item → m.Item
item (i.Piece x) = piece_item x
item (i.Same x) = m.same x.now
item (i.Width x) = width_item x
item (i.Expr x) = expr_item x
item (i.Stmt x) = stmt_item x
item (i.Function x) = function_item x

abbrev pub items : List Item → List m.Item
items xs = map item xs

abbrev pub first_of_pair : Pair → List m.Item
first_of_pair pair.Inside = m.any ∷ m.sign s.CloseBracket ∷ []
first_of_pair pair.Braced = m.args ∷ m.sign s.CloseBrace ∷ []

abbrev pub second_of_pair : Pair → List m.Item
second_of_pair pair.Inside = m.width ∷ m.sign s.Colon ∷ m.width ∷ m.sign s.CloseBracket ∷ []
second_of_pair pair.Braced = m.width ∷ m.sign s.OpenBrace ∷ m.any ∷ m.sign s.CloseBrace ∷ m.sign s.CloseBrace ∷ []

-- what is read after the counter of a loop
abbrev pub after_counter : List ℕ → List m.Item
after_counter x = m.sign s.Assign ∷ m.width ∷ m.sign s.Semicolon ∷ m.same x ∷ m.sign s.Less ∷ m.width ∷ m.sign s.Semicolon ∷ m.same x ∷ m.sign s.Increment ∷ m.sign s.CloseParen ∷ m.sign s.OpenBrace ∷ m.block

abbrev pub plan_of : Plan → m.Plan
plan_of (plan.Takes xs) = m.takes (items xs.now)
plan_of (plan.TakesTwo x y) = m.takes (item x ∷ item y ∷ [])
plan_of (plan.TakesCounter x) = m.takes (after_counter x.now)
plan_of (plan.Leaves xs) = m.passes (items xs.now)
plan_of (plan.LeavesTwo x y) = m.passes (item x ∷ item y ∷ [])
plan_of plan.Refuses = m.refuses
plan_of (plan.Sets b) = m.sets b
plan_of (plan.Both p) = m.both (first_of_pair p) (second_of_pair p)

-- the left shift that widens, behind which an atom of a width stands
abbrev pub is_wide : Sign → Bool
is_wide s.WideLeft = true
is_wide _ = false

-- what stands behind a sign of a level, and what may follow it
abbrev pub right_of : ℕ → Bool → List m.Item
right_of k wide = (if wide then m.watom false else m.tight k) ∷ m.more k ∷ []

-- what comes after an operand, by the precedence of the sign there
abbrev pub infix_by : ℕ → Option ℕ → Bool → m.Plan
infix_by k None wide = m.passes []
infix_by k (Some j) wide = if nat_eq j k then m.takes (right_of k wide) else m.passes []

abbrev pub reading_of : Reading → m.Reading
reading_of (reading.Came ts) = m.reached (symbols ts.now)
reading_of (reading.Stopped ts) = Err (symbols ts.now)

abbrev pub frame_of : Frame → m.Frame
frame_of (frame.Reads x) = m.reads (item x)
frame_of (frame.Second p start) = m.second (second_of_pair p) (symbols start.now)
frame_of (frame.Compare q) = m.compare (reading_of q)

-- the stack from its top on
unfoldable pub stack_of : List Frame → List m.Frame
stack_of fs = map frame_of (reverse fs)

-- with a frame on top, reading on or falling to a fault
abbrev pub next_by : Bool → List m.Frame → Bool → List Symbol → m.Next
next_by falls k may ts = if falls then m.fault k ts else m.next k may ts

-- what a state stands for: the stack, the flag and the tokens, or where the fault there leads
abbrev pub state_of : State → m.Next
state_of x = if x.falls then m.fault (stack_of x.stack.items) (symbols x.rest.now) else m.goes (stack_of x.stack.items) x.may (symbols x.rest.now)

-- where a state leads
abbrev pub after_state : State → m.Next
after_state x = next_by x.falls (stack_of x.stack.items) x.may (symbols x.rest.now)

abbrev pub turn_of : Turn → m.Next
turn_of (turn.Goes x) = state_of x
turn_of (turn.Halts None) = m.halts (Ok tt)
turn_of (turn.Halts (Some ts)) = m.halts (Err (symbols ts.now))

-- the second of two readings, after what the first one gave
abbrev pub second_try : Pair → m.Reading → List m.Frame → List Symbol → m.Next
second_try p q k us = m.goes (m.frames (second_of_pair p) ++ m.compare q ∷ k) false us

-- where a fault leads that comes to a frame, with the rest of the stack and the tokens from the fault on
abbrev pub fall_of : Fall → List m.Frame → List Symbol → m.Next
fall_of (fall.Falls ts) k us = m.fault k (symbols ts.now)
fall_of (fall.Tries p start) k us = second_try p (Err us) k (symbols start.now)
fall_of (fall.Came ts) k us = m.goes k false (symbols ts.now)

abbrev pub verdict_by : Option (List Seen) → m.Verdict
verdict_by None = Ok tt
verdict_by (Some ts) = Err (symbols ts)

-- the recogniser comes to this from one thing to be read
abbrev pub ComesTo : Item → List Symbol → Option (List Seen) → Type 0
ComesTo start ts end = m.Runs (m.frames (item start ∷ [])) false ts (verdict_by end)
