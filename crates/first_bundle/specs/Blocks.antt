-- How the lines of a body are read: with the blocks that are open, the innermost first, and the
-- statements so far of the innermost.
use Rattle.std.specs.Prelude.{◌==◌, ◌++◌, ◌+◌, ◌*◌, Bool, true, false, ℕ, nat_le, List, [], ◌∷◌, drop, length, codes, Option, None, Some, if◌then◌else◌, option_and_then}
use Rattle.std.specs.Option.{option_map}
use Rattle.idl_tree.specs.declared.expressions.Unary.TheVariants.{Not}
use Rattle.idl_tree.specs.declared.expressions.Expr.{Expr}
use Rattle.idl_tree.specs.declared.expressions.Expr.TheVariants as e
use Rattle.idl_tree.specs.declared.statements.Stmt.{Stmt}
use Rattle.idl_tree.specs.declared.statements.Stmt.TheVariants as s
use Rattle.entry_tree.specs.declared.ParamEntry.{ParamEntry}
use Rattle.first_bundle.specs.declared.blocks.Opening.{Opening}
use Rattle.first_bundle.specs.declared.blocks.Opening.TheVariants.{Bare, Taken, Other}
use Rattle.first_bundle.specs.declared.blocks.Frame.{Frame}
use Rattle.first_spec.specs.Bundle.{is_switch_name}
use Rattle.first_bundle.specs.Lines.{plain, until}
use Rattle.first_bundle.specs.Statements.{begins_with, read_statement, assignment_tree}

abbrev pub State : Type 0
State = List Frame × List Stmt

-- the state after a line that is taken
abbrev pub if_taken : {X : Type 0} → Bool → X → Option X
if_taken true x = Some x
if_taken false x = None

-- the name of a Boolean parameter, up to the parenthesis after it
abbrev pub switch_or_none : List ParamEntry → List ℕ → Option (List ℕ)
switch_or_none params name = if is_switch_name params name then Some name else None

abbrev pub read_switch : List ParamEntry → List ℕ → Option (List ℕ)
read_switch params text = switch_or_none params (plain (until 41 text))

abbrev pub read_test : List ParamEntry → List ℕ → Option Expr
read_test params text =
    if begins_with (codes "!") text then option_map (λ name. e.Unary Not (e.Word name)) (read_switch params (drop 1 text))
    else option_map (λ name. e.Word name) (read_switch params text)

-- a block begins
abbrev pub enter : Opening → State → State
enter opening st = (record { before = st.1; opening = opening } ∷ st.0, [])

-- the statement that a block ends
abbrev pub closed : Opening → List Stmt → Stmt
closed Bare inner = s.Block inner
closed (Taken test) inner = s.If test inner None
closed (Other test taken) inner = s.If test taken (Some inner)

abbrev pub close : State → Option State
close ([], inner) = None
close (f ∷ fs, inner) = Some (fs, f.before ++ closed f.opening inner ∷ [])

-- the other block of an `if`
abbrev pub otherwise : Opening → List Stmt → Option Opening
otherwise (Taken test) inner = Some (Other test inner)
otherwise _ inner = None

abbrev pub turn : State → Option State
turn ([], inner) = None
turn (f ∷ fs, inner) = option_map (λ opening. enter opening (fs, f.before)) (otherwise f.opening inner)

abbrev pub append_to : State → Stmt → State
append_to st x = (st.0, st.1 ++ x ∷ [])

abbrev pub begin : List ParamEntry → State → List ℕ → Option State
begin params st text =
    if begins_with (codes "{") text then Some (enter Bare st)
    else (if begins_with (codes "if (") text then option_map (λ test. enter (Taken test) st) (read_test params (drop 4 text))
    else option_map (λ a. append_to st (assignment_tree a)) (read_statement text))

abbrev pub end : State → List ℕ → Option State
end st text = if begins_with (codes "} else {") text then turn st else close st

-- a line after the margin of the block that is open: its end, or a statement two spaces further in
abbrev pub step_within : List ParamEntry → State → List ℕ → Option State
step_within params st text =
    if begins_with (codes "}") text then end st text
    else (if nat_le (length st.0) 8 then begin params st (drop 2 text) else None)

abbrev pub step : List ParamEntry → State → List ℕ → Option State
step params st line = step_within params st (drop (2 * length st.0) line)

-- a body ends where no block is open
abbrev pub finish : State → List (List ℕ) → Option (List Stmt × List (List ℕ))
finish ([], done) rest = Some (done, rest)
finish (f ∷ fs, done) rest = None

-- the statements of the lines that begin with two spaces, and the lines after them
abbrev pub body_from : List ParamEntry → State → List (List ℕ) → Option (List Stmt × List (List ℕ))
body_from params st [] = finish st []
body_from params st (l ∷ ls) =
    if begins_with (codes "  ") l then option_and_then (λ next. body_from params next ls) (step params st l)
    else finish st (l ∷ ls)

abbrev pub read_body : List ParamEntry → List (List ℕ) → Option (List Stmt × List (List ℕ))
read_body params lines = body_from params ([], []) lines
