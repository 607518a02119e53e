-- What forms with several parts do, and how the code answers it.
use Rattle.std.specs.Prelude.{◌≡◌, ℕ, List, map, length, Option, None, Some, Result, Ok, Err, option_map, if◌then◌else◌}
use Rattle.udb_base.specs.declared.names.Name.{Name}
use Rattle.idl_tree.specs.declared.widths.Shape.{Shape}
use Rattle.idl_tree.specs.declared.expressions.Expr.{Expr}
use Rattle.idl_tree.specs.declared.statements.Stmt.{Stmt}
use Rattle.idl_bits.specs.Operators.{bit_of}
use Rattle.idl_spec.specs.Values as meant
use Rattle.idl_spec.specs.Values.{bits, plain}
use Rattle.idl_spec.specs.Harts.{State, FieldValue, Outcome, done, and_then, required}
use Rattle.idl_spec.specs.Shapes.{shape}
use Rattle.idl_spec.specs.Settings.{Setting, Reading, Change, Flow, goes_on, returns, with_bits, with_flag, names_of}
use Rattle.idl_spec.specs.Forms.{in_kind, address_of, addressed}
use Rattle.idl_spec.specs.Mean.{mean_expr, mean_stmt, in_shape, declared, in_turn, leaving, block, other_block, raise, write_memory, soft_write}
use Rattle.idl_forms.specs.declared.values.Local.{Local}
use Rattle.idl_forms.specs.declared.values.Value.{Value}
use Rattle.idl_forms.specs.declared.values.Stop.{Stop}
use Rattle.idl_forms.specs.declared.values.Stop.TheVariants.{Memory, Raised, Stuck}
use Rattle.idl_forms.specs.States.{as_value, scope_of, value_if_any, Ends, Gives}

-- a statement goes on with the scope that is left, or returns
abbrev pub flow_of : List Local → Option Value → Flow
flow_of scope None = goes_on (scope_of scope)
flow_of scope (Some v) = returns (as_value v)

abbrev pub values_of : List Value → List meant.Value
values_of vs = map as_value vs

-- the state after a write, or nothing where the write is stuck; of want of memory nothing is said
abbrev pub Writes : Option State → Result (Unit {0}) Stop → State → Type 0
Writes x (Ok _) s = x ≡ Some s
Writes x (Err Stuck) s = x ≡ None
Writes x (Err Memory) s = Unit {0}
Writes x (Err (Raised code tval)) s = ⊥

-- a state with other fields
abbrev pub with_fields : State → Option (List FieldValue) → Option State
with_fields s fields = option_map (λ fs. record s { fields = fs }) fields

-- the value that a call has to return
abbrev pub ReturnsValue : Result (Option Value) Stop → Result Value Stop → Type 0
ReturnsValue returned result =
    (o : Outcome (Option meant.Value)) (s : State) → Ends value_if_any o returned s → Gives (and_then o required) result s

-- ---- answers of statements

-- a statement that goes on returns nothing
abbrev pub nothing_returned : Result (Unit {0}) Stop → Result (Option Value) Stop
nothing_returned (Ok _) = Ok None
nothing_returned (Err stop) = Err stop

abbrev pub value_returned : Result Value Stop → Result (Option Value) Stop
value_returned (Ok v) = Ok (Some v)
value_returned (Err stop) = Err stop

abbrev pub without_value : Result (Option Value) Stop → Result (Option Value) Stop
without_value (Ok v) = Ok None
without_value (Err stop) = Err stop

-- an operation gives nothing
abbrev pub nothing : Unit {0} → Option meant.Value
nothing _ = None

-- one that returns a value is stuck
abbrev pub operation_end : Result (Option Value) Stop → Result (Unit {0}) Stop
operation_end (Ok None) = Ok tt
operation_end (Ok (Some v)) = Err Stuck
operation_end (Err stop) = Err stop

-- ---- forms with several parts

abbrev pub choice_reading : Setting → Expr → Reading → Reading → Reading → Reading
choice_reading e choice test taken other scope s =
    with_flag (test scope s) (λ x t. and_then (if x then taken scope t else other scope t)
    (in_kind e (shape (names_of e scope) choice)))

abbrev pub bit_reading : Reading → Reading → Reading
bit_reading of at scope s =
    with_bits (of scope s) (λ v t. with_bits (at scope t) (λ i r. done (bits (bit_of v i)) r))

abbrev pub declared_change : Setting → Shape → Name → Expr → Change
declared_change e declared_shape name x scope s =
    and_then (mean_expr e x scope s)
    (λ v r. and_then (in_shape e declared_shape v r) (λ w z. done (goes_on (declared scope name w)) z))

abbrev pub raise_change : Setting → Expr → Expr → Change
raise_change e code tval scope s =
    and_then (mean_expr e code scope s)
    (λ c r. with_bits (mean_expr e tval scope r) (λ v z. raise c (address_of e v) z))

abbrev pub store_change : Setting → ℕ → Expr → Expr → Change
store_change e count at x scope s =
    with_bits (mean_expr e at scope s)
    (λ a r. with_bits (mean_expr e x scope r) (λ v z. write_memory count scope (address_of e a) v z))

abbrev pub soft_write_change : Setting → Expr → Expr → Change
soft_write_change e address x scope s =
    and_then (addressed e address (mean_expr e address) scope s)
    (λ one r. with_bits (mean_expr e x scope r) (soft_write e scope one))

abbrev pub branch_change : Setting → Expr → List Stmt → Option (List Stmt) → Change
branch_change e test taken other scope s =
    with_flag (mean_expr e test scope s)
    (λ x r. if x then block (map (mean_stmt e) taken) scope r else other_block (option_map (map (mean_stmt e)) other) scope r)

-- a turn of a loop
abbrev pub one_turn : List ℕ → List Change → ℕ → Change
one_turn name cs counter scope s =
    and_then (in_turn cs (declared scope name (bits (plain 32 counter))) s) (leaving (length scope))
