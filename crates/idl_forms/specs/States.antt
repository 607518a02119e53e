-- The values, the states and the outcomes that the code keeps, as the definitions have them.
use Rattle.std.specs.Prelude.{◌≡◌, List, map, Option, None, Some, Result, Ok, Err}
use Rattle.idl_spec.specs.Values.{bits, flag, member, given_text, written_text}
use Rattle.idl_spec.specs.Values as meant
use Rattle.idl_spec.specs.Harts.{State, Outcome, done, raised, stuck}
use Rattle.idl_spec.specs.Harts as hart
use Rattle.idl_spec.specs.Settings.{Scope, Flow, goes_on}
use Rattle.idl_forms.specs.declared.harts.FieldValue.{FieldValue}
use Rattle.idl_forms.specs.declared.harts.HartState.{HartState}
use Rattle.idl_forms.specs.declared.values.Scalar.{Scalar}
use Rattle.idl_forms.specs.declared.values.Scalar.TheVariants as c
use Rattle.idl_forms.specs.declared.values.Value.{Value}
use Rattle.idl_forms.specs.declared.values.Value.TheVariants as v
use Rattle.idl_forms.specs.declared.values.Local.{Local}
use Rattle.idl_forms.specs.declared.values.Stop.{Stop}
use Rattle.idl_forms.specs.declared.values.Stop.TheVariants.{Memory, Raised, Stuck}

abbrev pub as_scalar : Scalar → meant.Value
as_scalar (c.Bits x) = bits x
as_scalar (c.Flag x) = flag x
as_scalar (c.Member kind number) = member kind number

abbrev pub as_value : Value → meant.Value
as_value (v.Scalar x) = as_scalar x
as_value (v.Given x) = given_text x
as_value (v.Written x) = written_text x

-- what has a shape; a text is stuck
abbrev pub scalar_step : meant.Value → State → Outcome meant.Value
scalar_step (given_text x) s = stuck
scalar_step (written_text x) s = stuck
scalar_step v s = done v s

abbrev pub scope_of : List Local → Scope
scope_of scope = map (λ l. (l.name, as_scalar l.value)) scope

abbrev pub field_of : FieldValue → hart.FieldValue
field_of f = record { csr = f.csr; field = f.field; number = f.number }

abbrev pub state_of : HartState → State
state_of h = record { x = h.x; pc = h.pc; next = h.next; word = h.word; fields = map field_of h.fields; ram = h.ram }

-- what is answered, with the state that is left, is the outcome; of want of memory nothing is said
abbrev pub Ends : {A B : Type 0} → (A → B) → Outcome B → Result A Stop → State → Type 0
Ends f o (Ok a) s = o ≡ done (f a) s
Ends f o (Err (Raised code tval)) s = o ≡ raised code tval s
Ends f o (Err Stuck) s = o ≡ stuck
Ends f o (Err Memory) s = Unit {0}

-- the same of a value
abbrev pub Gives : Outcome meant.Value → Result Value Stop → State → Type 0
Gives o result s = Ends as_value o result s

-- what reads no state: the answer is the outcome from any state
abbrev pub Finds : {A B : Type 0} → (A → B) → (State → Outcome B) → Result A Stop → Type 0
Finds f step result = (s : State) → Ends f (step s) result s

-- what is done with a part whose answer is given: the same with its outcome
abbrev pub Follows : {A B : Type 0} → (A → B) → (Outcome meant.Value → Outcome B) → Result Value Stop → State → Result A Stop → State → Type 0
Follows f step part old result new = (o : Outcome meant.Value) → Gives o part old → Ends f (step o) result new

-- the same where no state is read
abbrev pub Maps : {A B : Type 0} → (A → B) → (Outcome meant.Value → Outcome B) → Result Value Stop → Result A Stop → Type 0
Maps f step part result = (s : State) → Follows f step part s result s

-- stuck where there is nothing
abbrev pub or_stop : {A : Type 0} → Option A → Result A Stop
or_stop None = Err Stuck
or_stop (Some a) = Ok a

abbrev pub AnswersWith : {A B : Type 0} → (A → B) → Option B → Result A Stop → Type 0
AnswersWith f x (Ok a) = x ≡ Some (f a)
AnswersWith f x (Err Stuck) = x ≡ None
AnswersWith f x (Err Memory) = Unit {0}
AnswersWith f x (Err (Raised code tval)) = ⊥

-- a statement goes on with the scope that is left
abbrev pub going_on : {A : Type 0} → List Local → A → Flow
going_on scope a = goes_on (scope_of scope)

abbrev pub value_if_any : Option Value → Option meant.Value
value_if_any None = None
value_if_any (Some v) = Some (as_value v)

-- what a body returns; nothing is refused but for want of memory
abbrev pub Returns : Option meant.Value → Result (Option Value) Stop → Type 0
Returns x (Ok v) = value_if_any v ≡ x
Returns x (Err Memory) = Unit {0}
Returns x (Err _) = ⊥
