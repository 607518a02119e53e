-- Which values have a kind in a setting, which outcomes are good, and what stands round a body.
use Rattle.std.specs.Prelude.{◌≡◌, ◌≤◌, ◌<◌, Bool, true, false, ℕ, List, [], ◌∷◌, ◌++◌, filter, Option, None, Some, option_map, pos}
use Rattle.std.specs.List.{list_all}
use Rattle.udb_base.specs.Lists.{is_among}
use Rattle.udb_base.specs.declared.conditions.Cond.{Cond}
use Rattle.udb_spec.specs.Conditions.{same_bytes}
use Rattle.idl_tree.specs.Each.{Each}
use Rattle.idl_tree.specs.declared.widths.Width.{Width}
use Rattle.idl_tree.specs.declared.widths.EnumKind.{EnumKind}
use Rattle.idl_tree.specs.declared.widths.EnumKind.TheVariants.{PrivilegeMode, ExceptionCode, CsrFieldType}
use Rattle.idl_tree.specs.declared.widths.Shape.{Shape}
use Rattle.idl_tree.specs.declared.widths.Shape.TheVariants as sh
use Rattle.idl_tree.specs.declared.programs.Argument.{Argument}
use Rattle.idl_tree.specs.declared.programs.Function.{Function}
use Rattle.idl_bits.specs.BitVector.{BitVector}
use Rattle.idl_spec.specs.Values.{Value, bits, flag, member, given_text, written_text, same_enum}
use Rattle.idl_spec.specs.Harts.{State, Outcome, done, raised, stuck}
use Rattle.idl_spec.specs.Shapes.{Kind, of_bits, of_flag, of_member, of_given_text, of_written_text, declared_kind, parameter_named, register_width}
use Rattle.idl_spec.specs.Fields.{bits_scope}
use Rattle.idl_spec.specs.Settings.{Setting, Scope, registers, number_of_width}
use Rattle.idl_spec.specs.Programs.{IsState}
use Rattle.idl_spec.specs.Deeds.{Deed, calls, leaves_fields, stays_in_fields, repeated_for}
use Rattle.idl_spec.specs.Demands.{Issue, Check, Visible, View}
use Rattle.idl_spec.specs.Checks.{Under, passes, variable_names}

-- ---- settings

-- the registers have 32 or 64 bits, and the word for that has this number
pub record Registers (e : Setting) : Type 0 where
  pub number : number_of_width e (register_width e.space.params) ≡ pos (registers e)
  pub low : 1 ≤ registers e
  pub high : registers e ≤ 128

-- ---- values of a kind

-- bits whose width is the number of the kind's, from 1 to 128, with its sign
pub record IsBits (e : Setting) (width : Width) (signed : Bool) (v : BitVector) : Type 0 where
  pub number : number_of_width e width ≡ pos v.width
  pub low : 1 ≤ v.width
  pub high : v.width ≤ 128
  pub sign : v.signed ≡ signed

-- the numbers of an enumeration's members lie below
abbrev pub bound : EnumKind → ℕ
bound PrivilegeMode = 4
bound ExceptionCode = 12
bound CsrFieldType = 6

abbrev pub IsMember : EnumKind → EnumKind → ℕ → Type 0
IsMember k l n = (same_enum k l ≡ true) × (n < bound l)

abbrev pub HasKind : Setting → Kind → Value → Type 0
HasKind e (of_bits width signed) (bits v) = IsBits e width signed v
HasKind e of_flag (flag x) = Unit {0}
HasKind e (of_member k) (member l n) = IsMember k l n
HasKind e of_given_text (given_text x) = Unit {0}
HasKind e of_written_text (written_text x) = Unit {0}
HasKind e _ _ = ⊥

-- a value that can be brought to a declared shape
abbrev pub Suits : Shape → Value → Type 0
Suits (sh.Bits signed width) (bits v) = Unit {0}
Suits sh.Boolean (flag x) = Unit {0}
Suits (sh.Enum k) (member l n) = IsMember k l n
Suits _ _ = ⊥

abbrev pub SuitAll : List Argument → List Value → Type 0
SuitAll [] [] = Unit {0}
SuitAll (a ∷ more) (v ∷ vs) = Suits a.shape v × SuitAll more vs
SuitAll _ _ = ⊥

-- what a function of that result leaves
abbrev pub IsResult : Setting → Option Shape → Option Value → Type 0
IsResult e None v = Unit {0}
IsResult e (Some shape) None = ⊥
IsResult e (Some shape) (Some v) = HasKind e (declared_kind shape) v

-- ---- where a body stands

-- an operation, or a function that one calls; a body of a field, with whether it may read fields; or a
-- function that such a body calls
pub data Mode : Type 0 where
  loud : Mode
  in_field : Bool → Mode
  below_field : Bool → Mode

abbrev pub is_in_field : Mode → Bool
is_in_field (in_field reads) = true
is_in_field _ = false

abbrev pub reads_fields : Mode → Bool
reads_fields (in_field reads) = reads
reads_fields _ = true

-- the state is one of the full configuration
abbrev pub sees_state : Mode → Bool
sees_state loud = true
sees_state (in_field reads) = reads
sees_state (below_field reads) = reads

abbrev pub StateIf : Bool → Setting → State → Type 0
StateIf true e s = IsState e.space e.full e.program s
StateIf false e s = Unit {0}

abbrev pub StateOk : Setting → Mode → State → Type 0
StateOk e mode s = StateIf (sees_state mode) e s

abbrev pub MayRaise : Mode → Type 0
MayRaise loud = Unit {0}
MayRaise _ = ⊥

-- what runs isn't stuck, its value is as asked, and it keeps the state one of the configuration
abbrev pub Good : {A : Type 0} → Setting → Mode → (A → Type 0) → Outcome A → Type 0
Good e mode P (done a s) = P a × StateOk e mode s
Good e mode P (raised code tval s) = MayRaise mode × StateOk e mode s
Good e mode P stuck = ⊥

-- ---- calls

-- the functions that a call of the name reaches in so many turns keep to what a field's body may do
abbrev pub may_call : Bool → List Function → List Function → List ℕ → Bool
may_call reads functions turns name =
    list_all (λ f. stays_in_fields reads f.body.statements) (repeated_for turns functions (filter (λ f. is_among same_bytes f.name (name ∷ [])) functions))

abbrev pub MayCall : Setting → Mode → List Function → List ℕ → Type 0
MayCall e loud turns name = Unit {0}
MayCall e (in_field reads) turns name = may_call reads e.program.functions turns name ≡ true
MayCall e (below_field reads) turns name = may_call reads e.program.functions turns name ≡ true

abbrev pub DeedOk : Setting → Mode → List Function → Deed → Type 0
DeedOk e (below_field reads) turns (calls name) = may_call reads e.program.functions turns name ≡ true
DeedOk e (below_field reads) turns deed = leaves_fields reads deed ≡ false
DeedOk e _ turns deed = Unit {0}

-- ---- names

pub record IsLocal (e : Setting) (v : Visible) (p : List ℕ × Value) : Type 0 where
  pub name : p.0 ≡ v.name
  pub kind : HasKind e v.kind p.1
  pub clear : parameter_named e.space.params v.name ≡ None

-- the visible names have values of their kinds, in their order
abbrev pub Matches : Setting → List Visible → Scope → Type 0
Matches e [] [] = Unit {0}
Matches e (v ∷ vs) (p ∷ ps) = IsLocal e v p × Matches e vs ps
Matches e _ _ = ⊥

-- ---- checks

-- the functions declared before, and the kind that the body returns
pub record Round : Type 0 where
  pub before : List Function
  pub returns : Option Kind

abbrev pub view_in : Setting → Mode → Round → List Visible → View
view_in e mode round inner = record {
  space = e.space;
  program = e.program;
  variables = e.variables;
  before = round.before;
  in_field = is_in_field mode;
  reads_fields = reads_fields mode;
  written = option_map (λ n. n.csr) e.written;
  returns = round.returns;
  visible = variable_names e.variables ++ inner;
}

abbrev pub under : Setting → Under
under e = record { space = e.space; full = e.full; program = e.program; bits = bits_scope e.program e.variables }

abbrev pub Passes : Setting → List Cond → List Issue → Type 0
Passes e context issues = Each (λ (i : Issue). passes (under e) context i ≡ true) issues

abbrev pub AllPass : Setting → List Check → Type 0
AllPass e checks = Each (λ (one : Check). Passes e one.context one.issues) checks
