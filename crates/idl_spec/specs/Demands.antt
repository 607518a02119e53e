-- What typing asks at a node itself: names that are there, kinds that fit, and demands on full
-- configurations. A part without a shape has an issue of its own, and raises no second one above
-- it.
use Rattle.std.specs.Prelude.{◌&&◌, Bool, true, false, not, ℕ, nat_le, nat_lt, length, List, [], ◌∷◌, ◌++◌, map, Option, None, Some, is_some, if◌then◌else◌, ℤ, pos}
use Rattle.std.specs.List.{list_any, list_all}
use Rattle.udb_base.specs.declared.names.Name.{Name}
use Rattle.udb_base.specs.declared.conditions.Cond.{Cond}
use Rattle.udb_base.specs.declared.spaces.Domain.{Domain}
use Rattle.udb_base.specs.declared.spaces.Domain.TheVariants as d
use Rattle.udb_base.specs.declared.spaces.Space.{Space}
use Rattle.udb_spec.specs.Conditions.{same_bytes}
use Rattle.udb_cond.specs.Requirements.{requirement_of}
use Rattle.idl_tree.specs.declared.widths.Width.{Width}
use Rattle.idl_tree.specs.declared.widths.Width.TheVariants as wd
use Rattle.idl_tree.specs.declared.widths.Width.TheOpen.{Width-F}
use Rattle.idl_tree.specs.declared.widths.Width.TheFolds.{fold-Width}
use Rattle.idl_tree.specs.declared.widths.Shape.{Shape}
use Rattle.idl_tree.specs.declared.widths.Shape.TheVariants as sh
use Rattle.idl_tree.specs.declared.expressions.Unary.{Unary}
use Rattle.idl_tree.specs.declared.expressions.Unary.TheVariants as u
use Rattle.idl_tree.specs.declared.expressions.Binary.{Binary}
use Rattle.idl_tree.specs.declared.expressions.Binary.TheVariants as b
use Rattle.idl_tree.specs.declared.expressions.Expr.{Expr}
use Rattle.idl_tree.specs.declared.expressions.Expr.TheVariants as ex
use Rattle.idl_tree.specs.declared.expressions.Expr.TheOpen.{Expr-F}
use Rattle.idl_tree.specs.declared.programs.Variable.{Variable}
use Rattle.idl_tree.specs.declared.programs.Argument.{Argument}
use Rattle.idl_tree.specs.declared.programs.Function.{Function}
use Rattle.idl_tree.specs.declared.programs.Program.{Program}
use Rattle.idl_spec.specs.Values.{same_enum, member_number}
use Rattle.idl_spec.specs.Shapes.{Kind, of_bits, of_flag, of_member, of_given_text, of_written_text, Names, declared_kind, innermost, parameter_named, function_named, shape, choice_kind}
use Rattle.idl_spec.specs.Fields.{csr_named, field_named}
use Rattle.idl_spec.specs.Forms.{is_access}
use Rattle.idl_spec.specs.Formulas.{lists_extension}
use Rattle.idl_spec.specs.Deeds.{reached, stays_in_fields}

-- ---- what a node asks

-- the number of a width lies in a range, two places cut a slice out of a width, a condition holds,
-- a field is present
pub data Demand : Type 0 where
  in_range : (low high : ℤ) → Width → Demand
  in_slice : (high low of : Width) → Demand
  defined : Cond → Demand
  present : (csr field : Name) → Demand

-- a name that nothing has, a function that is declared later, kinds that don't fit, or a demand on
-- full configurations
pub data Issue : Type 0 where
  unknown_name : Name → Issue
  later_function : Name → Issue
  mismatch : Issue
  demand : Demand → Issue

pub record Check : Type 0 where
  pub context : List Cond
  pub issues : List Issue

-- ---- what stands round a node

-- a local name, an argument, a counter or a variable of the encoding; the first two may be assigned
pub record Visible : Type 0 where
  pub name : Name
  pub kind : Kind
  pub is_assignable : Bool

-- the body's space and program, the variables of its encoding, the functions declared before it,
-- whether it is a field's and may read fields, the CSR whose new number it sees, the kind that it
-- returns, and the visible names, the innermost last
pub record View : Type 0 where
  pub space : Space
  pub program : Program
  pub variables : List Variable
  pub before : List Function
  pub in_field : Bool
  pub reads_fields : Bool
  pub written : Option Name
  pub returns : Option Kind
  pub visible : List Visible

abbrev pub visible_named : View → Name → Option Visible
visible_named view name = innermost (map (λ v. (v.name, v)) view.visible) name

abbrev pub names_at : View → Names
names_at view = record {
  params = view.space.params;
  functions = view.program.functions;
  csrs = view.program.csrs;
  written = view.written;
  locals = map (λ v. (v.name, v.kind)) view.visible;
}

abbrev pub kind_at : View → Expr → Option Kind
kind_at view e = shape (names_at view) e

-- ---- the issues of names

abbrev pub mismatch_unless : Bool → List Issue
mismatch_unless x = if x then [] else mismatch ∷ []

abbrev pub unknown_unless : Bool → Name → List Issue
unknown_unless x name = if x then [] else unknown_name name ∷ []

-- the program's field of a CSR's and a field's name, or the first of both names that it lacks
abbrev pub field_issues : View → Name → Name → List Issue
field_issues view csr field = elim (csr_named view.program.csrs csr) [
  | None ↦ unknown_name csr ∷ []
  | Some one ↦ unknown_unless (is_some (field_named one.fields field)) field
]

abbrev pub present_issues : View → Name → Name → List Issue
present_issues view csr field = elim (field_issues view csr field) [
  | [] ↦ demand (present csr field) ∷ []
  | i ∷ more ↦ i ∷ more
]

-- ---- the issues of widths

-- a parameter in a width lists its values, none above 65,535
abbrev pub is_width_domain : Domain → Bool
is_width_domain (d.Numbers ns) = list_all (λ n. nat_le n 65535) ns
is_width_domain _ = false

abbrev pub width_word_issues : View → Name → List Issue
width_word_issues view name = elim (parameter_named view.space.params name) [
  | None ↦ unknown_name name ∷ []
  | Some p ↦ mismatch_unless (is_width_domain p.domain)
]

abbrev pub bits_issues : View → Option Name → Name → List Issue
bits_issues view None name =
    unknown_unless (list_any (λ v. same_bytes v.name name) view.variables) name
bits_issues view (Some csr) name = field_issues view csr name

abbrev pub width_step : View → Width-F (List Issue) → List Issue
width_step view (Width-F.Number n) = []
width_step view (Width-F.Word name) = width_word_issues view name
width_step view (Width-F.Plus a z) = a ++ z
width_step view (Width-F.Minus a z) = a ++ z
width_step view (Width-F.Times a z) = a ++ z
width_step view (Width-F.Max a z) = a ++ z
width_step view (Width-F.Bits csr name) = bits_issues view csr name

unfoldable pub width_issues : View → Width → List Issue
width_issues view = fold-Width (List Issue) (width_step view)

abbrev pub ranged : ℕ → ℕ → Width → List Issue
ranged low high width = demand (in_range (pos low) (pos high) width) ∷ []

-- the width of bits is 1 to 128
abbrev pub kind_issues : Option Kind → List Issue
kind_issues (Some (of_bits width signed)) = ranged 1 128 width
kind_issues _ = []

abbrev pub shape_issues : View → Shape → List Issue
shape_issues view (sh.Bits signed width) = width_issues view width ++ ranged 1 128 width
shape_issues view _ = []

-- ---- kinds that fit; a part without a kind has an issue of its own

abbrev pub same_kind : Kind → Kind → Bool
same_kind (of_bits w s) (of_bits v r) = true
same_kind of_flag of_flag = true
same_kind (of_member k) (of_member l) = same_enum k l
same_kind _ _ = false

abbrev pub suits : Option Kind → Option Kind → Bool
suits (Some wanted) (Some kind) = same_kind wanted kind
suits _ _ = true

abbrev pub bits_kind : Option Kind
bits_kind = Some (of_bits (wd.Number 1) false)

abbrev pub flag_kind : Option Kind
flag_kind = Some of_flag

-- `==` also compares truth values, members of one enumeration, and a parameter of texts with a text
abbrev pub comparable : Option Kind → Option Kind → Bool
comparable (Some of_given_text) (Some of_written_text) = true
comparable (Some of_written_text) (Some of_given_text) = true
comparable x y = suits x y

abbrev pub is_choice : Option Kind → Option Kind → Bool
is_choice (Some x) (Some y) = is_some (choice_kind (Some x) (Some y))
is_choice _ _ = true

abbrev pub want : Option Kind → Option Kind → List Issue
want wanted kind = mismatch_unless (suits wanted kind)

abbrev pub wants_all : Option Kind → List (Option Kind) → List Issue
wants_all wanted kinds = mismatch_unless (list_all (suits wanted) kinds)

-- ---- expressions

-- a rule that bodies of fields keep
abbrev pub outside_fields : View → List Issue
outside_fields view = mismatch_unless (not view.in_field)

abbrev pub word_issues : View → Name → List Issue
word_issues view name =
    if is_some (visible_named view name) then []
    else elim (parameter_named view.space.params name) [
      | None ↦ unknown_name name ∷ []
      | Some p ↦ demand (defined p.defined) ∷ []
    ]

abbrev pub arguments_suit : List Argument → List (Option Kind) → Bool
arguments_suit [] [] = true
arguments_suit (a ∷ more) (kind ∷ kinds) =
    suits (Some (declared_kind a.shape)) kind && arguments_suit more kinds
arguments_suit _ _ = false

-- a called function reaches none that breaks a rule of bodies of fields
abbrev pub reaches_fields_alone : View → Name → Bool
reaches_fields_alone view name =
    list_all (λ f. stays_in_fields view.reads_fields f.body.statements) (reached view.program.functions (name ∷ []))

abbrev pub call_issues : View → Name → List (Option Kind) → List Issue
call_issues view name kinds = elim (function_named view.program.functions name) [
  | None ↦ unknown_name name ∷ []
  | Some f ↦ (if is_some (function_named view.before name) then [] else later_function name ∷ [])
      ++ mismatch_unless (arguments_suit f.arguments kinds && (if view.in_field then reaches_fields_alone view name else true))
]

abbrev pub result_issues : View → Name → List Issue
result_issues view name = elim (function_named view.program.functions name) [
  | None ↦ []
  | Some f ↦ mismatch_unless (is_some f.result)
]

abbrev pub slice_issues : View → Option Kind → Width → Width → List Issue
slice_issues view (Some (of_bits width signed)) high low = demand (in_slice high low width) ∷ []
slice_issues view _ high low = []

-- the word of a CSR before `.sw_read` and `.sw_write`, where no visible name has it
abbrev pub csr_word : View → Expr → Option Name
csr_word view (ex.Word name) = if is_some (visible_named view name) then None else Some name
csr_word view _ = None

abbrev pub csr_word_issues : View → Name → List Issue
csr_word_issues view name = elim (csr_named view.program.csrs name) [
  | None ↦ unknown_name name ∷ []
  | Some one ↦ demand (defined one.present) ∷ []
]

-- an access to memory has one of four counts of bits
abbrev pub access_issues : ℕ → List Issue
access_issues count = mismatch_unless (is_access count)

abbrev pub address_issues : View → Expr → List Issue
address_issues view e = elim (csr_word view e) [
  | Some name ↦ []
  | None ↦ want bits_kind (kind_at view e)
]

abbrev pub new_field_issues : View → Option Name → Name → List Issue
new_field_issues view None field = mismatch ∷ []
new_field_issues view (Some csr) field = present_issues view csr field

abbrev pub binary_issues : Binary → Option Kind → Option Kind → List Issue
binary_issues b.Or x y = wants_all flag_kind (x ∷ y ∷ [])
binary_issues b.And x y = wants_all flag_kind (x ∷ y ∷ [])
binary_issues b.Equal x y = mismatch_unless (comparable x y)
binary_issues b.NotEqual x y = mismatch_unless (comparable x y)
binary_issues _ x y = wants_all bits_kind (x ∷ y ∷ [])

abbrev pub unary_issues : Unary → Option Kind → List Issue
unary_issues u.Not x = want flag_kind x
unary_issues _ x = want bits_kind x

-- what an expression asks itself, from its parts with their kinds
abbrev pub own_issues : View → Expr-F (Expr × Option Kind) → List Issue
own_issues view (Expr-F.Sized width signed n) = width_issues view width
own_issues view (Expr-F.Word name) = word_issues view name
own_issues view (Expr-F.Member kind name) = unknown_unless (is_some (member_number kind name)) name
own_issues view (Expr-F.Unary sign a) = unary_issues sign a.1
own_issues view (Expr-F.Binary sign a z) = binary_issues sign a.1 z.1
own_issues view (Expr-F.WideLeft a by) =
    width_issues view by ++ ranged 0 127 by ++ want bits_kind a.1
own_issues view (Expr-F.Choice test taken other) =
    want flag_kind test.1 ++ mismatch_unless (is_choice taken.1 other.1)
own_issues view (Expr-F.Join es) =
    mismatch_unless (nat_lt 0 (length es)) ++ wants_all bits_kind (map (λ p. p.1) es)
own_issues view (Expr-F.Repeat times a) =
    width_issues view times ++ ranged 1 128 times ++ want bits_kind a.1
own_issues view (Expr-F.Index a at) = wants_all bits_kind (a.1 ∷ at.1 ∷ [])
own_issues view (Expr-F.Slice a high low) =
    width_issues view high ++ width_issues view low ++ slice_issues view a.1 high low ++ want bits_kind a.1
own_issues view (Expr-F.Call name es) =
    call_issues view name (map (λ p. p.1) es) ++ result_issues view name
own_issues view (Expr-F.Signed a) = want bits_kind a.1
own_issues view (Expr-F.Resize width a) = width_issues view width ++ want bits_kind a.1
own_issues view Expr-F.Pc = outside_fields view
own_issues view Expr-F.Encoding = outside_fields view
own_issues view (Expr-F.Register a) = outside_fields view ++ want bits_kind a.1
own_issues view (Expr-F.Field csr field) =
    mismatch_unless view.reads_fields ++ present_issues view csr field
own_issues view (Expr-F.SoftRead a) = outside_fields view ++ address_issues view a.0
own_issues view (Expr-F.ReadMemory count at) =
    outside_fields view ++ access_issues count ++ want bits_kind at.1
own_issues view (Expr-F.NewField field) = new_field_issues view view.written field
own_issues view (Expr-F.Implemented name) = unknown_unless (lists_extension view.space name) name
own_issues view (Expr-F.ImplementedVersion extension x) =
    unknown_unless (lists_extension view.space extension) extension ++ mismatch_unless (is_some (requirement_of x))
own_issues view _ = []
