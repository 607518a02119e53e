-- What the typing of a body asks at each of its nodes, in which context, and when a body fits a
-- full configuration. A body has one `Check` for each node in prefix order; the first, of number 0,
-- is that of the header.
use Rattle.std.specs.Prelude.{◌&&◌, ◌||◌, ◌-◌, ◌^◌, Bool, true, false, not, ℕ, List, [], ◌∷◌, ◌++◌, map, flat_map, take, slice_get, Option, None, Some, option_map, is_some, if◌then◌else◌, ℤ, pos, negsuc, int_le, int_lt}
use Rattle.std.specs.List.{list_any, list_all}
use Rattle.udb_base.specs.declared.names.Name.{Name}
use Rattle.udb_base.specs.declared.conditions.Cond.{Cond}
use Rattle.udb_base.specs.declared.spaces.ParamSpace.{ParamSpace}
use Rattle.udb_base.specs.declared.spaces.Space.{Space}
use Rattle.udb_base.specs.declared.spaces.Full.{Full}
use Rattle.udb_spec.specs.Conditions.{holds, same_bytes}
use Rattle.idl_tree.specs.declared.widths.Width.{Width}
use Rattle.idl_tree.specs.declared.widths.Width.TheVariants as wd
use Rattle.idl_tree.specs.declared.widths.EnumKind.TheVariants.{ExceptionCode, CsrFieldType}
use Rattle.idl_tree.specs.declared.widths.Shape.{Shape}
use Rattle.idl_tree.specs.declared.expressions.Binary.{Binary}
use Rattle.idl_tree.specs.declared.expressions.Binary.TheVariants as b
use Rattle.idl_tree.specs.declared.expressions.Expr.{Expr}
use Rattle.idl_tree.specs.declared.expressions.Expr.TheOpen.{Expr-F}
use Rattle.idl_tree.specs.declared.expressions.Expr.TheFolds.{para-Expr, map-Expr}
use Rattle.idl_tree.specs.declared.statements.Target.{Target}
use Rattle.idl_tree.specs.declared.statements.Target.TheVariants as t
use Rattle.idl_tree.specs.declared.statements.Stmt.{Stmt}
use Rattle.idl_tree.specs.declared.statements.Stmt.TheVariants as st
use Rattle.idl_tree.specs.declared.statements.Stmt.TheOpen.{Stmt-F}
use Rattle.idl_tree.specs.declared.statements.Stmt.TheFolds.{para-Stmt}
use Rattle.idl_tree.specs.declared.programs.Variable.{Variable}
use Rattle.idl_tree.specs.declared.programs.Argument.{Argument}
use Rattle.idl_tree.specs.declared.programs.Body.{Body}
use Rattle.idl_tree.specs.declared.programs.Function.{Function}
use Rattle.idl_tree.specs.declared.programs.Program.{Program}
use Rattle.idl_width.specs.declared.scopes.BitsOf.{BitsOf}
use Rattle.idl_width.specs.Numbers.{width_number}
use Rattle.idl_spec.specs.declared.scopes.BodyScope.{BodyScope}
use Rattle.idl_spec.specs.declared.scopes.BodyScope.TheVariants as scope
use Rattle.idl_spec.specs.Shapes.{Kind, of_bits, of_member, declared_kind, parameter_named, shape_step}
use Rattle.idl_spec.specs.Fields.{present_field, bits_scope}
use Rattle.idl_tree.specs.Operands.{layer_operands, target_operands}
use Rattle.idl_spec.specs.Deeds.{ends_in_return}
use Rattle.idl_spec.specs.TestPlaces.{where_true, where_false}
use Rattle.idl_spec.specs.Demands.{Demand, Issue, Check, Visible, View, visible_named, names_at, kind_at, mismatch_unless, present_issues, width_issues, ranged, kind_issues, shape_issues, suits, bits_kind, flag_kind, want, wants_all, outside_fields, access_issues, call_issues, slice_issues, csr_word, csr_word_issues, address_issues, own_issues, in_range, in_slice, defined, present, unknown_name, mismatch, demand}

-- ---- expressions

-- the checks of an expression and the nodes below it in a context
abbrev pub Checks : Type 0
Checks = List Cond → List Check

abbrev pub check : List Cond → List Issue → Check
check context issues = record { context = context; issues = issues }

-- an operand beside its checks
abbrev pub Part : Type 0
Part = Expr × Checks

-- the word of a CSR is no value
abbrev pub address_checks : View → Part → Checks
address_checks view part context = elim (csr_word view part.0) [
  | Some name ↦ check context (csr_word_issues view name) ∷ []
  | None ↦ part.1 context
]

-- the right operand stands where the left one leaves it open, a side where the test takes it
abbrev pub binary_below : View → Binary → Part → Part → Checks
binary_below view b.And a z context = a.1 context ++ z.1 (where_true view.space a.0 context)
binary_below view b.Or a z context = a.1 context ++ z.1 (where_false view.space a.0 context)
binary_below view _ a z context = a.1 context ++ z.1 context

abbrev pub below : View → Expr-F Part → Checks
below view (Expr-F.Binary sign a z) context = binary_below view sign a z context
below view (Expr-F.Choice test taken other) context =
    test.1 context ++ (taken.1 (where_true view.space test.0 context) ++ other.1 (where_false view.space test.0 context))
below view (Expr-F.SoftRead a) context = address_checks view a context
below view layer context = flat_map (λ p. p.1 context) (layer_operands layer)

abbrev pub checks_step : View → Expr-F Part → Checks
checks_step view layer context =
    let with_kinds = map-Expr Part (Expr × Option Kind) (λ p. (p.0, kind_at view p.0)) layer in
    let kind =
    shape_step (names_at view) (map-Expr Part (Option Kind) (λ p. kind_at view p.0) layer) in
    check context (own_issues view with_kinds ++ kind_issues kind) ∷ below view layer context

unfoldable pub expr_checks : View → Expr → Checks
expr_checks view = para-Expr Checks (checks_step view)

-- ---- targets: the kind that the value has to have, and the checks

abbrev pub local_kind : Option Visible → Option Kind
local_kind one = option_map (λ v. v.kind) one

abbrev pub target_kind : View → Target → Option Kind
target_kind view (t.Word name) = local_kind (visible_named view name)
target_kind view _ = bits_kind

-- a local or an argument
abbrev pub assigned_issues : View → Name → Option Visible → List Issue
assigned_issues view name None =
    if is_some (parameter_named view.space.params name) then mismatch ∷ [] else unknown_name name ∷ []
assigned_issues view name (Some v) = mismatch_unless v.is_assignable

abbrev pub target_issues : View → Target → List Issue
target_issues view (t.Word name) = assigned_issues view name (visible_named view name)
target_issues view (t.Bit name at) =
    assigned_issues view name (visible_named view name)
    ++ want bits_kind (local_kind (visible_named view name))
    ++ want bits_kind (kind_at view at)
target_issues view (t.Slice name high low) =
    assigned_issues view name (visible_named view name) ++ width_issues view high ++ width_issues view low
    ++ slice_issues view (local_kind (visible_named view name)) high low
    ++ want bits_kind (local_kind (visible_named view name))
target_issues view (t.Register at) = outside_fields view ++ want bits_kind (kind_at view at)
target_issues view (t.Field csr field) = outside_fields view ++ present_issues view csr field

abbrev pub target_checks : View → Target → Checks
target_checks view target context =
    check context (target_issues view target) ∷ flat_map (λ x. expr_checks view x context) (target_operands target)

-- ---- statements: the checks, under the names that are visible before and a context

abbrev pub visible_local : Name → Kind → Visible
visible_local name kind = record { name = name; kind = kind; is_assignable = true }

-- the name that a statement makes visible behind it
abbrev pub declares : Stmt → List Visible
declares (st.Declare declared name x) = visible_local name (declared_kind declared) ∷ []
declares _ = []

abbrev pub Walk : Type 0
Walk = List Visible → List Cond → List Check

-- a statement beside its checks
abbrev pub Step : Type 0
Step = Stmt × Walk

-- what is declared in a block is gone behind it
abbrev pub block_checks : List Step → Walk
block_checks [] visible context = []
block_checks (one ∷ more) visible context =
    one.1 visible context ++ block_checks more (visible ++ declares one.0) context

abbrev pub other_checks : Option (List Step) → Walk
other_checks None visible context = []
other_checks (Some steps) visible context = block_checks steps visible context

-- a visible name, a parameter's too, is not declared again
abbrev pub is_fresh : View → Name → Bool
is_fresh view name =
    not (is_some (visible_named view name) || is_some (parameter_named view.space.params name))

abbrev pub counter : Name → Visible
counter name = record { name = name; kind = of_bits (wd.Number 32) false; is_assignable = false }

-- bounds of 32 bits, and at most 1,024 turns
abbrev pub loop_issues : View → Width → Width → List Issue
loop_issues view from to =
    width_issues view from
    ++ width_issues view to
    ++ ranged 0 (2 ^ 32 - 1) from
    ++ ranged 0 (2 ^ 32 - 1) to
    ++ demand (in_range (negsuc 999999) (pos 1024) (wd.Minus to from)) ∷ []

abbrev pub return_issues : View → Expr → List Issue
return_issues view x =
    elim view.returns [ None ↦ mismatch ∷ [] | Some kind ↦ want (Some kind) (kind_at view x) ]

abbrev pub step_checks : View → Stmt-F Step → List Cond → List Check
step_checks view (Stmt-F.Declare declared name x) context =
    check context
    (shape_issues view declared
    ++ mismatch_unless (is_fresh view name && suits (Some (declared_kind declared)) (kind_at view x)))
    ∷ expr_checks view x context
step_checks view (Stmt-F.Assign target x) context =
    check context (want (target_kind view target) (kind_at view x))
    ∷ (target_checks view target context ++ expr_checks view x context)
step_checks view (Stmt-F.Block steps) context =
    check context [] ∷ block_checks steps view.visible context
step_checks view (Stmt-F.Return x) context =
    check context (return_issues view x) ∷ expr_checks view x context
step_checks view (Stmt-F.If test taken other) context =
    check context (want flag_kind (kind_at view test))
    ∷ (expr_checks view test context
    ++ (block_checks taken view.visible (where_true view.space test context)
    ++ other_checks other view.visible (where_false view.space test context)))
step_checks view (Stmt-F.For name from to steps) context =
    check context (loop_issues view from to ++ mismatch_unless (is_fresh view name))
    ∷ block_checks steps (view.visible ++ counter name ∷ []) context
step_checks view (Stmt-F.Jump x) context =
    check context (outside_fields view ++ want bits_kind (kind_at view x)) ∷ expr_checks view x context
step_checks view (Stmt-F.Raise cause tval) context =
    check context
    (outside_fields view
    ++ want (Some (of_member ExceptionCode)) (kind_at view cause)
    ++ want bits_kind (kind_at view tval))
    ∷ (expr_checks view cause context ++ expr_checks view tval context)
step_checks view (Stmt-F.WriteMemory count at x) context =
    check context
    (outside_fields view ++ access_issues count ++ wants_all bits_kind (kind_at view at ∷ kind_at view x ∷ []))
    ∷ (expr_checks view at context ++ expr_checks view x context)
step_checks view (Stmt-F.SoftWrite address x) context =
    check context (outside_fields view ++ address_issues view address ++ want bits_kind (kind_at view x))
    ∷ (address_checks view (address, expr_checks view address) context ++ expr_checks view x context)
step_checks view (Stmt-F.Call name args) context =
    check context (call_issues view name (map (kind_at view) args)) ∷ flat_map (λ a. expr_checks view a context) args

abbrev pub walk_step : View → Stmt-F Step → Walk
walk_step view layer visible context = step_checks (record view { visible = visible }) layer context

unfoldable pub stmt_checks : View → Stmt → Walk
stmt_checks view = para-Stmt Walk (walk_step view)

-- ---- whole bodies

abbrev pub variable_names : List Variable → List Visible
variable_names vs =
    map (λ v. record { name = v.name; kind = of_bits (wd.Bits None v.name) false; is_assignable = false }) vs

abbrev pub argument_names : List Argument → List Visible
argument_names arguments = map (λ a. visible_local a.name (declared_kind a.shape)) arguments

abbrev pub outer_view : Space → Program → View
outer_view space program = record {
  space = space;
  program = program;
  variables = [];
  before = program.functions;
  in_field = false;
  reads_fields = true;
  written = None;
  returns = None;
  visible = [];
}

abbrev pub csr_name : Program → ℕ → Option Name
csr_name program place = option_map (λ one. one.name) (slice_get program.csrs place)

abbrev pub field_view : View → Bool → Option Name → Kind → View
field_view view reads written kind =
    record view { in_field = true; reads_fields = reads; written = written; returns = Some kind }

abbrev pub function_view : View → ℕ → Option Function → View
function_view view place None = view
function_view view place (Some f) = record view {
  before = take place view.program.functions;
  returns = option_map declared_kind f.result;
  visible = argument_names f.arguments;
}

-- what stands round the statements of a body
abbrev pub view_of : Space → Program → BodyScope → Body → View
view_of space program scope.Operation body =
    record (outer_view space program) { variables = body.variables; visible = variable_names body.variables }
view_of space program (scope.Function place) body =
    function_view (outer_view space program) place (slice_get program.functions place)
view_of space program (scope.FieldType csr field) body =
    field_view (outer_view space program) false None (of_member CsrFieldType)
view_of space program (scope.FieldReset csr field) body =
    field_view (outer_view space program) false None (of_bits (wd.Number 1) false)
view_of space program (scope.FieldWrite csr field) body =
    field_view (outer_view space program) true (csr_name program csr) (of_bits (wd.Number 1) false)

-- arguments with distinct names, none a parameter's
abbrev pub are_fresh : List ParamSpace → List Argument → Bool
are_fresh params [] = true
are_fresh params (a ∷ more) =
    not (list_any (λ z. same_bytes z.name a.name) more || is_some (parameter_named params a.name))
    && are_fresh params more

abbrev pub result_shape_issues : View → Option Shape → List Issue
result_shape_issues view None = []
result_shape_issues view (Some declared) = shape_issues view declared

abbrev pub function_issues : View → Option Function → List Issue
function_issues view None = []
function_issues view (Some f) =
    result_shape_issues view f.result
    ++ flat_map (λ a. shape_issues view a.shape) f.arguments
    ++ mismatch_unless (are_fresh view.space.params f.arguments)

-- what returns a value ends in return
abbrev pub return_missing : View → Body → List Issue
return_missing view body =
    mismatch_unless (not (is_some view.returns) || ends_in_return body.statements)

abbrev pub header_issues : View → BodyScope → Body → List Issue
header_issues view (scope.Function place) body =
    function_issues view (slice_get view.program.functions place) ++ return_missing view body
header_issues view _ body = return_missing view body

-- the checks of a body, the header's first
unfoldable pub body_checks : Space → Program → Cond → BodyScope → Body → List Check
body_checks space program presence scope body =
    let view = view_of space program scope body in
    let context = presence ∷ [] in
    check context (header_issues view scope body)
    ∷ block_checks (map (λ s. (s, stmt_checks view s)) body.statements) view.visible context

-- ---- under a full configuration

-- what a body's widths mean under a full configuration
pub record Under : Type 0 where
  pub space : Space
  pub full : Full
  pub program : Program
  pub bits : List BitsOf

abbrev pub number_at : Under → Width → ℤ
number_at under width = width_number under.space under.full under.bits width

abbrev pub is_met : Under → Demand → Bool
is_met under (in_range low high width) =
    int_le low (number_at under width) && int_le (number_at under width) high
is_met under (in_slice high low of) =
    int_le (pos 0) (number_at under low)
    && (int_le (number_at under low) (number_at under high) && int_lt (number_at under high) (number_at under of))
is_met under (defined x) = holds under.space under.full x
is_met under (present csr field) =
    is_some (present_field under.space under.full under.program csr field)

abbrev pub context_holds : Under → List Cond → Bool
context_holds under context = list_all (holds under.space under.full) context

-- nothing is unknown, mismatched or out of order, and a demand is met where the context holds
abbrev pub passes : Under → List Cond → Issue → Bool
passes under context (demand one) = not (context_holds under context) || is_met under one
passes under context _ = false

abbrev pub under_of : Space → Full → Program → Body → Under
under_of space full program body =
    record { space = space; full = full; program = program; bits = bits_scope program body.variables }

-- the body fits the full configuration
unfoldable pub fits : Space → Full → Program → Cond → BodyScope → Body → Bool
fits space full program presence scope body =
    list_all (λ one. list_all (passes (under_of space full program body) one.context) one.issues)
    (body_checks space program presence scope body)
