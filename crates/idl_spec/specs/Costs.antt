-- The parameters that widths name, and the cost of bodies: a bound on how much a run of one can
-- take.
use Rattle.std.specs.Prelude.{◌&&◌, ◌||◌, ◌+◌, ◌*◌, Bool, true, false, not, ℕ, min, max, nat_lt, List, [], ◌∷◌, ◌++◌, map, fold, flat_map, filter, find, take, length, slice_get, sum, sum_by, Option, None, Some, if◌then◌else◌, codes, ℤ, pos, negsuc, ◌-ℤ◌}
use Rattle.std.specs.List.{list_any}
use Rattle.udb_base.specs.declared.names.Name.{Name}
use Rattle.udb_base.specs.declared.conditions.Value.{Value}
use Rattle.udb_base.specs.declared.conditions.Value.TheVariants as given
use Rattle.udb_base.specs.declared.spaces.Domain.{Domain}
use Rattle.udb_base.specs.declared.spaces.Domain.TheVariants as d
use Rattle.udb_base.specs.declared.spaces.ParamSpace.{ParamSpace}
use Rattle.udb_base.specs.declared.spaces.Space.{Space}
use Rattle.udb_base.specs.declared.spaces.Full.{Full}
use Rattle.udb_spec.specs.Conditions.{same_bytes}
use Rattle.udb_spec.specs.Spaces.{first_value}
use Rattle.idl_tree.specs.declared.widths.Width.{Width}
use Rattle.idl_tree.specs.declared.widths.Width.TheOpen.{Width-F}
use Rattle.idl_tree.specs.declared.widths.Width.TheFolds.{fold-Width}
use Rattle.idl_tree.specs.declared.expressions.Expr.{Expr}
use Rattle.idl_tree.specs.declared.expressions.Expr.TheOpen.{Expr-F}
use Rattle.idl_tree.specs.declared.expressions.Expr.TheFolds.{fold-Expr}
use Rattle.idl_tree.specs.declared.statements.Stmt.{Stmt}
use Rattle.idl_tree.specs.declared.statements.Stmt.TheOpen.{Stmt-F}
use Rattle.idl_tree.specs.declared.statements.Stmt.TheFolds.{fold-Stmt}
use Rattle.idl_tree.specs.declared.programs.Base.{Base}
use Rattle.idl_tree.specs.declared.programs.Base.TheVariants as base
use Rattle.idl_tree.specs.declared.programs.Variable.{Variable}
use Rattle.idl_tree.specs.declared.programs.Body.{Body}
use Rattle.idl_tree.specs.declared.programs.Function.{Function}
use Rattle.idl_tree.specs.declared.programs.FieldPlaces.{FieldPlaces}
use Rattle.idl_tree.specs.declared.programs.FieldPlaces.TheVariants as places
use Rattle.idl_tree.specs.declared.programs.FieldKind.{FieldKind}
use Rattle.idl_tree.specs.declared.programs.FieldKind.TheVariants as kind
use Rattle.idl_tree.specs.declared.programs.ResetValue.{ResetValue}
use Rattle.idl_tree.specs.declared.programs.ResetValue.TheVariants as reset
use Rattle.idl_tree.specs.declared.programs.Program.{Program}
use Rattle.idl_width.specs.declared.scopes.BitsOf.{BitsOf}
use Rattle.idl_width.specs.Numbers.{width_number}
use Rattle.idl_spec.specs.declared.scopes.BodyScope.{BodyScope}
use Rattle.idl_spec.specs.declared.scopes.BodyScope.TheVariants as scope
use Rattle.idl_spec.specs.Fields.{bits_scope}
use Rattle.udb_base.specs.Lists.{is_among}
use Rattle.idl_tree.specs.Operands.{layer_operands, layer_parts}
use Rattle.idl_spec.specs.Deeds.{called_names, deeds_of, reached}
use Rattle.idl_spec.specs.Demands.{Demand, in_range, in_slice, defined, present}

-- ---- the parameters of widths

-- which parameters a width names, and whether it multiplies two widths that both name some
pub record Named : Type 0 where
  pub params : List Name
  pub is_product : Bool

abbrev pub names_nothing : Named
names_nothing = record { params = []; is_product = false }

-- each name once
abbrev pub named_by_both : Named → Named → Named
named_by_both a z = record {
  params = a.params ++ filter (λ name. not (is_among same_bytes name a.params)) z.params;
  is_product = a.is_product || z.is_product;
}

abbrev pub names_some : Named → Bool
names_some a = nat_lt 0 (length a.params)

abbrev pub multiplied : Named → Named → Named
multiplied a z =
    record (named_by_both a z) { is_product = (a.is_product || z.is_product) || (names_some a && names_some z) }

-- what stands by base names MXLEN
abbrev pub by_base : Bool → Named
by_base x = record { params = (if x then codes "MXLEN" ∷ [] else []); is_product = false }

abbrev pub is_for_all : Base → Bool
is_for_all base.All = true
is_for_all _ = false

abbrev pub is_everywhere : FieldPlaces → Bool
is_everywhere (places.All part) = true
is_everywhere _ = false

abbrev pub field_by_base : Program → Name → Name → Bool
field_by_base program csr field =
    list_any (λ one. same_bytes one.name csr
    && list_any (λ f. same_bytes f.name field && not (is_everywhere f.places)) one.fields)
    program.csrs

abbrev pub bits_named : Program → List Variable → Option Name → Name → Named
bits_named program variables None name =
    by_base (list_any (λ v. same_bytes v.name name && not (is_for_all v.base)) variables)
bits_named program variables (Some csr) name = by_base (field_by_base program csr name)

abbrev pub named_step : Program → List Variable → Width-F Named → Named
named_step program variables (Width-F.Number n) = names_nothing
named_step program variables (Width-F.Word name) = record { params = name ∷ []; is_product = false }
named_step program variables (Width-F.Plus a z) = named_by_both a z
named_step program variables (Width-F.Minus a z) = named_by_both a z
named_step program variables (Width-F.Times a z) = multiplied a z
named_step program variables (Width-F.Max a z) = named_by_both a z
named_step program variables (Width-F.Bits csr name) = bits_named program variables csr name

unfoldable pub named_in : Program → List Variable → Width → Named
named_in program variables = fold-Width Named (named_step program variables)

-- the widths that a demand compares
abbrev pub demand_named : Program → List Variable → Demand → Named
demand_named program variables (in_range low high width) = named_in program variables width
demand_named program variables (in_slice high low of) =
    named_by_both (named_in program variables high)
    (named_by_both (named_in program variables low) (named_in program variables of))
demand_named program variables (defined x) = names_nothing
demand_named program variables (present csr field) = names_nothing

-- more than two parameters together
abbrev pub is_costly : Program → List Variable → Demand → Bool
is_costly program variables one =
    let named = demand_named program variables one
    in named.is_product || nat_lt 2 (length named.params)

-- ---- the greatest number of turns of a loop, over all listed values of the parameters that its bounds name

abbrev pub listed_values : Domain → List Value
listed_values (d.Numbers ns) = map given.Number ns
listed_values _ = given.Number 0 ∷ []

abbrev pub unlisted : Domain → List Value
unlisted domain = elim (first_value domain) [
  | None ↦ given.Number 0 ∷ []
  | Some x ↦ x ∷ []
]

abbrev pub listings : List Name → List ParamSpace → List (List Value)
listings names [] = [] ∷ []
listings names (p ∷ ps) =
    flat_map (λ x. map (λ xs. x ∷ xs) (listings names ps))
    (if is_among same_bytes p.name names then listed_values p.domain else unlisted p.domain)

abbrev pub not_below_zero : ℤ → ℕ
not_below_zero (pos n) = n
not_below_zero (negsuc n) = 0

abbrev pub turns_under : Space → List BitsOf → Width → Width → List Value → ℕ
turns_under space bits from to values =
    let full : Full = record { extensions = map (λ x. None) space.extensions; params = values } in
    not_below_zero (width_number space full bits to -ℤ width_number space full bits from)

-- counted as at most 1,024
unfoldable pub greatest_turns : Space → Program → List Variable → Width → Width → ℕ
greatest_turns space program variables from to =
    let names =
    (named_by_both (named_in program variables from) (named_in program variables to)).params in
    min 1024 (fold max 0 (map (turns_under space (bits_scope program variables) from to) (listings names space.params)))

-- ---- costs

-- what a body's cost depends on: the costs of the functions declared before, and what `sw_read` and
-- `sw_write` add
pub record Prices : Type 0 where
  pub space : Space
  pub program : Program
  pub variables : List Variable
  pub functions : List (Name × ℕ)
  pub soft : ℕ

abbrev pub price_of : Prices → Name → ℕ
price_of prices name = elim (find (λ p. same_bytes p.0 name) prices.functions) [
  | None ↦ 0
  | Some p ↦ p.1
]

abbrev pub expr_price : Prices → Expr-F ℕ → ℕ
expr_price prices (Expr-F.Call name es) = price_of prices name
expr_price prices (Expr-F.SoftRead a) = prices.soft
expr_price prices _ = 0

-- one for the node, what it adds, and its parts
abbrev pub cost_step : Prices → Expr-F ℕ → ℕ
cost_step prices layer = 1 + expr_price prices layer + sum (layer_operands layer)

unfoldable pub expr_cost : Prices → Expr → ℕ
expr_cost prices = fold-Expr ℕ (cost_step prices)

-- the target of an assignment is a node
abbrev pub target_nodes : Stmt-F ℕ → ℕ
target_nodes (Stmt-F.Assign target x) = 1
target_nodes _ = 0

abbrev pub stmt_price : Prices → Stmt-F ℕ → ℕ
stmt_price prices (Stmt-F.Call name args) = price_of prices name
stmt_price prices (Stmt-F.SoftWrite address x) = prices.soft
stmt_price prices _ = 0

-- a loop's block counts once for each turn
abbrev pub blocks_cost : Prices → Stmt-F ℕ → ℕ
blocks_cost prices (Stmt-F.For name from to block) =
    greatest_turns prices.space prices.program prices.variables from to * sum block
blocks_cost prices layer = sum_by sum (layer_parts layer).blocks

abbrev pub stmt_cost_step : Prices → Stmt-F ℕ → ℕ
stmt_cost_step prices layer =
    1 + stmt_price prices layer + target_nodes layer
    + sum_by (expr_cost prices) (layer_parts layer).values
    + blocks_cost prices layer

unfoldable pub stmt_cost : Prices → Stmt → ℕ
stmt_cost prices = fold-Stmt ℕ (stmt_cost_step prices)

abbrev pub cost_under : Prices → List Stmt → ℕ
cost_under prices stmts = sum_by (stmt_cost prices) stmts

-- ---- the costs of functions, each under those declared before

abbrev pub function_prices : Space → Program → (Name → ℕ) → List (Name × ℕ) → List Function → List
    (Name × ℕ)
function_prices space program soft done [] = done
function_prices space program soft done (f ∷ fs) =
    let prices : Prices =
    record { space = space; program = program; variables = []; functions = done; soft = soft f.name } in
    function_prices space program soft (done ++ (f.name, cost_under prices f.body.statements) ∷ []) fs

abbrev pub kind_bodies : FieldKind → List Body
kind_bodies (kind.Plain type) = []
kind_bodies (kind.Computed body) = body ∷ []

abbrev pub reset_bodies : ResetValue → List Body
reset_bodies (reset.Plain n) = []
reset_bodies (reset.Computed body) = body ∷ []

abbrev pub write_bodies : Option Body → List Body
write_bodies None = []
write_bodies (Some body) = body ∷ []

-- the bodies of all fields
abbrev pub field_bodies : Program → List Body
field_bodies program =
    flat_map (λ one. flat_map (λ f. kind_bodies f.kind ++ (reset_bodies f.reset ++ write_bodies f.write)) one.fields)
    program.csrs

abbrev pub reached_by_fields : Program → List Name
reached_by_fields program =
    map (λ f. f.name)
    (reached program.functions (flat_map (λ body. called_names (deeds_of body.statements)) (field_bodies program)))

-- in bodies of fields, and in the functions that they reach, `sw_read` and `sw_write` add nothing
unfoldable pub cost_of_fields : Space → Program → ℕ
cost_of_fields space program =
    let prices : Prices = record {
      space = space;
      program = program;
      variables = [];
      functions = function_prices space program (λ name. 0) [] program.functions;
      soft = 0;
    } in
    sum_by (λ body. cost_under prices body.statements) (field_bodies program)

abbrev pub soft_price : Space → Program → Name → ℕ
soft_price space program name =
    if is_among same_bytes name (reached_by_fields program) then 0 else cost_of_fields space program

abbrev pub prices_of : Space → Program → List Function → Body → ℕ → Prices
prices_of space program functions body soft = record {
  space = space;
  program = program;
  variables = body.variables;
  functions = function_prices space program (soft_price space program) [] functions;
  soft = soft;
}

abbrev pub function_soft : Space → Program → Option Function → ℕ
function_soft space program None = 0
function_soft space program (Some f) = soft_price space program f.name

-- the cost of a body
unfoldable pub cost_of : Space → Program → BodyScope → Body → ℕ
cost_of space program scope.Operation body =
    cost_under (prices_of space program program.functions body (cost_of_fields space program)) body.statements
cost_of space program (scope.Function place) body =
    cost_under
    (prices_of space program (take place program.functions) body
    (function_soft space program (slice_get program.functions place)))
    body.statements
cost_of space program _ body =
    cost_under (prices_of space program program.functions body 0) body.statements
