-- What an expression asks itself, as a function of the expression.
use Rattle.std.specs.Prelude.{◌++◌, Bool, true, ℕ, List, [], ◌∷◌, map, Option, is_some, if◌then◌else◌, pos, negsuc}
use Rattle.udb_base.specs.declared.names.Name.{Name}
use Rattle.udb_base.specs.declared.conditions.Cond.{Cond}
use Rattle.idl_tree.specs.declared.expressions.Expr.{Expr}
use Rattle.idl_tree.specs.declared.expressions.Expr.TheOpen.{Expr-F}
use Rattle.idl_tree.specs.declared.expressions.Expr.TheFolds.{para-Expr, map-Expr}
use Rattle.idl_spec.specs.Shapes.{Kind, function_named}
use Rattle.idl_spec.specs.Demands.{View, Issue, Check, own_issues, kind_at, kind_issues, later_function, reaches_fields_alone, Visible, outside_fields, access_issues, wants_all, bits_kind, flag_kind, want, demand, in_range, mismatch_unless}
use Rattle.idl_tree.specs.declared.widths.Width.{Width}
use Rattle.idl_tree.specs.declared.widths.Width.TheVariants as wd
use Rattle.idl_tree.specs.declared.statements.Stmt.{Stmt}
use Rattle.udb_base.specs.declared.spaces.Space.{Space}
use Rattle.idl_tree.specs.declared.programs.Body.{Body}
use Rattle.idl_tree.specs.declared.programs.Program.{Program}
use Rattle.idl_spec.specs.declared.scopes.BodyScope.{BodyScope}
use Rattle.idl_spec.specs.Checks.{check, outer_view, header_issues, expr_checks, stmt_checks, block_checks, loop_issues, is_fresh}

-- a part beside its kind
abbrev pub with_kind : View → Expr → Expr × Option Kind
with_kind view e = (e, kind_at view e)

abbrev pub own_step : View → Expr-F (Expr × List Issue) → List Issue
own_step view layer = own_issues view (map-Expr (Expr × List Issue) (Expr × Option Kind) (λ p. with_kind view p.0) layer)

-- what an expression asks itself, its width apart
unfoldable pub own_at : View → Expr → List Issue
own_at view = para-Expr (List Issue) (own_step view)

-- the check of an expression itself
unfoldable pub node_check : View → Expr → List Cond → Check
node_check view e context = check context (own_at view e ++ kind_issues (kind_at view e))

-- whether a call may stand here
abbrev pub stays : View → Name → Bool
stays view name = if view.in_field then reaches_fields_alone view name else true

abbrev pub order_issues : View → Name → List Issue
order_issues view name = if is_some (function_named view.before name) then [] else later_function name ∷ []

-- ---- statements

-- what a write to memory asks itself
abbrev pub write_issues : View → ℕ → Expr → Expr → List Issue
write_issues view count at x = outside_fields view ++ access_issues count ++ wants_all bits_kind (kind_at view at ∷ kind_at view x ∷ [])

-- a loop has at most 1,024 turns
abbrev pub turn_issues : Width → Width → List Issue
turn_issues from to = demand (in_range (negsuc 999999) (pos 1024) (wd.Minus to from)) ∷ []

-- the check of a loop itself
abbrev pub loop_check : View → Name → Width → Width → List Cond → Check
loop_check view name from to context = check context (loop_issues view from to ++ mismatch_unless (is_fresh view name))

-- the checks of a test and of the statement that has it
abbrev pub test_checks : View → Expr → List Cond → List Check
test_checks view test context = check context (want flag_kind (kind_at view test)) ∷ expr_checks view test context

-- the checks of a block, before which the names are visible
abbrev pub block_at : View → List Stmt → List Visible → List Cond → List Check
block_at view block visible context = block_checks (map (λ s. (s, stmt_checks view s)) block) visible context

-- the checks of a statement under the names that its view has
unfoldable pub statement_at : View → Stmt → List Cond → List Check
statement_at view s context = stmt_checks view s view.visible context

-- ---- bodies

-- what stands round a body of a field
abbrev pub field_view_of : Space → Program → Bool → Option Name → Option Kind → View
field_view_of space program reads written returns = record (outer_view space program) { in_field = true; reads_fields = reads; written = written; returns = returns }

-- the checks of a body under what stands round it
abbrev pub checks_in : View → Cond → BodyScope → Body → List Check
checks_in view presence scope body = check (presence ∷ []) (header_issues view scope body) ∷ block_at view body.statements view.visible (presence ∷ [])
