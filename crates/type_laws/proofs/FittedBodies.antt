-- What a body that fits gives: its checks pass in the setting where it runs.
use Rattle.std.proofs.Common.{◌≡◌, ℕ, Bool, true, List, [], ◌∷◌, ◌++◌, map, take, length, Option, None, Some, refl, sym, ap, ◌∙◌, subst}
use Rattle.std.specs.Prelude.{option_map, slice_get, flat_map}
use Rattle.std.specs.List.{list_all}
use Rattle.udb_base.specs.declared.conditions.Cond.{Cond}
use Rattle.udb_base.specs.declared.conditions.Cond.TheVariants as c
use Rattle.udb_base.specs.declared.spaces.Space.{Space}
use Rattle.udb_base.specs.declared.spaces.Full.{Full}
use Rattle.udb_spec.specs.Conditions.{holds}
use Rattle.idl_tree.specs.declared.statements.Stmt.{Stmt}
use Rattle.idl_tree.specs.declared.programs.Body.{Body}
use Rattle.idl_tree.specs.declared.programs.Function.{Function}
use Rattle.idl_tree.specs.declared.programs.CsrBody.{CsrBody}
use Rattle.idl_tree.specs.declared.programs.Program.{Program}
use Rattle.idl_spec.specs.declared.scopes.BodyScope.{BodyScope}
use Rattle.idl_spec.specs.declared.scopes.BodyScope.TheVariants as scope
use Rattle.idl_spec.specs.Shapes.{declared_kind}
use Rattle.idl_spec.specs.Harts.{State}
use Rattle.idl_spec.specs.Fields.{bits_scope}
use Rattle.idl_spec.specs.Settings.{Callee, Setting}
use Rattle.idl_spec.specs.Demands.{Issue, Check, Visible, View, mismatch_unless, shape_issues}
use Rattle.idl_spec.specs.Checks.{check, stmt_checks, block_checks, argument_names, variable_names, outer_view, function_view, view_of, header_issues, function_issues, result_shape_issues, are_fresh, return_missing, body_checks, context_holds, passes, under_of, fits}
use Rattle.type_laws.specs.Kinds.{Mode, loud, in_field, below_field, Round, view_in, under, Passes, AllPass}
use Rattle.type_laws.proofs.Outcomes.{both_true}
use Rattle.type_laws.proofs.Passing.{front, back, unless}
use Rattle.type_laws.proofs.StatementFlows.{block_in}
use Rattle.type_laws.proofs.Bodies.{ends_well}

-- ---- all checks

passes_each : (e : Setting) (known : List Cond) (issues : List Issue) → list_all (passes (under e) known) issues ≡ true → Passes e known issues
passes_each e known [] h = tt
passes_each e known (i ∷ more) h =
    let b = both_true (passes (under e) known i) (list_all (passes (under e) known) more) h in
    (b.0, passes_each e known more b.1)

passes_all : (e : Setting) (checks : List Check) → list_all (λ one. list_all (passes (under e) one.context) one.issues) checks ≡ true → AllPass e checks
passes_all e [] h = tt
passes_all e (one ∷ more) h =
    let b = both_true (list_all (passes (under e) one.context) one.issues) (list_all (λ one. list_all (passes (under e) one.context) one.issues) more) h in
    (passes_each e one.context one.issues b.0, passes_all e more b.1)

-- the checks of a body under a view
abbrev pub checks_under : View → BodyScope → Cond → Body → List Check
checks_under view at presence body =
    check (presence ∷ []) (header_issues view at body)
    ∷ block_checks (map (λ s. (s, stmt_checks view s)) body.statements) view.visible (presence ∷ [])

pub fitted : (e : Setting) (presence : Cond) (at : BodyScope) (body : Body) → under e ≡ under_of e.space e.full e.program body → fits e.space e.full e.program presence at body ≡ true
    → AllPass e (checks_under (view_of e.space e.program at body) at presence body)
unfolding fits body_checks
fitted e presence at body is h =
    passes_all e (checks_under (view_of e.space e.program at body) at presence body)
    (subst (λ u. list_all (λ one. list_all (passes u one.context) one.issues) (checks_under (view_of e.space e.program at body) at presence body) ≡ true) (sym is) h)

pub holds_here : (e : Setting) (presence : Cond) → holds e.space e.full presence ≡ true → context_holds (under e) (presence ∷ []) ≡ true
holds_here e presence h = ap (λ b. list_all (λ (x : Bool). x) (b ∷ [])) h

-- ---- the statements

-- what a view shows before a statement doesn't count: each statement is told what is visible
pub block_passes : (e : Setting) (mode : Mode) (round : Round) (inner : List Visible) (known : List Cond) (ss : List Stmt)
    → AllPass e (block_checks (map (λ s. (s, stmt_checks (view_in e mode round inner) s)) ss) (variable_names e.variables ++ inner) known) → AllPass e (block_in e mode round ss inner known)
unfolding stmt_checks
block_passes e mode round inner known ss h = h

-- ---- functions

-- where a function's body stands: in an operation, or below a body of a field
abbrev pub IsCallMode : Mode → Type 0
IsCallMode (in_field reads) = ⊥
IsCallMode _ = Unit {0}

abbrev pub round_of : List Function → Function → Round
round_of earlier f = record { before = earlier; returns = option_map declared_kind f.result }

-- a setting outside instructions, and not in a body of `sw_write`
abbrev pub plain_setting : Space → Full → Program → List Callee → Option (CsrBody → ℕ → State → Option State) → Setting
plain_setting space full program callees soft_write = record {
  space = space;
  full = full;
  program = program;
  variables = [];
  callees = callees;
  soft_write = soft_write;
  written = None;
}

module _ (space : Space) (full : Full) (program : Program) (callees : List Callee) (soft_write : Option (CsrBody → ℕ → State → Option State)) (mode : Mode) where
  abbrev e : Setting
  e = plain_setting space full program callees soft_write

  -- what passes of a function's body, and of its header
  pub record FunctionPasses (earlier : List Function) (f : Function) : Type 0 where
    pub header : Passes e (c.Always ∷ []) (result_shape_issues (view_in e mode (round_of earlier f) (argument_names f.arguments)) f.result)
    pub arguments : Passes e (c.Always ∷ []) (flat_map (λ a. shape_issues (view_in e mode (round_of earlier f) (argument_names f.arguments)) a.shape) f.arguments)
    pub fresh : are_fresh space.params f.arguments ≡ true
    pub ends : ends_well (option_map declared_kind f.result) f.body.statements ≡ true
    pub statements : AllPass e (block_in e mode (round_of earlier f) f.body.statements (argument_names f.arguments) (c.Always ∷ []))

  at_place : (earlier later : List Function) (f : Function) → slice_get (earlier ++ f ∷ later) (length earlier) ≡ Some f
  at_place [] later f = refl
  at_place (g ∷ gs) later f = at_place gs later f

  before_place : (earlier later : List Function) → take (length earlier) (earlier ++ later) ≡ earlier
  before_place [] later = refl
  before_place (g ∷ gs) later = ap (λ xs. g ∷ xs) (before_place gs later)

  abbrev headed : View → Function → List Check
  headed view f =
      check (c.Always ∷ []) (function_issues view (Some f) ++ return_missing view f.body)
      ∷ block_checks (map (λ s. (s, stmt_checks view s)) f.body.statements) view.visible (c.Always ∷ [])

  abbrev view_before : List Function → Function → View
  view_before earlier f =
      record (outer_view space program) { before = earlier; returns = option_map declared_kind f.result; visible = argument_names f.arguments }

  -- the view of the function at a place
  view_there : (place : ℕ) (f : Function) (earlier : List Function) → slice_get program.functions place ≡ Some f → take place program.functions ≡ earlier
      → AllPass e (checks_under (view_of space program (scope.Function place) f.body) (scope.Function place) c.Always f.body) → AllPass e (headed (view_before earlier f) f)
  view_there place f earlier is before h =
      subst (λ gs. AllPass e (headed (view_before gs f) f)) before
      (subst (λ o. AllPass e (check (c.Always ∷ []) (function_issues (view_before (take place program.functions) f) o ++ return_missing (view_before (take place program.functions) f) f.body)
      ∷ block_checks (map (λ s. (s, stmt_checks (view_before (take place program.functions) f) s)) f.body.statements) (argument_names f.arguments) (c.Always ∷ []))) is
      (subst (λ o. AllPass e (checks_under (function_view (outer_view space program) place o) (scope.Function place) c.Always f.body)) is h))

  call_view : IsCallMode mode → (earlier : List Function) (f : Function) → view_before earlier f ≡ view_in e mode (round_of earlier f) (argument_names f.arguments)
  call_view ok earlier f = at mode ok
    where
      at : (m : Mode) → IsCallMode m → view_before earlier f ≡ view_in e m (round_of earlier f) (argument_names f.arguments)
      at loud ok = refl
      at (below_field reads) ok = refl
      at (in_field reads) ok = absurd ok

  pub function_passes : IsCallMode mode → (earlier later : List Function) (f : Function) → program.functions ≡ earlier ++ f ∷ later → f.body.variables ≡ []
      → fits space full program c.Always (scope.Function (length earlier)) f.body ≡ true → FunctionPasses earlier f
  function_passes ok earlier later f is bare h =
      let all = fitted e c.Always (scope.Function (length earlier)) f.body (ap (λ vs. record { space = space; full = full; program = program; bits = bits_scope program vs }) (sym bare)) h in
      let there = view_there (length earlier) f earlier (ap (λ fs. slice_get fs (length earlier)) is ∙ at_place earlier later f) (ap (take (length earlier)) is ∙ before_place earlier (f ∷ later)) all in
      let p = subst (λ view. AllPass e (headed view f)) (call_view ok earlier f) there in
      let view = view_in e mode (round_of earlier f) (argument_names f.arguments) in
      let own = front e (c.Always ∷ []) (function_issues view (Some f)) (return_missing view f.body) p.0 in
      let shapes = result_shape_issues view f.result ++ flat_map (λ a. shape_issues view a.shape) f.arguments in
      let sizes = front e (c.Always ∷ []) shapes (mismatch_unless (are_fresh space.params f.arguments)) own in
      record {
        header = front e (c.Always ∷ []) (result_shape_issues view f.result) _ sizes;
        arguments = back e (c.Always ∷ []) (result_shape_issues view f.result) _ sizes;
        fresh = unless e (c.Always ∷ []) _ (back e (c.Always ∷ []) shapes (mismatch_unless (are_fresh space.params f.arguments)) own);
        ends = unless e (c.Always ∷ []) _ (back e (c.Always ∷ []) (function_issues view (Some f)) (return_missing view f.body) p.0);
        statements = block_passes e mode (round_of earlier f) (argument_names f.arguments) (c.Always ∷ []) f.body.statements p.1;
      }
