-- Calls: the function of the name under those before it, or nothing.
use Rattle.std.proofs.Common.{◌≡◌, ℕ, List, [], map, take, get_or, Result, Ok, Err, Option, None, Some, refl, sym, ap, ◌∙◌}
use Rattle.std.specs.Prelude.{find, option_map}
use Rattle.std.specs.List.{position}
use Rattle.udb_spec.specs.Conditions.{same_bytes}
use Rattle.idl_tree.specs.declared.programs.Function.{Function}
use Rattle.idl_tree.specs.declared.statements.Stmt.{Stmt}
use Rattle.idl_spec.specs.Values as meant
use Rattle.idl_spec.specs.Harts.{State, Outcome, done, stuck, and_then, or_stuck}
use Rattle.idl_spec.specs.Shapes.{function_named}
use Rattle.idl_spec.specs.Settings.{Callee, Setting, Scope, Reading, Flow}
use Rattle.idl_spec.specs.Forms.{call, values_in_turn}
use Rattle.idl_spec.specs.Mean.{mean_stmts}
use Rattle.idl_spec.specs.Programs.{with_functions, before, returned, run_stmts, arguments, result, run_function}
use Rattle.idl_spec.specs.ProgramLaws.{callee_under, callee-named}
use Rattle.idl_forms.specs.declared.scenes.Scene.{Scene}
use Rattle.idl_forms.specs.declared.values.Local.{Local}
use Rattle.idl_forms.specs.declared.values.Value.{Value}
use Rattle.idl_forms.specs.declared.values.Stop.{Stop}
use Rattle.idl_forms.specs.declared.values.Stop.TheVariants.{Memory, Raised, Stuck}
use Rattle.idl_forms.specs.States.{as_value, scope_of, value_if_any, Ends, Finds, or_stop}
use Rattle.idl_forms.proofs.SceneKinds.{or-stop-ok}
use Rattle.idl_forms.specs.Scenes.{setting_of}
use Rattle.idl_forms.proofs.Endings.{ends-same, early}
use Rattle.idl_mean.specs.Flows.{flow_of}
use Rattle.idl_mean.proofs.Scenes.{plain-setting, named-place, none-named}

abbrev chosen : Option Callee → List meant.Value → State → Outcome (Option meant.Value)
chosen one vs t = or_stuck one (λ c. c.run vs t)

abbrev found : Scene → List ℕ → Option Callee
found c name = find (λ (one : Callee). same_bytes one.function.name name) (setting_of c).callees

found-is : (c : Scene) (name : List ℕ) (i : ℕ) (d : Function) → position (λ f. same_bytes f.name name) c.functions.now ≡ Some i
    → found c name ≡ Some (callee_under (plain-setting c) (take i c.functions.now) (get_or c.functions.now i d))
found-is c name i d e =
    let at = named-place name c.functions.now i d e in
    callee-named (plain-setting c) c.functions.now name
    ∙ ap (λ (fs : List Function). option_map (callee_under (plain-setting c) fs) (function_named c.functions.now name)) at.1
    ∙ ap (option_map (callee_under (plain-setting c) (take i c.functions.now))) at.0

-- the values, then the function under those before it
pub call-named : (c : Scene) (name : List ℕ) (args : List Reading) (scope : Scope) (s t : State) (vs : List meant.Value) (i : ℕ) (d : Function)
    → values_in_turn args scope s ≡ done vs t → position (λ f. same_bytes f.name name) c.functions.now ≡ Some i
    → call (setting_of c) name args scope s
    ≡ run_function (with_functions (plain-setting c) (take i c.functions.now)) (get_or c.functions.now i d) (get_or c.functions.now i d).body.statements vs t
call-named c name args scope s t vs i d h e =
    ap (λ (o : Outcome (List meant.Value)). and_then o (λ ws z. chosen (found c name) ws z)) h
    ∙ ap (λ (one : Option Callee). chosen one vs t) (found-is c name i d e)

pub call-unnamed : (c : Scene) (name : List ℕ) (args : List Reading) (scope : Scope) (s t : State) (vs : List meant.Value)
    → values_in_turn args scope s ≡ done vs t → position (λ f. same_bytes f.name name) c.functions.now ≡ None
    → call (setting_of c) name args scope s ≡ stuck
call-unnamed c name args scope s t vs h e =
    let none : found c name ≡ None =
    callee-named (plain-setting c) c.functions.now name
    ∙ ap (option_map (callee_under (plain-setting c) (before c.functions.now name))) (none-named name c.functions.now e) in
    ap (λ (o : Outcome (List meant.Value)). and_then o (λ ws z. chosen (found c name) ws z)) h
    ∙ ap (λ (one : Option Callee). chosen one vs t) none

-- ---- bodies

-- what statements return, by the flow in which they end
pub returned-flow : (scope : List Local) (v : Option Value) → returned (flow_of scope v) ≡ value_if_any v
returned-flow scope None = refl
returned-flow scope (Some v) = refl

-- statements that end end as a body does
pub body-ends : (e : Setting) (stmts : List Stmt) (start : Scope) (scope : List Local) (s t : State) (r : Result (Option Value) Stop)
    → Ends (flow_of scope) (mean_stmts e stmts start s) r t → Ends value_if_any (run_stmts e stmts start s) r t
body-ends e stmts start scope s t (Ok v) h =
    ap (λ (o : Outcome Flow). and_then o (λ flow z. done (returned flow) z)) h ∙ ap (λ (x : Option meant.Value). done x t) (returned-flow scope v)
body-ends e stmts start scope s t (Err (Raised code tval)) h = ap (λ (o : Outcome Flow). and_then o (λ flow z. done (returned flow) z)) h
body-ends e stmts start scope s t (Err Stuck) h = ap (λ (o : Outcome Flow). and_then o (λ flow z. done (returned flow) z)) h
body-ends e stmts start scope s t (Err Memory) h = tt

-- a function: its arguments, its body, its result
pub function-ends : (e : Setting) (f : Function) (vs : List meant.Value) (locals after : List Local) (s t : State) (v : Option Value) (r : Result (Option Value) Stop)
    → arguments e f.arguments vs [] s ≡ done (scope_of locals) s
    → Ends (flow_of after) (mean_stmts e f.body.statements (scope_of locals) s) (Ok v) t
    → Finds value_if_any (result e f.result (value_if_any v)) r
    → Ends value_if_any (run_function e f f.body.statements vs s) r t
function-ends e f vs locals after s t v r a b h =
    let body = body-ends e f.body.statements (scope_of locals) after s t (Ok v) b in
    let whole : run_function e f f.body.statements vs s ≡ result e f.result (value_if_any v) t =
    ap (λ (o : Outcome Scope). and_then o (λ scope z. and_then (run_stmts e f.body.statements scope z) (result e f.result))) a
    ∙ ap (λ (o : Outcome (Option meant.Value)). and_then o (result e f.result)) body in
    ends-same value_if_any (run_function e f f.body.statements vs s) (result e f.result (value_if_any v) t) r r t whole refl (h t)

pub function-stops : (e : Setting) (f : Function) (vs : List meant.Value) (locals after : List Local) (s t : State) (stop : Stop)
    → arguments e f.arguments vs [] s ≡ done (scope_of locals) s
    → Ends (flow_of after) (mean_stmts e f.body.statements (scope_of locals) s) (Err stop) t
    → Ends value_if_any (run_function e f f.body.statements vs s) (Err stop) t
function-stops e f vs locals after s t stop a b =
    ends-same value_if_any (run_function e f f.body.statements vs s) (and_then (run_stmts e f.body.statements (scope_of locals) s) (result e f.result)) (Err stop) (Err stop) t
    (ap (λ (o : Outcome Scope). and_then o (λ scope z. and_then (run_stmts e f.body.statements scope z) (result e f.result))) a) refl
    (early value_if_any value_if_any (run_stmts e f.body.statements (scope_of locals) s) (result e f.result) stop t (body-ends e f.body.statements (scope_of locals) after s t (Err stop) b))

-- ---- as the code takes a call

pub call-missing : (c : Scene) (name : List ℕ) (args : List Reading) (scope : Scope) (s t : State) (vs : List meant.Value) (o : Option ℕ) (stop : Stop) (r : Result (Option Value) Stop)
    → values_in_turn args scope s ≡ done vs t → o ≡ position (λ f. same_bytes f.name name) c.functions.now → or_stop o ≡ Err stop → r ≡ Err stop
    → Ends value_if_any (call (setting_of c) name args scope s) r t
call-missing c name args scope s t vs None stop r h e d k =
    let is : stop ≡ Stuck = cc in
    ends-same value_if_any (call (setting_of c) name args scope s) stuck r (Err Stuck) t (call-unnamed c name args scope s t vs h (sym e)) (k ∙ ap Err is) refl
call-missing c name args scope s t vs (Some i) stop r h e d k = absurd (cc)

pub call-ends : (c below : Scene) (name : List ℕ) (args : List Reading) (scope : Scope) (s t z : State) (vs ws : List Value) (o : Option ℕ) (i : ℕ) (f : Function) (r : Result (Option Value) Stop)
    → values_in_turn args scope s ≡ done (map as_value vs) t → o ≡ position (λ f. same_bytes f.name name) c.functions.now → or_stop o ≡ Ok i
    → f ≡ get_or c.functions.now i f → setting_of below ≡ with_functions (plain-setting c) (take i c.functions.now) → ws ≡ vs
    → Ends value_if_any (run_function (setting_of below) f f.body.statements (map as_value ws) t) r z
    → Ends value_if_any (call (setting_of c) name args scope s) r z
call-ends c below name args scope s t z vs ws o i f r h e d n b w k =
    let place : position (λ (f : Function). same_bytes f.name name) c.functions.now ≡ Some i = sym e ∙ or-stop-ok o i d in
    let under = with_functions (plain-setting c) (take i c.functions.now) in
    let run : call (setting_of c) name args scope s ≡ run_function (setting_of below) f f.body.statements (map as_value ws) t =
    call-named c name args scope s t (map as_value vs) i f h place
    ∙ ap (λ (g : Function). run_function under g g.body.statements (map as_value vs) t) (sym n)
    ∙ ap (λ (q : Setting). run_function q f f.body.statements (map as_value vs) t) (sym b)
    ∙ ap (λ (us : List Value). run_function (setting_of below) f f.body.statements (map as_value us) t) (sym w) in
    ends-same value_if_any (call (setting_of c) name args scope s) (run_function (setting_of below) f f.body.statements (map as_value ws) t) r r z run refl k
