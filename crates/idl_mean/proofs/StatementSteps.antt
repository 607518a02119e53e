-- What each form of statement does, from what its parts do.
use Rattle.std.proofs.Common.{◌≡◌, ℕ, List, map, Result, Ok, Err, Option, refl, sym, subst}
use Rattle.udb_base.specs.declared.names.Name.{Name}
use Rattle.idl_tree.specs.declared.widths.Width.{Width}
use Rattle.idl_tree.specs.declared.widths.Shape.{Shape}
use Rattle.idl_tree.specs.declared.expressions.Expr.{Expr}
use Rattle.idl_tree.specs.declared.statements.Target.{Target}
use Rattle.idl_tree.specs.declared.statements.Stmt.{Stmt}
use Rattle.idl_tree.specs.declared.statements.Stmt.TheVariants as st
use Rattle.idl_spec.specs.Values as meant
use Rattle.idl_spec.specs.Harts.{State, Outcome, done, and_then}
use Rattle.idl_spec.specs.Settings.{Setting, Scope, Flow, goes_on, returns}
use Rattle.idl_spec.specs.Forms.{call}
use Rattle.idl_spec.specs.Mean.{mean_expr, mean_stmt, assign, block, loop}
use Rattle.idl_spec.specs.MeanLaws.{runs-Declare, runs-Assign, runs-Block, runs-Return, runs-If, runs-For, runs-Jump, runs-Raise, runs-WriteMemory, runs-SoftWrite, runs-Call}
use Rattle.idl_forms.specs.declared.values.Value.{Value}
use Rattle.idl_forms.specs.declared.values.Local.{Local}
use Rattle.idl_forms.specs.declared.values.Stop.{Stop}
use Rattle.idl_forms.specs.declared.values.Stop.TheVariants.{Memory, Raised, Stuck}
use Rattle.idl_forms.specs.States.{value_if_any, scope_of, going_on, Ends, Gives, Follows}
use Rattle.idl_forms.specs.Steps.{jump_step}
use Rattle.idl_mean.specs.Flows.{flow_of, nothing_returned, value_returned, without_value, declared_change, branch_change, raise_change, store_change, soft_write_change}

-- what a statement does is another outcome, and what is answered another answer
told : {A : Type 0} (f : A → Flow) (o p : Outcome Flow) (r q : Result A Stop) (s : State) → o ≡ p → r ≡ q → Ends f p q s → Ends f o r s
told f o p r q s e d h = subst (λ x. Ends f x r s) (sym e) (subst (λ x. Ends f p x s) (sym d) h)

goes-on : (scope : List Local) (o : Outcome Flow) (r : Result (Unit {0}) Stop) (s : State) → Ends (going_on scope) o r s → Ends (flow_of scope) o (nothing_returned r) s
goes-on scope o (Ok u) s h = h
goes-on scope o (Err (Raised code tval)) s h = h
goes-on scope o (Err Stuck) s h = h
goes-on scope o (Err Memory) s h = tt

-- from a part that ends with a value
return-step : (scope : List Local) (o : Outcome meant.Value) (p : Result Value Stop) (s : State) → Gives o p s → Ends (flow_of scope) (and_then o (λ v r. done (returns v) r)) (value_returned p) s
return-step scope o (Ok v) s h = rw h refl
return-step scope o (Err (Raised code tval)) s h = rw h refl
return-step scope o (Err Stuck) s h = rw h refl
return-step scope o (Err Memory) s h = tt

call-step : (scope : List Local) (o : Outcome (Option meant.Value)) (p : Result (Option Value) Stop) (s : State) → Ends value_if_any o p s
    → Ends (flow_of scope) (and_then o (λ v r. done (goes_on (scope_of scope)) r)) (without_value p) s
call-step scope o (Ok v) s h = rw h refl
call-step scope o (Err (Raised code tval)) s h = rw h refl
call-step scope o (Err Stuck) s h = rw h refl
call-step scope o (Err Memory) s h = tt

pub does-Declare : (e : Setting) (shape : Shape) (name : Name) (x : Expr) (before after : List Local) (s t : State) (p : Result (Unit {0}) Stop) (r : Result (Option Value) Stop)
    → Ends (going_on after) (declared_change e shape name x (scope_of before) s) p t → r ≡ nothing_returned p
    → Ends (flow_of after) (mean_stmt e (st.Declare shape name x) (scope_of before) s) r t
does-Declare e shape name x before after s t p r h k =
    told (flow_of after) (mean_stmt e (st.Declare shape name x) (scope_of before) s) (declared_change e shape name x (scope_of before) s) r (nothing_returned p) t
    (runs-Declare e shape name x (scope_of before) s) k (goes-on after (declared_change e shape name x (scope_of before) s) p t h)

pub does-Assign : (e : Setting) (target : Target) (x : Expr) (before after : List Local) (s t : State) (p : Result (Unit {0}) Stop) (r : Result (Option Value) Stop)
    → Ends (going_on after) (assign e target x (scope_of before) s) p t → r ≡ nothing_returned p
    → Ends (flow_of after) (mean_stmt e (st.Assign target x) (scope_of before) s) r t
does-Assign e target x before after s t p r h k =
    told (flow_of after) (mean_stmt e (st.Assign target x) (scope_of before) s) (assign e target x (scope_of before) s) r (nothing_returned p) t
    (runs-Assign e target x (scope_of before) s) k (goes-on after (assign e target x (scope_of before) s) p t h)

pub does-Raise : (e : Setting) (cause tval : Expr) (before after : List Local) (s t : State) (p : Result (Unit {0}) Stop) (r : Result (Option Value) Stop)
    → Ends (going_on after) (raise_change e cause tval (scope_of before) s) p t → r ≡ nothing_returned p
    → Ends (flow_of after) (mean_stmt e (st.Raise cause tval) (scope_of before) s) r t
does-Raise e cause tval before after s t p r h k =
    told (flow_of after) (mean_stmt e (st.Raise cause tval) (scope_of before) s) (raise_change e cause tval (scope_of before) s) r (nothing_returned p) t
    (runs-Raise e cause tval (scope_of before) s) k (goes-on after (raise_change e cause tval (scope_of before) s) p t h)

pub does-WriteMemory : (e : Setting) (count : ℕ) (at x : Expr) (before after : List Local) (s t : State) (p : Result (Unit {0}) Stop) (r : Result (Option Value) Stop)
    → Ends (going_on after) (store_change e count at x (scope_of before) s) p t → r ≡ nothing_returned p
    → Ends (flow_of after) (mean_stmt e (st.WriteMemory count at x) (scope_of before) s) r t
does-WriteMemory e count at x before after s t p r h k =
    told (flow_of after) (mean_stmt e (st.WriteMemory count at x) (scope_of before) s) (store_change e count at x (scope_of before) s) r (nothing_returned p) t
    (runs-WriteMemory e count at x (scope_of before) s) k (goes-on after (store_change e count at x (scope_of before) s) p t h)

pub does-SoftWrite : (e : Setting) (address x : Expr) (before after : List Local) (s t : State) (p : Result (Unit {0}) Stop) (r : Result (Option Value) Stop)
    → Ends (going_on after) (soft_write_change e address x (scope_of before) s) p t → r ≡ nothing_returned p
    → Ends (flow_of after) (mean_stmt e (st.SoftWrite address x) (scope_of before) s) r t
does-SoftWrite e address x before after s t p r h k =
    told (flow_of after) (mean_stmt e (st.SoftWrite address x) (scope_of before) s) (soft_write_change e address x (scope_of before) s) r (nothing_returned p) t
    (runs-SoftWrite e address x (scope_of before) s) k (goes-on after (soft_write_change e address x (scope_of before) s) p t h)

pub does-Block : (e : Setting) (ss : List Stmt) (before after : List Local) (s t : State) (r : Result (Option Value) Stop)
    → Ends (flow_of after) (block (map (mean_stmt e) ss) (scope_of before) s) r t
    → Ends (flow_of after) (mean_stmt e (st.Block ss) (scope_of before) s) r t
does-Block e ss before after s t r h =
    told (flow_of after) (mean_stmt e (st.Block ss) (scope_of before) s) (block (map (mean_stmt e) ss) (scope_of before) s) r r t
    (runs-Block e ss (scope_of before) s) refl h

pub does-If : (e : Setting) (test : Expr) (taken : List Stmt) (other : Option (List Stmt)) (before after : List Local) (s t : State) (r : Result (Option Value) Stop)
    → Ends (flow_of after) (branch_change e test taken other (scope_of before) s) r t
    → Ends (flow_of after) (mean_stmt e (st.If test taken other) (scope_of before) s) r t
does-If e test taken other before after s t r h =
    told (flow_of after) (mean_stmt e (st.If test taken other) (scope_of before) s) (branch_change e test taken other (scope_of before) s) r r t
    (runs-If e test taken other (scope_of before) s) refl h

pub does-For : (e : Setting) (name : Name) (from to : Width) (ss : List Stmt) (before after : List Local) (s t : State) (r : Result (Option Value) Stop)
    → Ends (flow_of after) (loop e name from to (map (mean_stmt e) ss) (scope_of before) s) r t
    → Ends (flow_of after) (mean_stmt e (st.For name from to ss) (scope_of before) s) r t
does-For e name from to ss before after s t r h =
    told (flow_of after) (mean_stmt e (st.For name from to ss) (scope_of before) s) (loop e name from to (map (mean_stmt e) ss) (scope_of before) s) r r t
    (runs-For e name from to ss (scope_of before) s) refl h

pub does-Return : (e : Setting) (x : Expr) (scope : List Local) (s t : State) (p : Result Value Stop) (r : Result (Option Value) Stop)
    → Gives (mean_expr e x (scope_of scope) s) p t → r ≡ value_returned p
    → Ends (flow_of scope) (mean_stmt e (st.Return x) (scope_of scope) s) r t
does-Return e x scope s t p r h k =
    told (flow_of scope) (mean_stmt e (st.Return x) (scope_of scope) s) (and_then (mean_expr e x (scope_of scope) s) (λ v z. done (returns v) z)) r (value_returned p) t
    (runs-Return e x (scope_of scope) s) k (return-step scope (mean_expr e x (scope_of scope) s) p t h)

pub does-Jump : (e : Setting) (x : Expr) (scope : List Local) (s t z : State) (to : Result Value Stop) (p : Result (Unit {0}) Stop) (r : Result (Option Value) Stop)
    → Gives (mean_expr e x (scope_of scope) s) to t
    → ((names : Scope) → Follows (λ u. goes_on names) (jump_step e names) to t p z) → r ≡ nothing_returned p
    → Ends (flow_of scope) (mean_stmt e (st.Jump x) (scope_of scope) s) r z
does-Jump e x scope s t z to p r h k d =
    let o = mean_expr e x (scope_of scope) s in
    told (flow_of scope) (mean_stmt e (st.Jump x) (scope_of scope) s) (jump_step e (scope_of scope) o) r (nothing_returned p) z
    (runs-Jump e x (scope_of scope) s) d (goes-on scope (jump_step e (scope_of scope) o) p z (k (scope_of scope) o h))

pub does-Call : (e : Setting) (name : Name) (es : List Expr) (scope : List Local) (s t : State) (p r : Result (Option Value) Stop)
    → Ends value_if_any (call e name (map (mean_expr e) es) (scope_of scope) s) p t → r ≡ without_value p
    → Ends (flow_of scope) (mean_stmt e (st.Call name es) (scope_of scope) s) r t
does-Call e name es scope s t p r h k =
    let o = call e name (map (mean_expr e) es) (scope_of scope) s in
    told (flow_of scope) (mean_stmt e (st.Call name es) (scope_of scope) s) (and_then o (λ v z. done (goes_on (scope_of scope)) z)) r (without_value p) t
    (runs-Call e name es (scope_of scope) s) k (call-step scope o p t h)

-- the same of a statement that is the form
pub of-statement : (e : Setting) (x y : Stmt) (f : Option Value → Flow) (scope : Scope) (s t : State) (r : Result (Option Value) Stop) → x ≡ y
    → Ends f (mean_stmt e y scope s) r t → Ends f (mean_stmt e x scope s) r t
of-statement e x y f scope s t r d h = subst (λ z. Ends f (mean_stmt e z scope s) r t) (sym d) h
