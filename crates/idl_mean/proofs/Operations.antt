-- A body as an operation, and the values of fields at reset.
use Rattle.std.proofs.Common.{◌≡◌, ◌%◌, ◌^◌, ℕ, true, List, [], Result, Ok, Err, Option, None, Some, refl, sym, ap, ◌∙◌, subst}
use Rattle.std.specs.Prelude.{option_and_then}
use Rattle.udb_base.specs.declared.spaces.Space.{Space}
use Rattle.udb_base.specs.declared.spaces.Full.{Full}
use Rattle.idl_tree.specs.declared.statements.Stmt.{Stmt}
use Rattle.idl_tree.specs.declared.programs.Body.{Body}
use Rattle.idl_tree.specs.declared.programs.ResetValue.TheVariants as reset
use Rattle.idl_tree.specs.declared.programs.Program.{Program}
use Rattle.idl_spec.specs.Values as meant
use Rattle.idl_spec.specs.Harts.{State, Outcome, and_then}
use Rattle.idl_spec.specs.Fields.{Placed, part_width}
use Rattle.idl_spec.specs.Settings.{Setting}
use Rattle.idl_spec.specs.Mean.{mean_stmts}
use Rattle.idl_spec.specs.Programs.{bare, write_csr, run_stmts, loud_setting, mean, as_operation, without_value, reset_number, field_result, brought_to_field, blank_state}
use Rattle.idl_spec.specs.ProgramLaws.{functions-setting}
use Rattle.idl_forms.specs.declared.scenes.Scene.{Scene}
use Rattle.idl_forms.specs.declared.values.Local.{Local}
use Rattle.idl_forms.specs.declared.values.Value.{Value}
use Rattle.idl_forms.specs.declared.values.Stop.{Stop}
use Rattle.idl_forms.specs.declared.values.Stop.TheVariants.{Memory, Raised, Stuck}
use Rattle.idl_forms.specs.States.{scope_of, value_if_any, Ends, AnswersWith, or_stop}
use Rattle.idl_forms.specs.Scenes.{setting_of}
use Rattle.idl_mean.specs.Flows.{flow_of, nothing, operation_end}
use Rattle.idl_mean.proofs.CallSteps.{body-ends}
use Rattle.idl_mean.proofs.WriteSteps.{answers-or-stop}

-- the setting of a loud scene
pub loud-scene : (c : Scene) → c.loud ≡ true → c.written ≡ None
    → setting_of c ≡ record (loud_setting c.space.now c.full.now c.program.now c.functions.now) { variables = c.variables.now }
unfolding loud_setting
loud-scene c l w =
    let plain = bare c.space.now c.full.now c.program.now (Some (write_csr c.space.now c.full.now c.program.now)) in
    rw (l, w) (ap (λ (e : Setting). record e { variables = c.variables.now }) (sym (functions-setting plain c.functions.now)))

-- an operation returns nothing
end-of : (o : Outcome (Option meant.Value)) (r : Result (Option Value) Stop) (t : State) → Ends value_if_any o r t → Ends nothing (and_then o without_value) (operation_end r) t
end-of o (Ok None) t h = ap (λ (x : Outcome (Option meant.Value)). and_then x without_value) h
end-of o (Ok (Some v)) t h = ap (λ (x : Outcome (Option meant.Value)). and_then x without_value) h
end-of o (Err (Raised code tval)) t h = ap (λ (x : Outcome (Option meant.Value)). and_then x without_value) h
end-of o (Err Stuck) t h = ap (λ (x : Outcome (Option meant.Value)). and_then x without_value) h
end-of o (Err Memory) t h = tt

pub operation-ends : (space : Space) (full : Full) (program : Program) (body : Body) (e : Setting) (stmts : List Stmt) (scope after : List Local) (s t : State) (r : Result (Option Value) Stop) (q : Result (Unit {0}) Stop)
    → e ≡ record (loud_setting space full program program.functions) { variables = body.variables } → stmts ≡ body.statements → scope ≡ []
    → Ends (flow_of after) (mean_stmts e stmts (scope_of scope) s) r t → q ≡ operation_end r → Ends nothing (mean space full program as_operation body s) q t
unfolding mean
operation-ends space full program body e stmts scope after s t r q is same empty h k =
    let loud = record (loud_setting space full program program.functions) { variables = body.variables } in
    let run : run_stmts e stmts (scope_of scope) s ≡ run_stmts loud body.statements [] s =
    ap (λ (x : Setting). run_stmts x stmts (scope_of scope) s) is
    ∙ ap (λ (x : List Stmt). run_stmts loud x (scope_of scope) s) same
    ∙ ap (λ (x : List Local). run_stmts loud body.statements (scope_of x) s) empty in
    let ends = end-of (run_stmts e stmts (scope_of scope) s) r t (body-ends e stmts (scope_of scope) after s t r h) in
    subst (λ (x : Result (Unit {0}) Stop). Ends nothing (and_then (run_stmts loud body.statements [] s) without_value) x t) (sym k)
    (subst (λ (x : Outcome (Option meant.Value)). Ends nothing (and_then x without_value) (operation_end r) t) run ends)

-- ---- values at reset

pub plain-reset : (space : Space) (full : Full) (program : Program) (p : Placed) (n : ℕ) → p.field.reset ≡ reset.Plain n → reset_number space full program p ≡ Some (n % 2 ^ part_width p.bits)
unfolding reset_number
plain-reset space full program p n e = rw e refl

pub computed-reset : (space : Space) (full : Full) (program : Program) (p : Placed) (body : Body) (blank : State) (v : Option Value) (r : Result ℕ Stop) → p.field.reset ≡ reset.Computed body
    → blank ≡ blank_state → value_if_any v ≡ field_result space full program None body blank → r ≡ or_stop (option_and_then (brought_to_field p) (value_if_any v))
    → AnswersWith (λ (n : ℕ). n) (reset_number space full program p) r
unfolding reset_number
computed-reset space full program p body blank v r e b h d =
    let value : value_if_any v ≡ field_result space full program None body blank_state = h ∙ ap (field_result space full program None body) b in
    rw e (answers-or-stop (option_and_then (brought_to_field p) (field_result space full program None body blank_state)) r
    (d ∙ ap (λ (x : Option meant.Value). or_stop (option_and_then (brought_to_field p) x)) value))
