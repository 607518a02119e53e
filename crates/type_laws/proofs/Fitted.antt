-- A body that fits is never stuck.
use Rattle.std.proofs.Common.{◌≡◌, ◌≢◌, inl, inr, ◌<◌, ℕ, zero, suc, true, false, List, [], ◌∷◌, length, get_or, Option, None, Some, refl, sym, ap, ◌∙◌, subst, arith}
use Rattle.std.specs.Prelude.{Contains, option_map}
use Rattle.std.proofs.lemmas.Option.{none-some}
use Rattle.udb_base.specs.declared.conditions.Cond.{Cond}
use Rattle.udb_base.specs.declared.spaces.Space.{Space}
use Rattle.udb_base.specs.declared.spaces.Full.{Full}
use Rattle.idl_tree.specs.declared.widths.Width.TheVariants as wd
use Rattle.idl_tree.specs.declared.widths.Shape.{Shape}
use Rattle.idl_tree.specs.declared.programs.Body.{Body}
use Rattle.idl_tree.specs.declared.programs.Function.{Function}
use Rattle.idl_tree.specs.declared.programs.CsrBody.{CsrBody}
use Rattle.idl_tree.specs.declared.programs.Program.{Program}
use Rattle.idl_spec.specs.declared.scopes.BodyScope.TheVariants as scope
use Rattle.idl_spec.specs.Values.{Value}
use Rattle.idl_spec.specs.Harts.{State, Outcome, done, raised, stuck, and_then, or_stuck}
use Rattle.idl_spec.specs.Shapes.{Kind, of_bits, function_named}
use Rattle.idl_spec.specs.Fields.{Placed, layout}
use Rattle.idl_spec.specs.Settings.{Setting, NewNumber}
use Rattle.idl_spec.specs.Deeds.{deeds_of}
use Rattle.idl_spec.specs.ProgramLaws.{callees_of, callee_under, callee-named}
use Rattle.idl_spec.specs.Programs.{IsState, bare, as_operation, as_function, as_field_write, mean, before, run_function, loud_setting, field_type, reset_number, run_stmts, without_value, with_value, with_functions, write_csr}
use Rattle.idl_spec.specs.ProgramFits.{functions_fit, csrs_fit, program_fits}
use Rattle.idl_spec.specs.Checks.{variable_names, outer_view, view_of}
use Rattle.type_laws.specs.Kinds.{SuitAll, IsResult, loud, in_field, Good, DeedOk, Round, view_in, AllPass}
use Rattle.type_laws.specs.Callees.{AreGood}
use Rattle.type_laws.specs.Software.{CanWrite, TakesNumbers, HasDistinctNames}
use Rattle.type_laws.specs.Given.{IsBareBody}
use Rattle.type_laws.specs.Fitting.{IsFitting, IsFittingOperation, FittingBodiesAreNeverStuck}
use Rattle.type_laws.proofs.Outcomes.{both_true}
use Rattle.type_laws.proofs.Reach.{Has, each_has}
use Rattle.type_laws.proofs.Grounded as ground
use Rattle.type_laws.proofs.GivenWorlds as given
use Rattle.type_laws.proofs.GivenParams.{are_wide}
use Rattle.type_laws.proofs.Bodies.{IsGiven, body_good}
use Rattle.type_laws.proofs.FittedBodies.{fitted, holds_here, block_passes, checks_under}
use Rattle.type_laws.proofs.Moves as moves
use Rattle.type_laws.proofs.SameWidths.{results_same}
use Rattle.type_laws.proofs.ProgramFunctions.{functions_good, under_functions, with_functions_is, each_of_all}
use Rattle.type_laws.proofs.ProgramFields.{Ground, no_variables_lawful, no_variables_apart, field_setting, quiet_is}
use Rattle.type_laws.proofs.StatementFlows.{append_none}
use Rattle.type_laws.proofs.ProgramNumbers.{HasType, HasNumber, type_known, reset_known, body_written}
use Rattle.type_laws.proofs.ProgramWrites.{csr_written}

has_contained : {X : Type 0} (xs : List X) (k : ℕ) (d : X) → k < length xs → Has xs (get_or xs k d)
has_contained [] k d h = absurd (omega arith)
has_contained (x ∷ xs) zero d h = inl refl
has_contained (x ∷ xs) (suc k) d h = inr (has_contained xs k d (omega arith))

contained : {X : Type 0} (xs : List X) (x : X) → Contains xs x → Has xs x
contained xs x h = subst (Has xs) h.2 (has_contained xs h.0 x h.1)

some-there : {X : Type 0} (o : Option X) (x : X) → o ≡ Some x → o ≢ None
some-there o x is none = none-some x (sym none ∙ is)

module _ (space : Space) (full : Full) (program : Program) (f : IsFitting space full program) where
  ready : Ground space full program
  ready = record { lawful = f.lawful; read = f.read; valid = f.valid; program_lawful = f.names; bare_bodies = f.bare }

  two_parts : (functions_fit space full program 0 program.functions ≡ true) × (csrs_fit space full program 0 program.csrs ≡ true)
  unfolding program_fits
  two_parts = both_true (functions_fit space full program 0 program.functions) (csrs_fit space full program 0 program.csrs) f.fit

  distinct : HasDistinctNames program
  distinct = record { csrs = f.names.csrs; fields = f.names.fields }

  abbrev under_writes : List Function → Setting
  under_writes fs = under_functions space full program (Some (write_csr space full program)) fs

  can_write : (e : Setting) → e.space ≡ space → e.full ≡ full → e.program ≡ program → e.soft_write ≡ Some (write_csr space full program) → CanWrite e
  can_write e is_space is_full is_program soft = record {
    write = write_csr space full program;
    is = soft;
    takes = each_has (TakesNumbers e (write_csr space full program)) e.program.csrs (λ c h there n low s state.
        csr_written space full program ready two_parts.0 two_parts.1 c (subst (λ (p : Program). Has p.csrs c) is_program h) n s
        (subst (λ (x : Program). IsState space full x s) is_program (subst (λ (x : Full). IsState space x e.program s) is_full (subst (λ (x : Space). IsState x e.full e.program s) is_space state)))
        e is_space is_full is_program);
  }

  loud_calls : AreGood (under_writes program.functions) loud program.functions
  loud_calls =
      functions_good space full program (Some (write_csr space full program)) loud tt
      (λ fs round callable. ground.grounds (under_writes fs) loud round
      (given.world (under_writes fs) f.lawful f.valid f.names no_variables_lawful)
      (given.tested (under_writes fs) f.valid f.read (no_variables_apart space))
      callable (record { names = distinct; writes = λ h. can_write (under_writes fs) refl refl refl refl }))
      two_parts.0 f.bare.functions

  not_stuck_called : (e : Setting) (shape : Option Shape) (r : Outcome (Option Value)) → Good e loud (IsResult e shape) r → r ≢ stuck
  not_stuck_called e shape (done v t) h is = cc
  not_stuck_called e shape (raised code tval t) h is = cc
  not_stuck_called e shape stuck h is = absurd h

  -- ---- functions

  pub function_runs : (name : List ℕ) (g : Function) → function_named program.functions name ≡ Some g → (values : List Value) → SuitAll g.arguments values → (s : State) → IsState space full program s
      → mean space full program (as_function name values) g.body s ≢ stuck
  unfolding mean loud_setting
  function_runs name g named values suit s state =
      let base = bare space full program (Some (write_csr space full program)) in
      let good = loud_calls name g named tt values suit s state in
      let found = callee-named base program.functions name ∙ ap (option_map (callee_under base (before program.functions name))) named in
      let there = subst (λ o. Good (under_writes program.functions) loud (IsResult (under_writes program.functions) g.result) (or_stuck o (λ c. c.run values s))) found good in
      subst (λ o. or_stuck o (λ f. run_function (with_functions base (before program.functions name)) f g.body.statements values s) ≢ stuck) (sym named)
      (not_stuck_called (under_writes program.functions) g.result _ there)

  -- ---- operations

  module _ (presence : Cond) (body : Body) (o : IsFittingOperation space full program presence body) where
    abbrev e : Setting
    e = record (under_writes program.functions) { variables = body.variables }

    abbrev round : Round
    round = record { before = program.functions; returns = None }

    operation_calls : AreGood e loud program.functions
    operation_calls =
        moves.good_calls (under_writes program.functions) body.variables (callees_of (bare space full program (Some (write_csr space full program))) program.functions) (Some (write_csr space full program)) None loud program.functions refl
        (results_same space full program (Some (write_csr space full program)) body.variables (are_wide (under_writes program.functions) f.valid f.lawful).which two_parts.0 (each_of_all (λ g. IsBareBody g.body) program.functions f.bare.functions))
        loud_calls

    view_is : view_of space program scope.Operation body ≡ view_in e loud round []
    view_is = ap (λ vs. record (outer_view space program) { variables = body.variables; visible = vs }) (sym (append_none (variable_names body.variables)))

    operation_good : (s : State) → IsState space full program s → Good e loud (IsGiven e None) (run_stmts e body.statements [] s)
    operation_good s state =
        let all : AllPass e (checks_under (view_in e loud round []) scope.Operation presence body) =
        subst (λ v. AllPass e (checks_under v scope.Operation presence body)) view_is (fitted e presence scope.Operation body refl o.fit) in
        body_good e loud round
        (ground.grounds e loud round (given.world e f.lawful f.valid f.names o.variables) (given.tested e f.valid f.read o.read.apart)
        (record { earlier = λ name g named. named; whole = λ h. refl; good = operation_calls })
        (record { names = distinct; writes = λ h. can_write e refl refl refl refl }))
        body.statements [] (presence ∷ [])
        (each_has (DeedOk e loud program.functions) (deeds_of body.statements) (λ d k. tt)) o.read.small
        (block_passes e loud round [] (presence ∷ []) body.statements all.1)
        refl
        [] s (record { matches = tt; state = state; here = holds_here e presence o.here })

    ends_well_there : (r : Outcome (Option Value)) → Good e loud (IsGiven e None) r → and_then r without_value ≢ stuck
    ends_well_there (done None t) h is = cc
    ends_well_there (done (Some v) t) h is = absurd h.0
    ends_well_there (raised code tval t) h is = cc
    ends_well_there stuck h is = absurd h

    pub operation_runs : (s : State) → IsState space full program s → mean space full program as_operation body s ≢ stuck
    unfolding mean loud_setting
    operation_runs s state =
        subst (λ (x : Setting). and_then (run_stmts (record x { variables = body.variables }) body.statements [] s) without_value ≢ stuck)
        (sym (with_functions_is space full program (Some (write_csr space full program)) program.functions))
        (ends_well_there (run_stmts e body.statements [] s) (operation_good s state))

  -- ---- fields

  module _ (c : CsrBody) (in_program : Contains program.csrs c) (p : Placed) (in_csr : Contains (layout space full c) p) where
    pub type_there : field_type space full program p ≢ None
    type_there =
        let t : HasType (field_type space full program p) = type_known space full program ready two_parts.0 two_parts.1 c (contained program.csrs c in_program) p (contained (layout space full c) p in_csr) in
        some-there (field_type space full program p) t.type t.is

    pub reset_there : reset_number space full program p ≢ None
    reset_there =
        let t : HasNumber p (reset_number space full program p) = reset_known space full program ready two_parts.0 two_parts.1 c (contained program.csrs c in_program) p (contained (layout space full c) p in_csr) in
        some-there (reset_number space full program p) t.number t.is

    value_there : (e : Setting) (kind : Kind) (r : Outcome (Option Value)) → Good e (in_field true) (IsGiven e (Some kind)) r → and_then r with_value ≢ stuck
    value_there e kind (done (Some v) t) h is = cc
    value_there e kind (done None t) h is = absurd h.0
    value_there e kind (raised code tval t) h is = absurd h.0
    value_there e kind stuck h is = absurd h

    pub write_there : (body : Body) → p.field.write ≡ Some body → (n : ℕ) (s : State) → IsState space full program s → mean space full program (as_field_write c.name p.field.name n) body s ≢ stuck
    unfolding mean
    write_there body is n s state =
        let new : NewNumber = record { csr = c.name; number = n } in
        subst (λ (x : Setting). and_then (run_stmts x body.statements [] s) with_value ≢ stuck) (sym (quiet_is space full program (Some new)))
        (value_there (field_setting space full program (Some new)) (of_bits (wd.Number 1) false) (run_stmts (field_setting space full program (Some new)) body.statements [] s)
        (body_written space full program ready two_parts.0 two_parts.1 c (contained program.csrs c in_program) p (contained (layout space full c) p in_csr) n s state body is))

pub never_stuck : FittingBodiesAreNeverStuck
never_stuck = record {
  operations = λ space full program f presence body o s state. operation_runs space full program f presence body o s state;
  functions = λ space full program f name g named values suit s state. function_runs space full program f name g named values suit s state;
  types = λ space full program f c h p k. type_there space full program f c h p k;
  resets = λ space full program f c h p k. reset_there space full program f c h p k;
  writes = λ space full program f c h p k body is n s state. write_there space full program f c h p k body is n s state;
}
