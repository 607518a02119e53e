-- Bodies of fields of a program that fits: they return what their fields hold.
use Rattle.std.proofs.Common.{◌≡◌, inl, inr, ℕ, suc, Bool, true, List, [], ◌∷◌, ◌++◌, length, Option, None, Some, refl, sym, ap, ◌∙◌, subst, append_assoc, arith}
use Rattle.std.specs.Prelude.{slice_get}
use Rattle.udb_base.specs.declared.conditions.Cond.{Cond}
use Rattle.udb_base.specs.declared.spaces.Space.{Space}
use Rattle.udb_base.specs.declared.spaces.Full.{Full}
use Rattle.udb_spec.specs.Conditions.{holds}
use Rattle.udb_spec.specs.Spaces.{Valid}
use Rattle.udb_spec.specs.Lawful.{Lawful}
use Rattle.idl_tree.specs.declared.widths.Shape.{Shape}
use Rattle.idl_tree.specs.declared.widths.Shape.TheVariants as sh
use Rattle.idl_tree.specs.declared.programs.Body.{Body}
use Rattle.idl_tree.specs.declared.programs.Function.{Function}
use Rattle.idl_tree.specs.declared.programs.FieldBodies.{FieldBodies}
use Rattle.idl_tree.specs.declared.programs.CsrBody.{CsrBody}
use Rattle.idl_tree.specs.declared.programs.Program.{Program}
use Rattle.idl_spec.specs.declared.scopes.BodyScope.{BodyScope}
use Rattle.idl_spec.specs.Harts.{State}
use Rattle.idl_spec.specs.Shapes.{Kind}
use Rattle.idl_spec.specs.Fields.{bits_scope}
use Rattle.idl_spec.specs.Deeds.{deeds_of}
use Rattle.idl_spec.specs.Settings.{Setting, NewNumber}
use Rattle.idl_spec.specs.ProgramLaws.{callees_of}
use Rattle.idl_spec.specs.Programs.{bare, quiet_setting, run_stmts}
use Rattle.idl_spec.specs.ProgramFits.{functions_fit, field_fits, fields_fit, csrs_fit, field_presence}
use Rattle.idl_spec.specs.Checks.{view_of, header_issues, return_missing, fits}
use Rattle.idl_forms.specs.Ready.{IsLawfulProgram, AreLawfulVariables}
use Rattle.type_laws.specs.Kinds.{Passes, Mode, in_field, below_field, StateOk, Good, DeedOk, Round, view_in, AllPass}
use Rattle.type_laws.specs.Worlds.{World, Tested}
use Rattle.type_laws.specs.Callees.{AreGood}
use Rattle.type_laws.specs.Software.{HasDistinctNames}
use Rattle.type_laws.specs.Given.{IsReadSpace, AreApart, IsBareBody, IsBareProgram}
use Rattle.type_laws.proofs.Outcomes.{both_true}
use Rattle.type_laws.proofs.Passing.{unless}
use Rattle.type_laws.proofs.Reach.{Has, each_has}
use Rattle.type_laws.proofs.Statements.{Grounds}
use Rattle.type_laws.proofs.Grounded as ground
use Rattle.type_laws.proofs.GivenWorlds as given
use Rattle.type_laws.proofs.Bodies.{IsGiven, body_good}
use Rattle.type_laws.proofs.FittedBodies.{fitted, holds_here, block_passes, checks_under}
use Rattle.type_laws.proofs.Moves as moves
use Rattle.type_laws.proofs.ProgramFunctions.{functions_good, under_functions, with_functions_is}

-- what is known of a program that fits a full configuration
pub record Ground (space : Space) (full : Full) (program : Program) : Type 0 where
  pub lawful : Lawful space
  pub read : IsReadSpace space
  pub valid : Valid space full
  pub program_lawful : IsLawfulProgram program
  pub bare_bodies : IsBareProgram program

pub no_variables_lawful : AreLawfulVariables []
no_variables_lawful = record { each = λ k d lt. absurd (omega arith); names = λ i j d before lt. absurd (omega arith) }

pub no_variables_apart : (space : Space) → AreApart space.params []
no_variables_apart space = λ k d lt. absurd (omega arith)

-- ---- the places of fields in a program

module _ (space : Space) (full : Full) (program : Program) where
  pub record CsrFits (c : CsrBody) : Type 0 where
    pub place : ℕ
    pub there : slice_get program.csrs place ≡ Some c
    pub fit : fields_fit space full program place c 0 c.fields ≡ true

  csr_place : (earlier later : List CsrBody) (c : CsrBody) → slice_get (earlier ++ c ∷ later) (length earlier) ≡ Some c
  csr_place [] later c = refl
  csr_place (d ∷ ds) later c = csr_place ds later c

  csrs_length : (cs : List CsrBody) (c : CsrBody) → length (cs ++ c ∷ []) ≡ suc (length cs)
  csrs_length [] c = refl
  csrs_length (d ∷ ds) c = ap suc (csrs_length ds c)

  csrs_from : (earlier later : List CsrBody) → program.csrs ≡ earlier ++ later → csrs_fit space full program (length earlier) later ≡ true → (c : CsrBody) → Has later c → CsrFits c
  csrs_from earlier [] is fit c h = absurd h
  csrs_from earlier (d ∷ ds) is fit c h = at h (csrs_from (earlier ++ d ∷ []) ds (is ∙ sym (append_assoc earlier (d ∷ []) ds)) (ap (λ n. csrs_fit space full program n ds) (csrs_length earlier d) ∙ b.1) c)
    where
      b : (fields_fit space full program (length earlier) d 0 d.fields ≡ true) × (csrs_fit space full program (suc (length earlier)) ds ≡ true)
      b = both_true (fields_fit space full program (length earlier) d 0 d.fields) (csrs_fit space full program (suc (length earlier)) ds) fit

      at : Has (d ∷ ds) c → (Has ds c → CsrFits c) → CsrFits c
      at (inl e) more = subst CsrFits e (record { place = length earlier; there = ap (λ cs. slice_get cs (length earlier)) is ∙ csr_place earlier ds d; fit = b.0 })
      at (inr k) more = more k

  pub csr_fits : csrs_fit space full program 0 program.csrs ≡ true → (c : CsrBody) → Has program.csrs c → CsrFits c
  csr_fits fit c h = csrs_from [] program.csrs refl fit c h

  -- a field of the CSR at a place
  pub record FieldFits (place : ℕ) (c : CsrBody) (f : FieldBodies) : Type 0 where
    pub field : ℕ
    pub fit : field_fits space full program place field (field_presence space c f) f ≡ true

  pub field_place : (place : ℕ) (c : CsrBody) (field : ℕ) (fs : List FieldBodies) → fields_fit space full program place c field fs ≡ true → (f : FieldBodies) → Has fs f → FieldFits place c f
  field_place place c field [] fit f h = absurd h
  field_place place c field (g ∷ gs) fit f h = at h (field_place place c (suc field) gs b.1 f)
    where
      b : (field_fits space full program place field (field_presence space c g) g ≡ true) × (fields_fit space full program place c (suc field) gs ≡ true)
      b = both_true (field_fits space full program place field (field_presence space c g) g) (fields_fit space full program place c (suc field) gs) fit

      at : Has (g ∷ gs) f → (Has gs f → FieldFits place c f) → FieldFits place c f
      at (inl e) more = subst (FieldFits place c) e (record { field = field; fit = b.0 })
      at (inr k) more = more k

-- ---- what stands round a body of a field

-- the setting of a body of a field
abbrev pub field_setting : Space → Full → Program → Option NewNumber → Setting
field_setting space full program written = record (under_functions space full program None program.functions) { written = written }

pub quiet_is : (space : Space) (full : Full) (program : Program) (written : Option NewNumber) → quiet_setting space full program written ≡ field_setting space full program written
unfolding quiet_setting
quiet_is space full program written = ap (λ (e : Setting). record e { written = written }) (with_functions_is space full program None program.functions)

module _ (space : Space) (full : Full) (program : Program) (g : Ground space full program) (fit : functions_fit space full program 0 program.functions ≡ true) where
  names_apart : HasDistinctNames program
  names_apart = record { csrs = g.program_lawful.csrs; fields = g.program_lawful.fields }

  -- below a body of a field
  below_world : (fs : List Function) → World (under_functions space full program None fs)
  below_world fs = given.world (under_functions space full program None fs) g.lawful g.valid g.program_lawful no_variables_lawful

  below_tested : (fs : List Function) → Tested (under_functions space full program None fs)
  below_tested fs = given.tested (under_functions space full program None fs) g.valid g.read (no_variables_apart space)

  below_good : (reads : Bool) → AreGood (under_functions space full program None program.functions) (below_field reads) program.functions
  below_good reads =
      functions_good space full program None (below_field reads) tt
      (λ fs round callable. ground.grounds (under_functions space full program None fs) (below_field reads) round (below_world fs) (below_tested fs) callable (record { names = names_apart; writes = λ h. absurd (cc) }))
      fit g.bare_bodies.functions

  module _ (written : Option NewNumber) (reads : Bool) where
    abbrev e : Setting
    e = field_setting space full program written

    abbrev mode : Mode
    mode = in_field reads

    abbrev round_for : Kind → Round
    round_for kind = record { before = program.functions; returns = Some kind }

    pub field_calls : AreGood e mode program.functions
    field_calls =
        moves.good_calls (under_functions space full program None program.functions) [] (callees_of (bare space full program None) program.functions) None written mode program.functions refl
        (λ name f named. same f.result)
        (moves.into_field (under_functions space full program None program.functions) reads program.functions (below_good reads))
      where
        same : (shape : Option Shape) → moves.SameResult (under_functions space full program None program.functions) [] (callees_of (bare space full program None) program.functions) None written shape
        same None = tt
        same (Some (sh.Bits signed width)) = refl
        same (Some sh.Boolean) = tt
        same (Some (sh.Enum k)) = tt

    pub field_grounds : (kind : Kind) → Grounds e mode (round_for kind)
    field_grounds kind =
        ground.grounds e mode (round_for kind)
        (given.world e g.lawful g.valid g.program_lawful no_variables_lawful)
        (given.tested e g.valid g.read (no_variables_apart space))
        (record { earlier = λ name f named. named; whole = λ h. refl; good = field_calls })
        (record { names = names_apart; writes = λ h. absurd (cc) })

    -- what a body of a field that fits returns
    pub field_good : (kind : Kind) (at : BodyScope) (presence : Cond) (body : Body) → IsBareBody body → (header_issues (view_in e mode (round_for kind) []) at body ≡ return_missing (view_in e mode (round_for kind) []) body)
        → view_of space program at body ≡ view_in e mode (round_for kind) [] → holds space full presence ≡ true → fits space full program presence at body ≡ true
        → (s : State) → StateOk e mode s → Good e mode (IsGiven e (Some kind)) (run_stmts e body.statements [] s)
    field_good kind at presence body plain header view here fitting s ok =
        let widths = ap (λ vs. record { space = space; full = full; program = program; bits = bits_scope program vs }) (sym plain.no_variables) in
        let all : AllPass e (checks_under (view_of space program at body) at presence body) = fitted e presence at body widths fitting in
        let there : AllPass e (checks_under (view_in e mode (round_for kind) []) at presence body) = subst (λ v. AllPass e (checks_under v at presence body)) view all in
        let missing = subst (λ is. Passes e (presence ∷ []) is) header there.0 in
        body_good e mode (round_for kind) (field_grounds kind) body.statements [] (presence ∷ [])
        (each_has (DeedOk e mode program.functions) (deeds_of body.statements) (λ d k. tt)) plain.small
        (block_passes e mode (round_for kind) [] (presence ∷ []) body.statements there.1)
        (unless e (presence ∷ []) _ missing)
        [] s (record { matches = tt; state = ok; here = holds_here e presence here })
