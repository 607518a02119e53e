-- What whole bodies give: what their statements return, their arguments and their results.
use Rattle.std.proofs.Common.{◌≡◌, ℕ, Bool, true, false, List, [], ◌∷◌, ◌++◌, Option, None, Some, refl, sym, ap, subst, append_assoc}
use Rattle.std.specs.Prelude.{◌||◌, not, is_some, option_map, flat_map}
use Rattle.std.specs.List.{list_any}
use Rattle.idl_tree.specs.Each.{Each}
use Rattle.udb_base.specs.declared.conditions.Cond.{Cond}
use Rattle.udb_base.specs.declared.spaces.ParamSpace.{ParamSpace}
use Rattle.udb_spec.specs.Conditions.{same_bytes}
use Rattle.idl_tree.specs.declared.widths.EnumKind.{EnumKind}
use Rattle.idl_tree.specs.declared.widths.Shape.{Shape}
use Rattle.idl_tree.specs.declared.widths.Shape.TheVariants as sh
use Rattle.idl_tree.specs.declared.statements.Stmt.{Stmt}
use Rattle.idl_tree.specs.declared.programs.Argument.{Argument}
use Rattle.idl_spec.specs.Values.{Value, bits, flag, member, given_text, written_text, brought_to, same_enum}
use Rattle.idl_spec.specs.Harts.{State, Outcome, done, raised, stuck, and_then}
use Rattle.idl_spec.specs.Shapes.{Kind, of_bits, of_member, declared_kind, parameter_named}
use Rattle.idl_spec.specs.Settings.{Setting, Scope, Flow, goes_on, returns}
use Rattle.idl_spec.specs.Mean.{in_shape, mean_stmts}
use Rattle.idl_spec.specs.Programs.{returned, run_stmts, arguments, result}
use Rattle.idl_spec.specs.Deeds.{deeds_of, ends_in_return}
use Rattle.idl_spec.specs.Demands.{Visible, View, width_issues, shape_issues}
use Rattle.idl_spec.specs.Checks.{argument_names, visible_local, are_fresh, result_shape_issues}
use Rattle.type_laws.specs.Kinds.{HasKind, Suits, SuitAll, IsResult, Mode, StateOk, Good, DeedOk, Matches, Round, Passes, AllPass}
use Rattle.type_laws.specs.Literals.{AreSmall, numbers_of}
use Rattle.type_laws.proofs.Outcomes.{chosen_true, both_true, then_good}
use Rattle.type_laws.proofs.Passing.{Here, front, back, range}
use Rattle.type_laws.proofs.Widths.{width_good}
use Rattle.type_laws.proofs.Sound.{Stands}
use Rattle.type_laws.proofs.StatementFlows.{CanReturn, IsFlow, all_declared, block_in, each_statement}
use Rattle.type_laws.proofs.StatementForms.{IsSized, in_shape_good, matches_more}
use Rattle.type_laws.proofs.Statements.{Grounds, statements_sound}
use Rattle.type_laws.proofs.Ends.{IsOver, returns_over}

-- what the statements of a body give: a value that may be returned, exactly where the body returns one
abbrev pub IsGiven : Setting → Option Kind → Option Value → Type 0
IsGiven e None None = Unit {0}
IsGiven e (Some kind) (Some v) = CanReturn e kind v
IsGiven e _ _ = ⊥

-- a body that returns a value ends in a return
abbrev pub ends_well : Option Kind → List Stmt → Bool
ends_well kind statements = not (is_some kind) || ends_in_return statements

module _ (e : Setting) (mode : Mode) where
  given : (kind : Option Kind) (names : List Visible) (o : Outcome Flow) → Good e mode (IsFlow e kind names) o → (is_some kind ≡ true → IsOver o) → Good e mode (IsGiven e kind) (and_then o (λ flow t. done (returned flow) t))
  given None names (done (goes_on scope) s) h over = (tt, h.1)
  given None names (done (returns v) s) h over = absurd h.0
  given (Some kind) names (done (goes_on scope) s) h over = absurd (over refl)
  given (Some kind) names (done (returns v) s) h over = (h.0, h.1)
  given None names (raised code tval s) h over = h
  given (Some kind) names (raised code tval s) h over = h
  given None names stuck h over = absurd h
  given (Some kind) names stuck h over = absurd h

  over_where : (kind : Option Kind) (statements : List Stmt) (scope : Scope) (s : State) → ends_well kind statements ≡ true → is_some kind ≡ true → IsOver (mean_stmts e statements scope s)
  over_where None statements scope s h k = absurd (cc)
  over_where (Some kind) statements scope s h k = returns_over e statements h scope s

  -- ---- results

  abbrev pub ResultSized : Option Shape → Type 0
  ResultSized None = Unit {0}
  ResultSized (Some shape) = IsSized e shape

  some_result : (shape : Shape) (v : Value) (s : State) → IsSized e shape → CanReturn e (declared_kind shape) v → StateOk e mode s → Good e mode (IsResult e (Some shape)) (result e (Some shape) (Some v) s)
  some_result shape v s sized can ok =
      then_good e mode (HasKind e (declared_kind shape)) (IsResult e (Some shape)) (in_shape e shape v s) _
      (in_shape_good e mode shape can.from v s can.fits sized can.has ok) (λ w t hw ht. (hw, ht))

  pub result_good : (shape : Option Shape) (o : Option Value) (s : State) → ResultSized shape → IsGiven e (option_map declared_kind shape) o → StateOk e mode s → Good e mode (IsResult e shape) (result e shape o s)
  result_good None None s sized h ok = (tt, ok)
  result_good None (Some v) s sized h ok = absurd h
  result_good (Some shape) None s sized h ok = absurd h
  result_good (Some shape) (Some v) s sized h ok = some_result shape v s sized h ok

  -- ---- arguments

  suited_member : (k l : EnumKind) (n : ℕ) (s : State) → same_enum k l ≡ true → HasKind e (of_member k) (member l n) → StateOk e mode s → Good e mode (HasKind e (of_member k)) (in_shape e (sh.Enum k) (member l n) s)
  suited_member k l n s same h ok = subst (Good e mode (HasKind e (of_member k))) (sym (chosen_true (done (member l n) s) stuck (same_enum k l) same)) (h, ok)

  -- a value that suits a shape is brought to it
  pub suited : (shape : Shape) (v : Value) (s : State) → IsSized e shape → Suits shape v → StateOk e mode s → Good e mode (HasKind e (declared_kind shape)) (in_shape e shape v s)
  suited (sh.Bits signed width) (bits v) s r h ok =
      width_good e mode (HasKind e (of_bits width signed)) 1 128 width (λ n. done (bits (brought_to n signed v)) s) r
      (record { number = r.is; low = r.least; high = r.most; sign = refl }, ok)
  suited sh.Boolean (flag x) s r h ok = (tt, ok)
  suited (sh.Enum k) (member l n) s r h ok = suited_member k l n s h.0 h ok
  suited (sh.Bits signed width) (flag x) s r h ok = absurd h
  suited (sh.Bits signed width) (member l n) s r h ok = absurd h
  suited (sh.Bits signed width) (given_text x) s r h ok = absurd h
  suited (sh.Bits signed width) (written_text x) s r h ok = absurd h
  suited sh.Boolean (bits v) s r h ok = absurd h
  suited sh.Boolean (member l n) s r h ok = absurd h
  suited sh.Boolean (given_text x) s r h ok = absurd h
  suited sh.Boolean (written_text x) s r h ok = absurd h
  suited (sh.Enum k) (bits v) s r h ok = absurd h
  suited (sh.Enum k) (flag x) s r h ok = absurd h
  suited (sh.Enum k) (given_text x) s r h ok = absurd h
  suited (sh.Enum k) (written_text x) s r h ok = absurd h

  -- an argument that has a width, and no parameter's name
  abbrev pub IsArgument : Argument → Type 0
  IsArgument a = IsSized e a.shape × (parameter_named e.space.params a.name ≡ None)

  pub arguments_good : (as_ : List Argument) (values : List Value) (names : List Visible) (scope : Scope) (s : State) → Each IsArgument as_ → SuitAll as_ values → Matches e names scope → StateOk e mode s
      → Good e mode (Matches e (names ++ argument_names as_)) (arguments e as_ values scope s)
  arguments_good [] [] names scope s are suit m ok = (subst (λ vs. Matches e vs scope) (sym (nothing names)) m, ok)
    where
      nothing : (xs : List Visible) → xs ++ [] ≡ xs
      nothing [] = refl
      nothing (x ∷ xs) = ap (λ ys. x ∷ ys) (nothing xs)
  arguments_good [] (v ∷ vs) names scope s are suit m ok = absurd suit
  arguments_good (a ∷ more) [] names scope s are suit m ok = absurd suit
  arguments_good (a ∷ more) (v ∷ left) names scope s are suit m ok =
      let one = visible_local a.name (declared_kind a.shape) in
      then_good e mode (HasKind e (declared_kind a.shape)) (Matches e (names ++ (one ∷ argument_names more))) (in_shape e a.shape v s) _
      (suited a.shape v s are.0.0 suit.0 ok) (λ w t hw ht.
      subst (λ (vs : List Visible). Good e mode (Matches e vs) (arguments e more left (scope ++ (a.name, w) ∷ []) t)) (append_assoc names (one ∷ []) (argument_names more))
      (arguments_good more left (names ++ one ∷ []) (scope ++ (a.name, w) ∷ []) t are.1 suit.1
      (matches_more e names scope one (a.name, w) m (record { name = refl; kind = hw; clear = are.0.1 })) ht))

module _ (e : Setting) (mode : Mode) (round : Round) where
  -- the statements of a body whose checks pass
  pub body_good : Grounds e mode round → (statements : List Stmt) (inner : List Visible) (known : List Cond) → Each (DeedOk e mode round.before) (deeds_of statements) → AreSmall (numbers_of statements)
      → AllPass e (block_in e mode round statements inner known) → ends_well round.returns statements ≡ true → (scope : Scope) (s : State) → Stands e mode round inner known scope s
      → Good e mode (IsGiven e round.returns) (run_stmts e statements scope s)
  body_good on statements inner known deeds small pass ends scope s at =
      given e mode round.returns (inner ++ all_declared statements) (mean_stmts e statements scope s)
      (statements_sound e mode round on statements inner known (each_statement e mode round statements deeds small) pass scope s at)
      (over_where e mode round.returns statements scope s ends)

  -- ---- what the header of a function asks

  sized_shape : (view : View) (shape : Shape) (known : List Cond) → Here e known → Passes e known (shape_issues view shape) → IsSized e shape
  sized_shape view (sh.Bits signed width) known here h = range e known 1 128 width here (back e known (width_issues view width) _ h)
  sized_shape view sh.Boolean known here h = tt
  sized_shape view (sh.Enum k) known here h = tt

  pub sized_result : (view : View) (shape : Option Shape) (known : List Cond) → Here e known → Passes e known (result_shape_issues view shape) → ResultSized e mode shape
  sized_result view None known here h = tt
  sized_result view (Some shape) known here h = sized_shape view shape known here h

  clear_name : (x : Bool) (o : Option ParamSpace) → not (x || is_some o) ≡ true → o ≡ None
  clear_name true o h = absurd (cc)
  clear_name false None h = refl
  clear_name false (Some p) h = absurd (cc)

  pub are_arguments : (view : View) (as_ : List Argument) (known : List Cond) → Here e known → Passes e known (flat_map (λ a. shape_issues view a.shape) as_) → are_fresh e.space.params as_ ≡ true → Each (IsArgument e mode) as_
  are_arguments view [] known here h fresh = tt
  are_arguments view (a ∷ more) known here h fresh =
      let b = both_true (not (list_any (λ z. same_bytes z.name a.name) more || is_some (parameter_named e.space.params a.name))) (are_fresh e.space.params more) fresh in
      let issues = shape_issues view a.shape in
      ((sized_shape view a.shape known here (front e known issues _ h), clear_name (list_any (λ z. same_bytes z.name a.name) more) (parameter_named e.space.params a.name) b.0), are_arguments view more known here (back e known issues _ h) b.1)
