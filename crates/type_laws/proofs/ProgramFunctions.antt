-- The functions of a program that fits, each under those declared before it: calls of them are good.
use Rattle.std.proofs.Common.{◌≡◌, ℕ, suc, Bool, true, false, List, [], ◌∷◌, ◌++◌, length, Option, None, Some, refl, sym, ap, ◌∙◌, subst, append_assoc, inl}
use Rattle.std.specs.Prelude.{All, find, option_map, if◌then◌else◌}
use Rattle.std.specs.Option.{option_or}
use Rattle.std.specs.Cmp.Lexicographic.{bytes_decides}
use Rattle.std.proofs.lemmas.List.{append-nil}
use Rattle.std.proofs.lemmas.List.Elements.{All-head, All-tail}
use Rattle.std.proofs.lemmas.List.Folds.{find-append}
use Rattle.idl_tree.specs.Each.{Each}
use Rattle.udb_base.specs.declared.conditions.Cond.TheVariants as c
use Rattle.udb_base.specs.declared.spaces.Space.{Space}
use Rattle.udb_base.specs.declared.spaces.Full.{Full}
use Rattle.udb_spec.specs.Conditions.{same_bytes}
use Rattle.udb_spec.specs.CondLaws.{holds-Always}
use Rattle.idl_tree.specs.declared.widths.Shape.{Shape}
use Rattle.idl_tree.specs.declared.widths.Shape.TheVariants as sh
use Rattle.idl_tree.specs.declared.programs.Function.{Function}
use Rattle.idl_tree.specs.declared.programs.CsrBody.{CsrBody}
use Rattle.idl_tree.specs.declared.programs.Program.{Program}
use Rattle.idl_spec.specs.declared.scopes.BodyScope.TheVariants as scope
use Rattle.idl_spec.specs.Values.{Value}
use Rattle.idl_spec.specs.Harts.{State, or_stuck}
use Rattle.idl_spec.specs.Shapes.{declared_kind, function_named}
use Rattle.idl_spec.specs.Settings.{Callee, Setting}
use Rattle.idl_spec.specs.Programs.{arguments, result, run_stmts, run_function, bare, with_functions, before}
use Rattle.idl_spec.specs.ProgramLaws.{callees_of, functions-setting, callee_under, callee-named}
use Rattle.idl_spec.specs.Deeds.{function_deeds}
use Rattle.idl_spec.specs.Checks.{argument_names, fits}
use Rattle.idl_spec.specs.ProgramFits.{functions_fit}
use Rattle.type_laws.specs.Kinds.{SuitAll, IsResult, Mode, loud, in_field, below_field, is_in_field, StateOk, Good, MayCall, DeedOk, Matches, Round, view_in}
use Rattle.type_laws.specs.Callees.{AreGood, Callable}
use Rattle.type_laws.specs.Given.{IsBareBody}
use Rattle.type_laws.specs.Literals.{AreSmall, numbers_of}
use Rattle.type_laws.proofs.Outcomes.{both_true, then_good, same_some}
use Rattle.type_laws.proofs.Statements.{Grounds}
use Rattle.type_laws.proofs.Bodies.{IsGiven, result_good, arguments_good, body_good, sized_result, are_arguments}
use Rattle.type_laws.proofs.FittedBodies.{IsCallMode, round_of, plain_setting, FunctionPasses, function_passes, holds_here}
use Rattle.type_laws.proofs.Moves.{SameResult, good_to, result_to, may_back, state_back}
use Rattle.type_laws.proofs.Reach.{Has, has_back, each_has, may_sooner, deeds_below}

pub each_of_all : {X : Type 0} (P : X → Type 0) (xs : List X) → All P xs → Each P xs
each_of_all P [] h = tt
each_of_all P (x ∷ xs) h = (All-head P x xs h, each_of_all P xs (All-tail P x xs h))

length_more : (fs : List Function) (f : Function) → length (fs ++ f ∷ []) ≡ suc (length fs)
length_more [] f = refl
length_more (g ∷ gs) f = ap suc (length_more gs f)

-- ---- callees

callees_more : (e : Setting) (fs : List Function) (f : Function) → callees_of e (fs ++ f ∷ []) ≡ callees_of e fs ++ callee_under e fs f ∷ []
callees_more e [] f = refl
callees_more e (g ∷ gs) f = ap (λ cs. record { function = g; run = run_function e g g.body.statements } ∷ cs) (callees_more (record e { callees = e.callees ++ record { function = g; run = run_function e g g.body.statements } ∷ [] }) gs f)

abbrev pub callee_at : List Callee → List ℕ → Option Callee
callee_at callees name = find (λ c. same_bytes c.function.name name) callees

module _ (space : Space) (full : Full) (program : Program) (soft_write : Option (CsrBody → ℕ → State → Option State)) where
  abbrev base : Setting
  base = bare space full program soft_write

  -- the setting under some functions
  abbrev pub under_functions : List Function → Setting
  under_functions fs = plain_setting space full program (callees_of base fs) soft_write

  pub with_functions_is : (fs : List Function) → with_functions base fs ≡ under_functions fs
  with_functions_is fs = functions-setting base fs

  one_name : (f : Function) (name : List ℕ) → function_named (f ∷ []) name ≡ (if same_bytes f.name name then Some f else None)
  one_name f name = refl

  named_more : (earlier : List Function) (f : Function) (name : List ℕ) → function_named (earlier ++ f ∷ []) name ≡ option_or (function_named earlier name) (if same_bytes f.name name then Some f else None)
  named_more earlier f name = find-append (λ g. same_bytes g.name name) earlier (f ∷ [])

  abbrev last : List Function → Function → List ℕ → Option Callee
  last earlier f name = if same_bytes f.name name then Some (callee_under base earlier f) else None

  found_more : (earlier : List Function) (f : Function) (name : List ℕ)
      → callee_at (callees_of base (earlier ++ f ∷ [])) name ≡ option_or (callee_at (callees_of base earlier) name) (last earlier f name)
  found_more earlier f name =
      ap (λ cs. callee_at cs name) (callees_more base earlier f)
      ∙ find-append (λ c. same_bytes c.function.name name) (callees_of base earlier) (callee_under base earlier f ∷ [])

  module _ (mode : Mode) (ok : IsCallMode mode) (grounds : (fs : List Function) (round : Round) → Callable (under_functions fs) mode round → Grounds (under_functions fs) mode round) where
    -- ---- one function

    function_good : (earlier : List Function) (f : Function) → FunctionPasses space full program (callees_of base earlier) soft_write mode earlier f → Grounds (under_functions earlier) mode (round_of earlier f)
        → Each (DeedOk (under_functions earlier) mode earlier) (function_deeds f) → AreSmall (numbers_of f.body.statements) → (values : List Value) → SuitAll f.arguments values → (s : State) → StateOk (under_functions earlier) mode s
        → Good (under_functions earlier) mode (IsResult (under_functions earlier) f.result) (run_function (under_functions earlier) f f.body.statements values s)
    function_good earlier f p on deeds small values suit s st =
        let e = under_functions earlier in
        let known = c.Always ∷ [] in
        let view = view_in e mode (round_of earlier f) (argument_names f.arguments) in
        let here = holds_here e c.Always (holds-Always space full) in
        then_good e mode (Matches e (argument_names f.arguments)) (IsResult e f.result) (arguments e f.arguments values [] s) _
        (arguments_good e mode f.arguments values [] [] s (are_arguments e mode (round_of earlier f) view f.arguments known here p.arguments p.fresh) suit tt st)
        (λ scope t m ht. then_good e mode (IsGiven e (option_map declared_kind f.result)) (IsResult e f.result) (run_stmts e f.body.statements scope t) (result e f.result)
        (body_good e mode (round_of earlier f) on f.body.statements (argument_names f.arguments) known deeds small p.statements p.ends scope t (record { matches = m; state = ht; here = here }))
        (λ o u ho hu. result_good e mode f.result o u (sized_result e mode (round_of earlier f) view f.result known here p.header) ho hu))

    -- ---- one after the other

    callable_before : (earlier later : List Function) (f : Function) → program.functions ≡ earlier ++ later → AreGood (under_functions earlier) mode earlier → Callable (under_functions earlier) mode (round_of earlier f)
    callable_before earlier later f is good = record {
      earlier = λ name g named. ap (λ fs. function_named fs name) is ∙ (find-append (λ g. same_bytes g.name name) earlier later ∙ ap (λ o. option_or o (function_named later name)) named);
      whole = λ h. not_in mode ok h;
      good = good;
    }
      where
        not_in : (m : Mode) → IsCallMode m → is_in_field m ≡ true → earlier ≡ program.functions
        not_in loud ok h = absurd (cc)
        not_in (below_field reads) ok h = absurd (cc)
        not_in (in_field reads) ok h = absurd ok

    has_function : (earlier later : List Function) (f : Function) → program.functions ≡ earlier ++ f ∷ later → Has program.functions f
    has_function earlier later f is = subst (λ fs. Has fs f) (sym is) (has_back earlier (f ∷ later) f (inl refl))

    deeds_good : (earlier later : List Function) (f : Function) → program.functions ≡ earlier ++ f ∷ later → MayCall (under_functions earlier) mode (earlier ++ f ∷ []) f.name → Each (DeedOk (under_functions earlier) mode earlier) (function_deeds f)
    deeds_good earlier later f is may = at mode ok may
      where
        at : (m : Mode) → IsCallMode m → MayCall (under_functions earlier) m (earlier ++ f ∷ []) f.name → Each (DeedOk (under_functions earlier) m earlier) (function_deeds f)
        at loud ok may = each_has (DeedOk (under_functions earlier) loud earlier) (function_deeds f) (λ d k. tt)
        at (below_field reads) ok may = deeds_below (under_functions earlier) reads earlier f (has_function earlier later f is) may
        at (in_field reads) ok may = absurd ok

    sooner : (earlier : List Function) (f : Function) (name : List ℕ) → MayCall (under_functions earlier) mode (earlier ++ f ∷ []) name → MayCall (under_functions earlier) mode earlier name
    sooner earlier f name may = at mode ok may
      where
        at : (m : Mode) → IsCallMode m → MayCall (under_functions earlier) m (earlier ++ f ∷ []) name → MayCall (under_functions earlier) m earlier name
        at loud ok may = tt
        at (below_field reads) ok may = may_sooner program.functions reads earlier f name may
        at (in_field reads) ok may = absurd ok

    -- what is shown of the function itself
    abbrev Runs : List Function → Function → Type 0
    Runs earlier f =
        MayCall (under_functions earlier) mode (earlier ++ f ∷ []) f.name → (values : List Value) → SuitAll f.arguments values → (s : State) → StateOk (under_functions earlier) mode s
        → Good (under_functions earlier) mode (IsResult (under_functions earlier) f.result) (run_function (with_functions base earlier) f f.body.statements values s)

    runs : (earlier later : List Function) (f : Function) → program.functions ≡ earlier ++ f ∷ later → IsBareBody f.body → fits space full program c.Always (scope.Function (length earlier)) f.body ≡ true
        → AreGood (under_functions earlier) mode earlier → Runs earlier f
    runs earlier later f is plain fit good may values suit s st =
        subst (λ e. Good (under_functions earlier) mode (IsResult (under_functions earlier) f.result) (run_function e f f.body.statements values s)) (sym (with_functions_is earlier))
        (function_good earlier f (function_passes space full program (callees_of base earlier) soft_write mode ok earlier later f is plain.no_variables fit)
        (grounds earlier (round_of earlier f) (callable_before earlier (f ∷ later) f is good)) (deeds_good earlier later f is may) plain.small values suit s st)

    -- what a call by name runs
    abbrev Called : List Function → Function → Option Callee → List Value → State → Type 0
    Called earlier g found values s = Good (under_functions earlier) mode (IsResult (under_functions earlier) g.result) (or_stuck found (λ c. c.run values s))

    last_called : (earlier : List Function) (f g : Function) (name : List ℕ) (b : Bool) → same_bytes f.name name ≡ b → (if b then Some f else None) ≡ Some g → Runs earlier f → MayCall (under_functions earlier) mode (earlier ++ f ∷ []) name
        → (values : List Value) → SuitAll g.arguments values → (s : State) → StateOk (under_functions earlier) mode s → Called earlier g (if b then Some (callee_under base earlier f) else None) values s
    last_called earlier f g name false e is run may values suit s st = absurd (cc)
    last_called earlier f g name true e is run may values suit s st =
        let same : f ≡ g = same_some is in
        subst (λ (h : Function). Called earlier h (Some (callee_under base earlier f)) values s) same
        (run (subst (MayCall (under_functions earlier) mode (earlier ++ f ∷ [])) (sym ((bytes_decides f.name name).0 e)) may) values (subst (λ (h : Function). SuitAll h.arguments values) (sym same) suit) s st)

    same_size : (e : Setting) (callees : List Callee) (shape : Option Shape) → SameResult e e.variables callees e.soft_write e.written shape
    same_size e callees None = tt
    same_size e callees (Some (sh.Bits signed width)) = refl
    same_size e callees (Some sh.Boolean) = tt
    same_size e callees (Some (sh.Enum k)) = tt

    -- a further function: those before it are good as they were, and so is this one
    called_then : (earlier : List Function) (f : Function) → Runs earlier f → AreGood (under_functions earlier) mode earlier → (name : List ℕ) (g : Function) → function_named (earlier ++ f ∷ []) name ≡ Some g
        → MayCall (under_functions earlier) mode (earlier ++ f ∷ []) name → (values : List Value) → SuitAll g.arguments values → (s : State) → StateOk (under_functions earlier) mode s
        → Called earlier g (callee_at (callees_of base (earlier ++ f ∷ [])) name) values s
    called_then earlier f run good name g named may values suit s st =
        subst (λ o. Called earlier g o values s) (sym (found_more earlier f name)) (at (function_named earlier name) refl)
      where
        at : (o : Option Function) → function_named earlier name ≡ o → Called earlier g (option_or (callee_at (callees_of base earlier) name) (last earlier f name)) values s
        at None is =
            let none = callee-named base earlier name ∙ ap (option_map (callee_under base (before earlier name))) is in
            let here = sym (ap (λ o. option_or o (if same_bytes f.name name then Some f else None)) is) ∙ (sym (named_more earlier f name) ∙ named) in
            subst (λ o. Called earlier g (option_or o (last earlier f name)) values s) (sym none) (last_called earlier f g name (same_bytes f.name name) refl here run may values suit s st)
        at (Some h) is =
            let some = callee-named base earlier name ∙ ap (option_map (callee_under base (before earlier name))) is in
            let same : h ≡ g = same_some (sym (ap (λ o. option_or o (if same_bytes f.name name then Some f else None)) is) ∙ (sym (named_more earlier f name) ∙ named)) in
            let had : Called earlier g (callee_at (callees_of base earlier) name) values s = good name g (is ∙ ap Some same) (sooner earlier f name may) values suit s st in
            subst (λ o. Called earlier g (option_or o (last earlier f name)) values s) (sym some) (subst (λ o. Called earlier g o values s) some had)

    step : (earlier : List Function) (f : Function) → Runs earlier f → AreGood (under_functions earlier) mode earlier → AreGood (under_functions (earlier ++ f ∷ [])) mode (earlier ++ f ∷ [])
    step earlier f run good name g named may values suit s st =
        let e = under_functions earlier in
        let cs = callees_of base (earlier ++ f ∷ []) in
        good_to e [] cs soft_write None mode (IsResult e g.result) (IsResult (under_functions (earlier ++ f ∷ [])) g.result) (or_stuck (callee_at cs name) (λ c. c.run values s))
        (λ v h. result_to e [] cs soft_write None g.result v (same_size e cs g.result) h)
        (called_then earlier f run good name g named (may_back e [] cs soft_write None mode (earlier ++ f ∷ []) name may) values suit s (state_back e [] cs soft_write None mode s st))

    -- all functions from some on
    from_here : (earlier later : List Function) → program.functions ≡ earlier ++ later → functions_fit space full program (length earlier) later ≡ true → Each (λ f. IsBareBody f.body) later
        → AreGood (under_functions earlier) mode earlier → AreGood (under_functions program.functions) mode program.functions
    from_here earlier [] is fit plain good = subst (λ fs. AreGood (under_functions fs) mode fs) (sym (is ∙ append-nil earlier)) good
    from_here earlier (f ∷ fs) is fit plain good =
        let b = both_true (fits space full program c.Always (scope.Function (length earlier)) f.body) (functions_fit space full program (suc (length earlier)) fs) fit in
        from_here (earlier ++ f ∷ []) fs (is ∙ sym (append_assoc earlier (f ∷ []) fs)) (ap (λ n. functions_fit space full program n fs) (length_more earlier f) ∙ b.1) plain.1
        (step earlier f (runs earlier fs f is plain.0 b.0 good) good)

    -- calls of the functions of a program that fits are good
    pub functions_good : functions_fit space full program 0 program.functions ≡ true → All (λ f. IsBareBody f.body) program.functions → AreGood (under_functions program.functions) mode program.functions
    functions_good fit plain = from_here [] program.functions refl fit (each_of_all (λ f. IsBareBody f.body) program.functions plain) (λ name f named. absurd (cc))
