-- Calls as statements.
use Rattle.std.proofs.Common.{◌≡◌, List, [], ◌∷◌, ◌++◌, map, Option, Some, refl, sym, ap, subst}
use Rattle.std.specs.Prelude.{flat_map}
use Rattle.idl_tree.specs.Each.{Each}
use Rattle.udb_base.specs.declared.names.Name.{Name}
use Rattle.idl_tree.specs.declared.expressions.Expr.{Expr}
use Rattle.idl_tree.specs.declared.statements.Stmt.TheVariants as st
use Rattle.idl_spec.specs.Shapes.{Kind, function_named}
use Rattle.idl_spec.specs.Settings.{Setting}
use Rattle.idl_spec.specs.Forms.{call}
use Rattle.idl_spec.specs.Mean.{mean_expr}
use Rattle.idl_spec.specs.MeanLaws.{runs-Call}
use Rattle.idl_spec.specs.Deeds.{calls}
use Rattle.idl_spec.specs.DeedLaws.{does-Call}
use Rattle.idl_spec.specs.Checks.{variable_names}
use Rattle.idl_spec.specs.CheckLaws.{walks-Call}
use Rattle.type_laws.specs.Kinds.{IsResult, Mode, Round, view_in, Passes, AllPass}
use Rattle.type_laws.specs.Callees.{Callable}
use Rattle.type_laws.specs.LiteralLaws.{counts-Call}
use Rattle.type_laws.proofs.Outcomes.{then_good}
use Rattle.type_laws.proofs.Sound.{Sound, checks_in}
use Rattle.type_laws.proofs.Lists.{AreSound, are_sound}
use Rattle.type_laws.proofs.Calls.{CallPasses, issues_of, call_passes, call_good}
use Rattle.type_laws.proofs.StatementFlows.{IsFlow, Flows, SoundStmt, clean_values, own_acts}
use Rattle.type_laws.proofs.StatementForms.{silent}

beside : {A K B : Type 0} (f : A → K → List B) (k : K) (xs : List A) → flat_map (λ x. f x k) xs ≡ flat_map (λ (p : A × (K → List B)). p.1 k) (map (λ x. (x, f x)) xs)
beside f k [] = refl
beside f k (x ∷ xs) = ap (λ ys. f x k ++ ys) (beside f k xs)

module _ (e : Setting) (mode : Mode) (round : Round) (sound : (x : Expr) → Sound e mode round x) (good : Callable e mode round) where
  all_sound : (es : List Expr) → Each (Sound e mode round) es
  all_sound [] = tt
  all_sound (x ∷ es) = (sound x, all_sound es)

  pub sound-called : (name : Name) (es : List Expr) → SoundStmt e mode round (st.Call name es)
  sound-called name es inner known clean pass scope s h =
      let p = subst (AllPass e) (walks-Call (view_in e mode round []) name es (variable_names e.variables ++ inner) known) pass in
      let c = clean_values e mode round (st.Call name es) es (calls name ∷ []) [] [] (does-Call name es) (counts-Call name es) clean in
      let a : AreSound e mode round es inner known = are_sound e mode round es (all_sound es) inner known c
      (subst (AllPass e) (beside (checks_in e mode round inner) known es) p.1) in
      let f : CallPasses e mode round name (map Some a.kinds) = call_passes e mode round good known name (map Some a.kinds)
      (subst (λ (ks : List (Option Kind)). Passes e known (issues_of e mode round name ks (function_named e.program.functions name))) a.are p.0) in
      silent e mode round sound (st.Call name es) inner _ refl
      (subst (Flows e mode round inner) (sym (runs-Call e name es scope s))
      (then_good e mode (IsResult e f.function.result) (IsFlow e round.returns inner) (call e name (map (mean_expr e) es) scope s) _
      (call_good e mode round good name es inner known a f (own_acts e mode round (st.Call name es) (calls name ∷ []) _ (does-Call name es) clean).0 scope s h)
      (λ v t hv ht. (h.matches, ht))))
