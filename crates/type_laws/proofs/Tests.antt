-- Every test tells its claims; `&&` and `||` are sound.
use Rattle.std.proofs.Common.{◌≡◌, Bool, true, false, List, [], ◌∷◌, ◌++◌, Option, Some, refl, sym, ap, ◌∙◌, subst}
use Rattle.std.specs.Prelude.{◌&&◌, if◌then◌else◌}
use Rattle.udb_base.specs.declared.conditions.Cond.{Cond}
use Rattle.udb_base.specs.declared.conditions.Test.{Test}
use Rattle.udb_base.specs.declared.conditions.Test.TheVariants as test
use Rattle.udb_spec.specs.Conditions.{holds}
use Rattle.idl_tree.specs.declared.expressions.Unary.TheVariants as u
use Rattle.idl_tree.specs.declared.expressions.Binary.{Binary}
use Rattle.idl_tree.specs.declared.expressions.Binary.TheVariants as b
use Rattle.idl_tree.specs.declared.expressions.Expr.{Expr}
use Rattle.idl_tree.specs.declared.expressions.Expr.TheVariants as ex
use Rattle.idl_spec.specs.Values.{Value, flag}
use Rattle.idl_spec.specs.Harts.{State, Outcome, done, and_then}
use Rattle.idl_spec.specs.Shapes.{Kind, of_flag, shape}
use Rattle.idl_spec.specs.ShapeLaws.{shape-Binary}
use Rattle.idl_spec.specs.Settings.{Setting, Scope, with_flag}
use Rattle.idl_spec.specs.Forms.{binary}
use Rattle.idl_spec.specs.Mean.{mean_expr}
use Rattle.idl_spec.specs.MeanLaws.{mean-Flag, mean-Unary, mean-Binary}
use Rattle.idl_spec.specs.Formulas.{Claims, claims, of_option, truth_cond, side, comparison}
use Rattle.idl_spec.specs.FormulaLaws.{claims-Flag, claims-Unary, claims-Binary}
use Rattle.idl_spec.specs.DeedLaws.{deeds-Binary}
use Rattle.idl_spec.specs.Demands.{Visible, flag_kind, wants_all}
use Rattle.idl_spec.specs.Checks.{context_holds}
use Rattle.idl_spec.specs.CheckLaws.{checks-Binary}
use Rattle.idl_spec.specs.TestPlaces.{where_true, where_false}
use Rattle.type_laws.specs.Kinds.{HasKind, Mode, Good, Round, view_in, under, Passes, AllPass}
use Rattle.type_laws.specs.Literals.{expr_numbers, AreSmall}
use Rattle.type_laws.specs.LiteralLaws.{numbers-Unary, numbers-Binary}
use Rattle.type_laws.specs.Worlds.{Tested}
use Rattle.type_laws.proofs.Outcomes.{each_front, each_back, flag_good}
use Rattle.type_laws.proofs.Passing.{flag_kind_is, front, two_want}
use Rattle.type_laws.proofs.Sound.{IsSound, Sound, names_in, checks_in, clean_parts}
use Rattle.type_laws.proofs.Told.{told_formula, told_option, truth_is}
use Rattle.type_laws.proofs.Sides.{sign_of}
use Rattle.type_laws.proofs.Tells.{ToldHere, shows, Tells, after_not, after_and, after_or, after_two}

module _ (e : Setting) (tested : Tested e) where
  small_two : (sign : Binary) (a y : Expr) → AreSmall (expr_numbers (ex.Binary sign a y)) → AreSmall (expr_numbers a) × AreSmall (expr_numbers y)
  small_two sign a y h =
      let k = subst AreSmall (numbers-Binary sign a y) h in
      (each_front _ (expr_numbers a) (expr_numbers y ++ []) k, each_front _ (expr_numbers y) [] (each_back _ (expr_numbers a) (expr_numbers y ++ []) k))

  pub tells-Flag : (x : Bool) → Tells e tested (ex.Flag x)
  tells-Flag x inner scope s t v at small h =
      let same : x ≡ v = same_flag x v s t (sym (mean-Flag e x scope s) ∙ h) in
      subst (λ (y : Claims). ToldHere e tested y v) (sym (claims-Flag e.space x)) (told_formula e.space e.full (truth_cond x) v (truth_is e.space e.full x ∙ same))
    where
      same_flag : (x v : Bool) (s t : State) → done (flag x) s ≡ done (flag v) t → x ≡ v
      same_flag x v s t h = cc

  pub tells-Not : (a : Expr) → Tells e tested a → Tells e tested (ex.Unary u.Not a)
  tells-Not a ia inner scope s t v at small h =
      let k = subst AreSmall (numbers-Unary u.Not a) small in
      subst (λ (y : Claims). ToldHere e tested y v) (sym (claims-Unary e.space u.Not a))
      (after_not e tested (claims e.space a) (mean_expr e a scope s) t v (λ w q is. ia inner scope s q w at (each_front _ (expr_numbers a) [] k) is) (sym (mean-Unary e u.Not a scope s) ∙ h))

  pub tells-And : (a y : Expr) → Tells e tested a → Tells e tested y → Tells e tested (ex.Binary b.And a y)
  tells-And a y ia iy inner scope s t v at small h =
      let k = small_two b.And a y small in
      subst (λ (z : Claims). ToldHere e tested z v) (sym (claims-Binary e.space b.And a y))
      (after_and e tested (claims e.space a) (claims e.space y) (mean_expr e a scope s) (mean_expr e y scope) t v (λ w q is. ia inner scope s q w at k.0 is) (λ w r q is. iy inner scope r q w at k.1 is) (sym (mean-Binary e b.And a y scope s) ∙ h))

  pub tells-Or : (a y : Expr) → Tells e tested a → Tells e tested y → Tells e tested (ex.Binary b.Or a y)
  tells-Or a y ia iy inner scope s t v at small h =
      let k = small_two b.Or a y small in
      subst (λ (z : Claims). ToldHere e tested z v) (sym (claims-Binary e.space b.Or a y))
      (after_or e tested (claims e.space a) (claims e.space y) (mean_expr e a scope s) (mean_expr e y scope) t v (λ w q is. ia inner scope s q w at k.0 is) (λ w r q is. iy inner scope r q w at k.1 is) (sym (mean-Binary e b.Or a y scope s) ∙ h))

  -- a comparison, by its claims and its meaning
  tells_compared : (i : Test) (a y : Expr) → claims e.space (ex.Binary (sign_of i) a y) ≡ of_option (comparison i (side e.space a) (side e.space y))
      → ((scope : Scope) (s : State) → mean_expr e (ex.Binary (sign_of i) a y) scope s ≡ and_then (mean_expr e a scope s) (λ x r. and_then (mean_expr e y scope r) (λ z q. binary (sign_of i) x z q))) → Tells e tested (ex.Binary (sign_of i) a y)
  tells_compared i a y claimed meant inner scope s t v at small h =
      let k = small_two (sign_of i) a y small in
      subst (λ (z : Claims). ToldHere e tested z v) (sym claimed)
      (told_option e.space e.full (comparison i (side e.space a) (side e.space y)) v
      (after_two e tested i (side e.space a) (side e.space y) (mean_expr e a scope s) (mean_expr e y scope) t v
      (λ x q is. shows e tested a inner scope s q x at k.0 is) (λ x r q is. shows e tested y inner scope r q x at k.1 is) (sym (meant scope s) ∙ h)))

  pub tells-Equal : (a y : Expr) → Tells e tested (ex.Binary b.Equal a y)
  tells-Equal a y = tells_compared test.Equal a y (claims-Binary e.space b.Equal a y) (λ scope s. mean-Binary e b.Equal a y scope s)

  pub tells-NotEqual : (a y : Expr) → Tells e tested (ex.Binary b.NotEqual a y)
  tells-NotEqual a y = tells_compared test.NotEqual a y (claims-Binary e.space b.NotEqual a y) (λ scope s. mean-Binary e b.NotEqual a y scope s)

  pub tells-Below : (a y : Expr) → Tells e tested (ex.Binary b.Below a y)
  tells-Below a y = tells_compared test.Below a y (claims-Binary e.space b.Below a y) (λ scope s. mean-Binary e b.Below a y scope s)

  pub tells-AtMost : (a y : Expr) → Tells e tested (ex.Binary b.AtMost a y)
  tells-AtMost a y = tells_compared test.AtMost a y (claims-Binary e.space b.AtMost a y) (λ scope s. mean-Binary e b.AtMost a y scope s)

  pub tells-Above : (a y : Expr) → Tells e tested (ex.Binary b.Above a y)
  tells-Above a y = tells_compared test.Above a y (claims-Binary e.space b.Above a y) (λ scope s. mean-Binary e b.Above a y scope s)

  pub tells-AtLeast : (a y : Expr) → Tells e tested (ex.Binary b.AtLeast a y)
  tells-AtLeast a y = tells_compared test.AtLeast a y (claims-Binary e.space b.AtLeast a y) (λ scope s. mean-Binary e b.AtLeast a y scope s)

  -- ---- contexts

  pub context_more : (known : List Cond) (p : Cond) → context_holds (under e) known ≡ true → holds e.space e.full p ≡ true → context_holds (under e) (known ++ p ∷ []) ≡ true
  context_more [] p h k = ap (λ z. z && true) k
  context_more (q ∷ qs) p h k = at (holds e.space e.full q) (context_holds (under e) qs) h (context_more qs p)
    where
      at : (x y : Bool) → (x && y) ≡ true → (y ≡ true → holds e.space e.full p ≡ true → context_holds (under e) (qs ++ p ∷ []) ≡ true) → (x && context_holds (under e) (qs ++ p ∷ [])) ≡ true
      at true true h rest = rest refl k
      at true false h rest = absurd (cc)
      at false y h rest = absurd (cc)

module _ (e : Setting) (tested : Tested e) (mode : Mode) (round : Round) where
  -- two truth values, the right one where the left one leaves it open
  two_flags : (known : List Cond) (k l : Kind) → Passes e known (wants_all flag_kind (Some k ∷ Some l ∷ [])) → (k ≡ of_flag) × (l ≡ of_flag)
  two_flags known k l h = let w = two_want e known flag_kind (Some k) (Some l) h in (flag_kind_is k w.0, flag_kind_is l w.1)

  of_two : (known more : List Cond) (inner : List Visible) (a c : Expr) (s : IsSound e mode round a inner known) (t : IsSound e mode round c inner more) → Passes e known (wants_all flag_kind (shape (names_in e mode round inner) a ∷ shape (names_in e mode round inner) c ∷ [])) → (s.kind ≡ of_flag) × (t.kind ≡ of_flag)
  of_two known more inner a c s t h =
      two_flags known s.kind t.kind (subst (λ (z : Option Kind). Passes e known (wants_all flag_kind (Some s.kind ∷ z ∷ []))) t.is
      (subst (λ (z : Option Kind). Passes e known (wants_all flag_kind (z ∷ shape (names_in e mode round inner) c ∷ []))) s.is h))

  last_flag : (o : Outcome Value) → Good e mode (HasKind e of_flag) o → Good e mode (HasKind e of_flag) (with_flag o (λ y t. done (flag y) t))
  last_flag o h = flag_good e mode (HasKind e of_flag) o _ h (λ y t is ht. (tt, ht))

  pub sound-And : (a c : Expr) → Tells e tested a → Sound e mode round a → Sound e mode round c → Sound e mode round (ex.Binary b.And a c)
  sound-And a c ta ha hc inner known clean pass =
      let more = where_true e.space a known in
      let p = subst (AllPass e) (checks-Binary (view_in e mode round inner) b.And a c known) pass in
      let parts = clean_parts e mode round (ex.Binary b.And a c) (a ∷ c ∷ []) [] [] (deeds-Binary b.And a c) (numbers-Binary b.And a c) clean in
      let s : IsSound e mode round a inner known = ha inner known parts.0 (each_front _ (checks_in e mode round inner a known) (checks_in e mode round inner c more) p.1) in
      let t : IsSound e mode round c inner more = hc inner more parts.1.0 (each_back _ (checks_in e mode round inner a known) (checks_in e mode round inner c more) p.1) in
      let ks = of_two known more inner a c s t (front e known (wants_all flag_kind (shape (names_in e mode round inner) a ∷ shape (names_in e mode round inner) c ∷ [])) [] p.0) in
      record {
        kind = of_flag;
        is = shape-Binary (names_in e mode round inner) b.And a c;
        runs = λ scope r at. subst (Good e mode (HasKind e of_flag)) (sym (mean-Binary e b.And a c scope r))
            (flag_good e mode (HasKind e of_flag) (mean_expr e a scope r) _ (subst (λ (z : Kind). Good e mode (HasKind e z) (mean_expr e a scope r)) ks.0 (s.runs scope r at))
            (λ x q is hq. side_taken x (mean_expr e c scope q) (done (flag false) q)
            (λ i. last_flag (mean_expr e c scope q) (subst (λ (z : Kind). Good e mode (HasKind e z) (mean_expr e c scope q)) ks.1
            (t.runs scope q (record { matches = at.matches; state = hq; here = context_more e tested known (claims e.space a).when_true at.here ((ta inner scope r q x at.matches parts.0.1 is).yes i) }))))
            (λ i. (tt, hq))));
      }
    where
      side_taken : (x : Bool) (o z : Outcome Value) → (x ≡ true → Good e mode (HasKind e of_flag) (with_flag o (λ y t. done (flag y) t))) → (x ≡ false → Good e mode (HasKind e of_flag) z) → Good e mode (HasKind e of_flag) (if x then with_flag o (λ y t. done (flag y) t) else z)
      side_taken true o z h k = h refl
      side_taken false o z h k = k refl

  pub sound-Or : (a c : Expr) → Tells e tested a → Sound e mode round a → Sound e mode round c → Sound e mode round (ex.Binary b.Or a c)
  sound-Or a c ta ha hc inner known clean pass =
      let more = where_false e.space a known in
      let p = subst (AllPass e) (checks-Binary (view_in e mode round inner) b.Or a c known) pass in
      let parts = clean_parts e mode round (ex.Binary b.Or a c) (a ∷ c ∷ []) [] [] (deeds-Binary b.Or a c) (numbers-Binary b.Or a c) clean in
      let s : IsSound e mode round a inner known = ha inner known parts.0 (each_front _ (checks_in e mode round inner a known) (checks_in e mode round inner c more) p.1) in
      let t : IsSound e mode round c inner more = hc inner more parts.1.0 (each_back _ (checks_in e mode round inner a known) (checks_in e mode round inner c more) p.1) in
      let ks = of_two known more inner a c s t (front e known (wants_all flag_kind (shape (names_in e mode round inner) a ∷ shape (names_in e mode round inner) c ∷ [])) [] p.0) in
      record {
        kind = of_flag;
        is = shape-Binary (names_in e mode round inner) b.Or a c;
        runs = λ scope r at. subst (Good e mode (HasKind e of_flag)) (sym (mean-Binary e b.Or a c scope r))
            (flag_good e mode (HasKind e of_flag) (mean_expr e a scope r) _ (subst (λ (z : Kind). Good e mode (HasKind e z) (mean_expr e a scope r)) ks.0 (s.runs scope r at))
            (λ x q is hq. side_taken x (mean_expr e c scope q) (done (flag true) q)
            (λ i. last_flag (mean_expr e c scope q) (subst (λ (z : Kind). Good e mode (HasKind e z) (mean_expr e c scope q)) ks.1
            (t.runs scope q (record { matches = at.matches; state = hq; here = context_more e tested known (claims e.space a).when_false at.here ((ta inner scope r q x at.matches parts.0.1 is).no i) }))))
            (λ i. (tt, hq))));
      }
    where
      side_taken : (x : Bool) (o z : Outcome Value) → (x ≡ false → Good e mode (HasKind e of_flag) (with_flag o (λ y t. done (flag y) t))) → (x ≡ true → Good e mode (HasKind e of_flag) z) → Good e mode (HasKind e of_flag) (if x then z else with_flag o (λ y t. done (flag y) t))
      side_taken true o z h k = k refl
      side_taken false o z h k = h refl
