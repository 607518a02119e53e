-- Calls of functions that are good, and reads of CSRs.
use Rattle.std.proofs.Common.{◌≡◌, true, false, List, [], ◌∷◌, ◌++◌, map, Option, None, Some, refl, sym, ap, ◌∙◌, subst}
use Rattle.std.specs.Prelude.{◌&&◌, option_map, option_and_then, is_some, if◌then◌else◌}
use Rattle.idl_tree.specs.Each.{Each}
use Rattle.udb_base.specs.declared.names.Name.{Name}
use Rattle.udb_base.specs.declared.conditions.Cond.{Cond}
use Rattle.idl_tree.specs.declared.widths.EnumKind.{EnumKind}
use Rattle.idl_tree.specs.declared.widths.EnumKind.TheVariants.{PrivilegeMode, ExceptionCode, CsrFieldType}
use Rattle.idl_tree.specs.declared.widths.Shape.{Shape}
use Rattle.idl_tree.specs.declared.widths.Shape.TheVariants as sh
use Rattle.idl_tree.specs.declared.expressions.Expr.{Expr}
use Rattle.idl_tree.specs.declared.expressions.Expr.TheVariants as ex
use Rattle.idl_tree.specs.declared.programs.Argument.{Argument}
use Rattle.idl_tree.specs.declared.programs.Function.{Function}
use Rattle.idl_spec.specs.Values.{Value, same_enum}
use Rattle.idl_spec.specs.Harts.{State, and_then, required}
use Rattle.idl_spec.specs.Shapes.{Kind, of_bits, of_flag, of_member, declared_kind, function_named, shape}
use Rattle.idl_spec.specs.ShapeLaws.{shape-Call}
use Rattle.idl_spec.specs.Settings.{Setting, Scope, Reading}
use Rattle.idl_spec.specs.Forms.{call, values_in_turn}
use Rattle.idl_spec.specs.Mean.{mean_expr}
use Rattle.idl_spec.specs.MeanLaws.{mean-Call}
use Rattle.idl_spec.specs.Deeds.{calls, reached}
use Rattle.idl_spec.specs.DeedLaws.{deeds-Call}
use Rattle.idl_spec.specs.Demands.{Issue, Visible, mismatch_unless, same_kind, arguments_suit, reaches_fields_alone, call_issues, result_issues, unknown_name, later_function}
use Rattle.idl_spec.specs.Checks.{Part}
use Rattle.idl_spec.specs.CheckLaws.{checks-Call}
use Rattle.type_laws.specs.Kinds.{HasKind, Suits, SuitAll, IsResult, Mode, loud, in_field, below_field, is_in_field, StateOk, Good, may_call, MayCall, DeedOk, Round, view_in, Passes, AllPass}
use Rattle.type_laws.specs.Callees.{Callable}
use Rattle.type_laws.specs.LiteralLaws.{numbers-Call}
use Rattle.type_laws.proofs.Outcomes.{both_true, then_good, same_some}
use Rattle.type_laws.proofs.Passing.{front, back, unless}
use Rattle.type_laws.proofs.Sound.{Stands, Sound, names_in, checks_in, clean_parts, own_deeds}
use Rattle.type_laws.proofs.Equalities.{by_kind}
use Rattle.type_laws.proofs.Lists.{map_seconds, map_kinds, HasKinds, AreSound, are_sound}

pub enum_is : (k l : EnumKind) → same_enum k l ≡ true → k ≡ l
enum_is PrivilegeMode PrivilegeMode h = refl
enum_is ExceptionCode ExceptionCode h = refl
enum_is CsrFieldType CsrFieldType h = refl
enum_is PrivilegeMode ExceptionCode h = absurd (cc)
enum_is PrivilegeMode CsrFieldType h = absurd (cc)
enum_is ExceptionCode PrivilegeMode h = absurd (cc)
enum_is ExceptionCode CsrFieldType h = absurd (cc)
enum_is CsrFieldType PrivilegeMode h = absurd (cc)
enum_is CsrFieldType ExceptionCode h = absurd (cc)

module _ (e : Setting) (mode : Mode) (round : Round) where
  -- a value of a kind that fits a declared shape can be brought to it
  pub suits_shape : (s : Shape) (k : Kind) (x : Value) → same_kind (declared_kind s) k ≡ true → HasKind e k x → Suits s x
  suits_shape (sh.Bits signed width) k x h has = by_kind e mode round (λ k x. same_kind (of_bits width signed) k ≡ true → Suits (sh.Bits signed width) x) (λ w p x hx h. tt) (λ x h. absurd (cc)) (λ k l n hm h. absurd (cc)) (λ x h. absurd (cc)) (λ x h. absurd (cc)) k x has h
  suits_shape sh.Boolean k x h has = by_kind e mode round (λ k x. same_kind of_flag k ≡ true → Suits sh.Boolean x) (λ w p x hx h. absurd (cc)) (λ x h. tt) (λ k l n hm h. absurd (cc)) (λ x h. absurd (cc)) (λ x h. absurd (cc)) k x has h
  suits_shape (sh.Enum m) k x h has = by_kind e mode round (λ k x. same_kind (of_member m) k ≡ true → Suits (sh.Enum m) x) (λ w p x hx h. absurd (cc)) (λ x h. absurd (cc))
      (λ k l n hm h. (subst (λ z. same_enum z l ≡ true) (sym (enum_is m k h)) hm.0, hm.1)) (λ x h. absurd (cc)) (λ x h. absurd (cc)) k x has h

  pub suit_all : (as_ : List Argument) (ks : List Kind) (vs : List Value) → arguments_suit as_ (map Some ks) ≡ true → HasKinds e mode round ks vs → SuitAll as_ vs
  suit_all [] [] [] h has = tt
  suit_all [] [] (v ∷ vs) h has = absurd has
  suit_all [] (k ∷ ks) vs h has = absurd (cc)
  suit_all (a ∷ more) [] vs h has = absurd (cc)
  suit_all (a ∷ more) (k ∷ ks) [] h has = absurd has
  suit_all (a ∷ more) (k ∷ ks) (v ∷ vs) h has =
      let b = both_true (same_kind (declared_kind a.shape) k) (arguments_suit more (map Some ks)) h in
      (suits_shape a.shape k v b.0 has.0, suit_all more ks vs b.1 has.1)

  -- the callee may be called
  may : (m : Mode) (name : Name) → (is_in_field m ≡ true → round.before ≡ e.program.functions) → (if is_in_field m then reaches_fields_alone (view_in e m round []) name else true) ≡ true → DeedOk e m round.before (calls name) → MayCall e m round.before name
  unfolding reached
  may loud name whole h ok = tt
  may (in_field reads) name whole h ok = subst (λ fs. may_call reads e.program.functions fs name ≡ true) (sym (whole refl)) h
  may (below_field reads) name whole h ok = ok

  -- a call that passes: the function, its arguments, and that it may be called
  pub record CallPasses (name : Name) (kinds : List (Option Kind)) : Type 0 where
    pub function : Function
    pub named : function_named e.program.functions name ≡ Some function
    pub earlier : function_named round.before name ≡ Some function
    pub suit : arguments_suit function.arguments kinds ≡ true
    pub allowed : (if is_in_field mode then reaches_fields_alone (view_in e mode round []) name else true) ≡ true

  abbrev pub issues_of : Name → List (Option Kind) → Option Function → List Issue
  issues_of name kinds o = elim o [
    | None ↦ unknown_name name ∷ []
    | Some f ↦ (if is_some (function_named round.before name) then [] else later_function name ∷ [])
        ++ mismatch_unless (arguments_suit f.arguments kinds && (if is_in_field mode then reaches_fields_alone (view_in e mode round []) name else true))
  ]

  pub call_passes : Callable e mode round → (known : List Cond) (name : Name) (kinds : List (Option Kind)) → Passes e known (issues_of name kinds (function_named e.program.functions name)) → CallPasses name kinds
  call_passes good known name kinds h = at (function_named e.program.functions name) refl h (function_named round.before name) refl
    where
      at : (o : Option Function) → function_named e.program.functions name ≡ o → Passes e known (issues_of name kinds o) → (q : Option Function) → function_named round.before name ≡ q → CallPasses name kinds
      at None is h q isq = absurd (let b : false ≡ true = h.0 in cc)
      at (Some f) is h None isq = absurd (no_later f (subst (λ (z : Option Function). Passes e known ((if is_some z then [] else later_function name ∷ []) ++ mismatch_unless (arguments_suit f.arguments kinds && (if is_in_field mode then reaches_fields_alone (view_in e mode round []) name else true)))) isq h))
        where
          no_later : (f : Function) → Passes e known ((later_function name ∷ []) ++ mismatch_unless (arguments_suit f.arguments kinds && (if is_in_field mode then reaches_fields_alone (view_in e mode round []) name else true))) → ⊥
          no_later f h = let b : false ≡ true = h.0 in absurd (cc)
      at (Some f) is h (Some g) isq =
          let same : f ≡ g = same_some (sym is ∙ good.earlier name g isq) in
          let w = both_true (arguments_suit f.arguments kinds) (if is_in_field mode then reaches_fields_alone (view_in e mode round []) name else true)
          (unless e known _ (back e known (if is_some (function_named round.before name) then [] else later_function name ∷ []) _ h)) in
          record { function = f; named = is; earlier = isq ∙ ap Some (sym same); suit = w.0; allowed = w.1 }

  -- the call itself, as expressions and statements make it
  pub call_good : Callable e mode round → (name : Name) (es : List Expr) (inner : List Visible) (known : List Cond) (a : AreSound e mode round es inner known) (c : CallPasses name (map Some a.kinds)) → DeedOk e mode round.before (calls name)
      → (scope : Scope) (s : State) → Stands e mode round inner known scope s → Good e mode (IsResult e c.function.result) (call e name (map (mean_expr e) es) scope s)
  call_good good name es inner known a c ok scope s at =
      then_good e mode (HasKinds e mode round a.kinds) (IsResult e c.function.result) (values_in_turn (map (mean_expr e) es) scope s) _ (a.run scope s at) (λ vs t hvs ht.
      good.good name c.function c.earlier (may mode name good.whole c.allowed ok) vs (suit_all c.function.arguments a.kinds vs c.suit hvs) t ht)

  record HasShape (f : Function) : Type 0 where
    pub shape : Shape
    pub is : f.result ≡ Some shape

  result_there : (name : Name) (known : List Cond) (f : Function) → function_named e.program.functions name ≡ Some f → Passes e known (elim (function_named e.program.functions name) [ None ↦ [] | Some g ↦ mismatch_unless (is_some g.result) ]) → HasShape f
  result_there name known f is h = some f.result refl (unless e known (is_some f.result) (subst (λ (o : Option Function). Passes e known (result_of o)) is h))
    where
      result_of : Option Function → List Issue
      result_of o = elim o [ None ↦ [] | Some g ↦ mismatch_unless (is_some g.result) ]

      some : (o : Option Shape) → f.result ≡ o → is_some o ≡ true → HasShape f
      some None is h = absurd (cc)
      some (Some shape) is h = record { shape = shape; is = is }

  result_good : (s : Shape) (o : Option Value) (t : State) → IsResult e (Some s) o → StateOk e mode t → Good e mode (HasKind e (declared_kind s)) (required o t)
  result_good s None t h ht = absurd h
  result_good s (Some v) t h ht = (h, ht)

  pub sound-Call : Callable e mode round → (name : Name) (es : List Expr) → Each (Sound e mode round) es → Sound e mode round (ex.Call name es)
  sound-Call good name es hs inner known clean pass =
      let names = names_in e mode round inner in
      let p = subst (AllPass e) (checks-Call (view_in e mode round inner) name es known) pass in
      let a : AreSound e mode round es inner known = are_sound e mode round es hs inner known (clean_parts e mode round (ex.Call name es) es (calls name ∷ []) [] (deeds-Call name es) (numbers-Call name es) clean) p.1 in
      let own = front e known (call_issues (view_in e mode round inner) name (map (λ (q : Expr × Option Kind). q.1) (map (λ (q : Part). (q.0, shape names q.0)) (map (λ x. (x, checks_in e mode round inner x)) es))) ++ result_issues (view_in e mode round inner) name) _ p.0 in
      let first = front e known (call_issues (view_in e mode round inner) name (map (λ (q : Expr × Option Kind). q.1) (map (λ (q : Part). (q.0, shape names q.0)) (map (λ x. (x, checks_in e mode round inner x)) es)))) _ own in
      let second = back e known (call_issues (view_in e mode round inner) name (map (λ (q : Expr × Option Kind). q.1) (map (λ (q : Part). (q.0, shape names q.0)) (map (λ x. (x, checks_in e mode round inner x)) es)))) _ own in
      let c : CallPasses name (map Some a.kinds) = call_passes good known name (map Some a.kinds)
      (subst (λ (ks : List (Option Kind)). Passes e known (issues_of name ks (function_named e.program.functions name))) (map_kinds (λ x. checks_in e mode round inner x) (λ x. shape names x) es ∙ a.are) first) in
      let r : HasShape c.function = result_there name known c.function c.named second in
      record {
        kind = declared_kind r.shape;
        is = shape-Call names name es ∙ (ap (option_and_then (λ (f : Function). option_map declared_kind f.result)) c.named ∙ ap (option_map declared_kind) r.is);
        runs = λ scope s at. subst (Good e mode (HasKind e (declared_kind r.shape)))
            (sym (mean-Call e name es scope s ∙ ap (λ (rs : List Reading). and_then (call e name rs scope s) (λ v t. required v t)) (map_seconds (mean_expr e) es)))
            (then_good e mode (IsResult e c.function.result) (HasKind e (declared_kind r.shape)) (call e name (map (mean_expr e) es) scope s) _
            (call_good good name es inner known a c (own_deeds e mode round (ex.Call name es) es (calls name ∷ []) (deeds-Call name es) clean).0 scope s at)
            (λ v t hv ht. result_good r.shape v t (subst (λ (o : Option Shape). IsResult e o v) r.is hv) ht));
      }
