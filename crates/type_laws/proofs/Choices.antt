-- A test with two sides: the taken one is brought to the kind of both.
use Rattle.std.proofs.Common.{◌≡◌, Bool, true, false, List, [], ◌∷◌, ◌++◌, Option, None, Some, refl, sym, ap, ◌∙◌, subst}
use Rattle.std.specs.Prelude.{is_some, if◌then◌else◌}
use Rattle.udb_base.specs.declared.conditions.Cond.{Cond}
use Rattle.idl_tree.specs.declared.widths.Width.{Width}
use Rattle.idl_tree.specs.declared.widths.EnumKind.{EnumKind}
use Rattle.idl_tree.specs.declared.widths.EnumKind.TheVariants.{PrivilegeMode, ExceptionCode, CsrFieldType}
use Rattle.idl_tree.specs.declared.widths.Shape.{Shape}
use Rattle.idl_tree.specs.declared.widths.Shape.TheVariants as sh
use Rattle.idl_tree.specs.declared.expressions.Expr.{Expr}
use Rattle.idl_tree.specs.declared.expressions.Expr.TheVariants as ex
use Rattle.idl_spec.specs.Values.{Value, bits, flag, member, given_text, written_text, same_enum}
use Rattle.idl_spec.specs.Harts.{State, Outcome, done, raised, stuck, and_then}
use Rattle.idl_spec.specs.Shapes.{Kind, of_bits, of_flag, of_member, of_given_text, of_written_text, declared_kind, choice_kind, shape}
use Rattle.idl_spec.specs.ShapeLaws.{shape-Choice}
use Rattle.idl_spec.specs.Settings.{Setting, number_of_width, names_of}
use Rattle.idl_spec.specs.Forms.{in_kind}
use Rattle.idl_spec.specs.Formulas.{claims}
use Rattle.idl_spec.specs.Mean.{in_shape, mean_expr}
use Rattle.idl_spec.specs.MeanLaws.{mean-Choice}
use Rattle.idl_spec.specs.DeedLaws.{deeds-Choice}
use Rattle.idl_spec.specs.TestPlaces.{where_true, where_false}
use Rattle.idl_spec.specs.Demands.{kind_issues, mismatch_unless, want, suits, same_kind, flag_kind, is_choice}
use Rattle.idl_spec.specs.CheckLaws.{checks-Choice}
use Rattle.type_laws.specs.Kinds.{HasKind, Mode, StateOk, Good, Round, view_in, Passes, AllPass}
use Rattle.type_laws.specs.LiteralLaws.{numbers-Choice}
use Rattle.type_laws.specs.Worlds.{Tested, InRange}
use Rattle.type_laws.proofs.Outcomes.{same_some, each_front, each_back, then_good, flag_good}
use Rattle.type_laws.proofs.Passing.{Here, flag_kind_is, front, back, unless, range}
use Rattle.type_laws.proofs.Sound.{IsSound, Sound, names_in, checks_in, clean_parts}
use Rattle.type_laws.proofs.TwoForms.{as_bits}
use Rattle.type_laws.proofs.Tells.{Tells}
use Rattle.type_laws.proofs.Tests.{context_more}
use Rattle.type_laws.proofs.StatementForms.{in_shape_good}
use Rattle.type_laws.proofs.AlikeKinds.{not_bits, Alike, in_bits, others}
use Rattle.type_laws.proofs.AlikeShapes.{shape_in_scope}

-- both sides have kinds that fit the kind of the whole
same_member : (j : EnumKind) → same_enum j j ≡ true
same_member PrivilegeMode = refl
same_member ExceptionCode = refl
same_member CsrFieldType = refl

member_fits : (i j : EnumKind) (m : Kind) (b : Bool) → same_enum i j ≡ b → (if b then Some (of_member i) else None) ≡ Some m → (same_kind m (of_member i) ≡ true) × (same_kind m (of_member j) ≡ true)
member_fits i j m true is h = subst (λ z. (same_kind z (of_member i) ≡ true) × (same_kind z (of_member j) ≡ true)) (same_some h) (same_member i, is)
member_fits i j m false is h = absurd (cc)

choice_fits : (k l m : Kind) → choice_kind (Some k) (Some l) ≡ Some m → (same_kind m k ≡ true) × (same_kind m l ≡ true)
choice_fits (of_bits w s) (of_bits v t) m h = subst (λ z. (same_kind z (of_bits w s) ≡ true) × (same_kind z (of_bits v t) ≡ true)) (same_some h) (refl, refl)
choice_fits of_flag of_flag m h = subst (λ z. (same_kind z of_flag ≡ true) × (same_kind z of_flag ≡ true)) (same_some h) (refl, refl)
choice_fits (of_member i) (of_member j) m h = member_fits i j m (same_enum i j) refl h
choice_fits _ _ m h = absurd (cc)

pub record HasChoiceKind (k l : Kind) : Type 0 where
  pub kind : Kind
  pub is : choice_kind (Some k) (Some l) ≡ Some kind

choice_there : (k l : Kind) → is_choice (Some k) (Some l) ≡ true → HasChoiceKind k l
choice_there k l h = at (choice_kind (Some k) (Some l)) refl h
  where
    at : (o : Option Kind) → choice_kind (Some k) (Some l) ≡ o → is_some o ≡ true → HasChoiceKind k l
    at None is h = absurd (cc)
    at (Some m) is h = record { kind = m; is = is }

bits_fit : (w v : Width) (s : Bool) (k : Kind) → same_kind (of_bits w s) k ≡ true → same_kind (of_bits v s) k ≡ true
bits_fit w v s (of_bits p q) h = refl
bits_fit w v s of_flag h = h
bits_fit w v s (of_member m) h = h
bits_fit w v s of_given_text h = h
bits_fit w v s of_written_text h = h

module _ (e : Setting) (mode : Mode) (round : Round) where
  good_by : (P Q : Value → Type 0) (o : Outcome Value) → ((x : Value) → P x → Q x) → Good e mode P o → Good e mode Q o
  good_by P Q (done x s) f h = (f x h.0, h.1)
  good_by P Q (raised code tval s) f h = h
  good_by P Q stuck f h = h

  -- a side in the kind of both is a value in a declared shape
  in_kind_is : (s : Shape) (x : Value) (t : State) → in_kind e (Some (declared_kind s)) x t ≡ in_shape e s x t
  in_kind_is (sh.Bits signed width) (bits v) t = refl
  in_kind_is (sh.Bits signed width) (flag x) t = refl
  in_kind_is (sh.Bits signed width) (member l n) t = refl
  in_kind_is (sh.Bits signed width) (given_text x) t = refl
  in_kind_is (sh.Bits signed width) (written_text x) t = refl
  in_kind_is sh.Boolean (bits v) t = refl
  in_kind_is sh.Boolean (flag x) t = refl
  in_kind_is sh.Boolean (member l n) t = refl
  in_kind_is sh.Boolean (given_text x) t = refl
  in_kind_is sh.Boolean (written_text x) t = refl
  in_kind_is (sh.Enum k) (bits v) t = refl
  in_kind_is (sh.Enum k) (flag x) t = refl
  in_kind_is (sh.Enum k) (member l n) t = refl
  in_kind_is (sh.Enum k) (given_text x) t = refl
  in_kind_is (sh.Enum k) (written_text x) t = refl

  -- a value of a kind that fits, in a kind that is alike
  abbrev InKind : Kind → Option Kind → Type 0
  InKind m o = (k : Kind) → same_kind m k ≡ true → (x : Value) (t : State) → HasKind e k x → StateOk e mode t → Good e mode (HasKind e m) (in_kind e o x t)

  bits_side : (w v : Width) (s : Bool) → number_of_width e w ≡ number_of_width e v → InRange 1 128 (number_of_width e w) → InKind (of_bits w s) (Some (of_bits v s))
  bits_side w v s is r k fits x t hx ht =
      good_by (HasKind e (of_bits v s)) (HasKind e (of_bits w s)) (in_kind e (Some (of_bits v s)) x t)
      (λ y hy. as_bits e mode round (HasKind e (of_bits w s)) v s y hy (λ z hz. record { number = is ∙ hz.number; low = hz.low; high = hz.high; sign = hz.sign }))
      (subst (Good e mode (HasKind e (of_bits v s))) (sym (in_kind_is (sh.Bits s v) x t))
      (in_shape_good e mode (sh.Bits s v) k x t (bits_fit w v s k fits) (subst (InRange 1 128) is r) hx ht))

  other_side : (m : Kind) → not_bits (Some m) ≡ true → InKind m (Some m)
  other_side (of_bits w s) n k fits x t hx ht = absurd (cc)
  other_side of_flag n k fits x t hx ht = subst (Good e mode (HasKind e of_flag)) (sym (in_kind_is sh.Boolean x t)) (in_shape_good e mode sh.Boolean k x t fits tt hx ht)
  other_side (of_member j) n k fits x t hx ht = subst (Good e mode (HasKind e (of_member j))) (sym (in_kind_is (sh.Enum j) x t)) (in_shape_good e mode (sh.Enum j) k x t fits tt hx ht)
  other_side of_given_text n k fits x t hx ht = absurd (cc)
  other_side of_written_text n k fits x t hx ht = absurd (cc)

  side_good : (known : List Cond) (n o : Option Kind) → Alike e n o → (m : Kind) → n ≡ Some m → Here e known → Passes e known (kind_issues n) → InKind m o
  side_good known n o (in_bits w v s is) m eq here pass = subst (λ z. InKind z (Some (of_bits v s))) (same_some eq) (bits_side w v s is (range e known 1 128 w here pass))
  side_good known n o (others k not) m eq here pass = subst (λ z. InKind m z) (sym eq) (other_side m (subst (λ z. not_bits z ≡ true) eq not))

module _ (e : Setting) (tested : Tested e) (mode : Mode) (round : Round) where
  -- what is taken is good where each side is where the test takes it
  taken_good : (Q : Value → Type 0) (b : Bool) (taken other : Outcome Value) (next : Value → State → Outcome Value)
      → (b ≡ true → Good e mode Q (and_then taken next)) → (b ≡ false → Good e mode Q (and_then other next)) → Good e mode Q (and_then (if b then taken else other) next)
  taken_good Q true taken other next h k = h refl
  taken_good Q false taken other next h k = k refl

  pub sound-Choice : (test taken other : Expr) → Tells e tested test → Sound e mode round test → Sound e mode round taken → Sound e mode round other → Sound e mode round (ex.Choice test taken other)
  sound-Choice test taken other told ht ha hc inner known clean pass =
      let names = names_in e mode round inner in
      let more = where_true e.space test known in
      let less = where_false e.space test known in
      let p = subst (AllPass e) (checks-Choice (view_in e mode round inner) test taken other known) pass in
      let parts = clean_parts e mode round (ex.Choice test taken other) (test ∷ taken ∷ other ∷ []) [] [] (deeds-Choice test taken other) (numbers-Choice test taken other) clean in
      let sides = each_back _ (checks_in e mode round inner test known) (checks_in e mode round inner taken more ++ checks_in e mode round inner other less) p.1 in
      let s : IsSound e mode round test inner known = ht inner known parts.0 (each_front _ (checks_in e mode round inner test known) (checks_in e mode round inner taken more ++ checks_in e mode round inner other less) p.1) in
      let a : IsSound e mode round taken inner more = ha inner more parts.1.0 (each_front _ (checks_in e mode round inner taken more) (checks_in e mode round inner other less) sides) in
      let c : IsSound e mode round other inner less = hc inner less parts.1.1.0 (each_back _ (checks_in e mode round inner taken more) (checks_in e mode round inner other less) sides) in
      let own = front e known (want flag_kind (shape names test) ++ mismatch_unless (is_choice (shape names taken) (shape names other))) (kind_issues (choice_kind (shape names taken) (shape names other))) p.0 in
      let flagged : s.kind ≡ of_flag = flag_kind_is s.kind (unless e known (suits flag_kind (Some s.kind)) (subst (λ (z : Option Kind). Passes e known (want flag_kind z)) s.is (front e known (want flag_kind (shape names test)) _ own))) in
      let both : is_choice (Some a.kind) (Some c.kind) ≡ true =
      subst (λ z. is_choice (Some a.kind) z ≡ true) c.is (subst (λ z. is_choice z (shape names other) ≡ true) a.is (unless e known (is_choice (shape names taken) (shape names other)) (back e known (want flag_kind (shape names test)) _ own))) in
      let m : HasChoiceKind a.kind c.kind = choice_there a.kind c.kind both in
      let kinds : choice_kind (shape names taken) (shape names other) ≡ Some m.kind = ap (λ z. choice_kind z (shape names other)) a.is ∙ (ap (choice_kind (Some a.kind)) c.is ∙ m.is) in
      let is : shape names (ex.Choice test taken other) ≡ Some m.kind = shape-Choice names test taken other ∙ kinds in
      let width : Passes e known (kind_issues (shape names (ex.Choice test taken other))) = subst (λ z. Passes e known (kind_issues z)) (sym (shape-Choice names test taken other))
      (back e known (want flag_kind (shape names test) ++ mismatch_unless (is_choice (shape names taken) (shape names other))) _ p.0) in
      let fits = choice_fits a.kind c.kind m.kind m.is in
      record {
        kind = m.kind;
        is = is;
        runs = λ scope r at.
            let side = side_good e mode round known (shape names (ex.Choice test taken other)) (shape (names_of e scope) (ex.Choice test taken other)) (shape_in_scope e mode round inner scope at.matches (ex.Choice test taken other)) m.kind is at.here width in
            subst (Good e mode (HasKind e m.kind)) (sym (mean-Choice e test taken other scope r))
            (flag_good e mode (HasKind e m.kind) (mean_expr e test scope r) _ (subst (λ (z : Kind). Good e mode (HasKind e z) (mean_expr e test scope r)) flagged (s.runs scope r at))
            (λ x q now hq. taken_good (HasKind e m.kind) x (mean_expr e taken scope q) (mean_expr e other scope q) (in_kind e (shape (names_of e scope) (ex.Choice test taken other)))
            (λ i. then_good e mode (HasKind e a.kind) (HasKind e m.kind) (mean_expr e taken scope q) _
            (a.runs scope q (record { matches = at.matches; state = hq; here = context_more e tested known (claims e.space test).when_true at.here ((told inner scope r q x at.matches parts.0.1 now).yes i) }))
            (λ v t hv hs. side a.kind fits.0 v t hv hs))
            (λ i. then_good e mode (HasKind e c.kind) (HasKind e m.kind) (mean_expr e other scope q) _
            (c.runs scope q (record { matches = at.matches; state = hq; here = context_more e tested known (claims e.space test).when_false at.here ((told inner scope r q x at.matches parts.0.1 now).no i) }))
            (λ v t hv hs. side c.kind fits.1 v t hv hs))));
      }
