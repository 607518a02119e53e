-- Negations, equalities and joins.
use Rattle.std.proofs.Common.{◌≡◌, ℕ, Bool, true, List, [], ◌∷◌, ◌++◌, Option, None, Some, refl, sym, ap, ◌∙◌, subst}
use Rattle.std.specs.Prelude.{not, option_map, if◌then◌else◌, ◌==◌}
use Rattle.udb_base.specs.declared.conditions.Cond.{Cond}
use Rattle.idl_tree.specs.declared.widths.Width.{Width}
use Rattle.idl_tree.specs.declared.widths.EnumKind.{EnumKind}
use Rattle.idl_tree.specs.declared.widths.EnumKind.TheVariants.{PrivilegeMode, ExceptionCode, CsrFieldType}
use Rattle.idl_tree.specs.declared.expressions.Unary.TheVariants as u
use Rattle.idl_tree.specs.declared.expressions.Binary.{Binary}
use Rattle.idl_tree.specs.declared.expressions.Binary.TheVariants as b
use Rattle.idl_tree.specs.declared.expressions.Expr.{Expr}
use Rattle.idl_tree.specs.declared.expressions.Expr.TheVariants as ex
use Rattle.idl_bits.specs.BitVector.{BitVector}
use Rattle.idl_spec.specs.Values.{Value, bits, flag, member, given_text, written_text, same_enum}
use Rattle.idl_spec.specs.Harts.{State, Outcome, done, raised, stuck, and_then}
use Rattle.idl_spec.specs.Shapes.{Kind, of_bits, of_flag, of_member, of_given_text, of_written_text, shape}
use Rattle.idl_spec.specs.ShapeLaws.{shape-Unary, shape-Binary}
use Rattle.idl_spec.specs.Settings.{Setting, Scope, with_flag}
use Rattle.idl_spec.specs.Forms.{unary, binary}
use Rattle.idl_spec.specs.Mean.{mean_expr}
use Rattle.idl_spec.specs.MeanLaws.{mean-Unary, mean-Binary}
use Rattle.idl_spec.specs.DeedLaws.{deeds-Unary, deeds-Binary}
use Rattle.idl_spec.specs.Demands.{Visible, want, suits, flag_kind, mismatch_unless, comparable}
use Rattle.idl_spec.specs.CheckLaws.{checks-Unary, checks-Binary}
use Rattle.type_laws.specs.Kinds.{IsBits, HasKind, IsMember, Mode, StateOk, Good, Round, view_in, Passes, AllPass}
use Rattle.type_laws.specs.LiteralLaws.{numbers-Unary, numbers-Binary}
use Rattle.type_laws.proofs.Outcomes.{each_front, each_back, then_good, flag_good, required_good}
use Rattle.type_laws.proofs.Passing.{flag_kind_is, front, unless}
use Rattle.type_laws.proofs.Sound.{IsSound, Sound, names_in, checks_in, clean_parts}
use Rattle.type_laws.proofs.TwoForms.{moved}

module _ (e : Setting) (mode : Mode) (round : Round) where
  not_is : (o : Outcome Value) → and_then o (unary u.Not) ≡ with_flag o (λ x t. done (flag (not x)) t)
  not_is (done (bits v) s) = refl
  not_is (done (flag x) s) = refl
  not_is (done (member k n) s) = refl
  not_is (done (given_text x) s) = refl
  not_is (done (written_text x) s) = refl
  not_is (raised code tval s) = refl
  not_is stuck = refl

  pub sound-Not : (a : Expr) → Sound e mode round a → Sound e mode round (ex.Unary u.Not a)
  sound-Not a ha inner known clean pass =
      let p = subst (AllPass e) (checks-Unary (view_in e mode round inner) u.Not a known) pass in
      let s : IsSound e mode round a inner known = ha inner known (clean_parts e mode round (ex.Unary u.Not a) (a ∷ []) [] [] (deeds-Unary u.Not a) (numbers-Unary u.Not a) clean).0 (each_front _ (checks_in e mode round inner a known) [] p.1) in
      let w : Passes e known (want flag_kind (Some s.kind)) =
      subst (λ (z : Option Kind). Passes e known (want flag_kind z)) s.is (front e known (want flag_kind (shape (names_in e mode round inner) a)) [] p.0) in
      let k : s.kind ≡ of_flag = flag_kind_is s.kind (unless e known (suits flag_kind (Some s.kind)) w) in
      record {
        kind = of_flag;
        is = shape-Unary (names_in e mode round inner) u.Not a;
        runs = λ scope t at. subst (Good e mode (HasKind e of_flag)) (sym (mean-Unary e u.Not a scope t ∙ not_is (mean_expr e a scope t)))
            (flag_good e mode (HasKind e of_flag) (mean_expr e a scope t) _
            (subst (λ (z : Kind). Good e mode (HasKind e z) (mean_expr e a scope t)) k (s.runs scope t at)) (λ x r is hr. (tt, hr)));
      }

  -- ---- equalities

  -- a value by its kind
  pub by_kind : (P : Kind → Value → Type 0) → ((w : Width) (p : Bool) (x : BitVector) → IsBits e w p x → P (of_bits w p) (bits x)) → ((x : Bool) → P of_flag (flag x))
      → ((k l : EnumKind) (n : ℕ) → IsMember k l n → P (of_member k) (member l n)) → ((x : List ℕ) → P of_given_text (given_text x)) → ((x : List ℕ) → P of_written_text (written_text x))
      → (k : Kind) (x : Value) → HasKind e k x → P k x
  by_kind P b f m g w (of_bits v p) (bits x) h = b v p x h
  by_kind P b f m g w (of_bits v p) (flag x) h = absurd h
  by_kind P b f m g w (of_bits v p) (member l n) h = absurd h
  by_kind P b f m g w (of_bits v p) (given_text x) h = absurd h
  by_kind P b f m g w (of_bits v p) (written_text x) h = absurd h
  by_kind P b f m g w of_flag (bits x) h = absurd h
  by_kind P b f m g w of_flag (flag x) h = f x
  by_kind P b f m g w of_flag (member l n) h = absurd h
  by_kind P b f m g w of_flag (given_text x) h = absurd h
  by_kind P b f m g w of_flag (written_text x) h = absurd h
  by_kind P b f m g w (of_member k) (bits x) h = absurd h
  by_kind P b f m g w (of_member k) (flag x) h = absurd h
  by_kind P b f m g w (of_member k) (member l n) h = m k l n h
  by_kind P b f m g w (of_member k) (given_text x) h = absurd h
  by_kind P b f m g w (of_member k) (written_text x) h = absurd h
  by_kind P b f m g w of_given_text (bits x) h = absurd h
  by_kind P b f m g w of_given_text (flag x) h = absurd h
  by_kind P b f m g w of_given_text (member l n) h = absurd h
  by_kind P b f m g w of_given_text (given_text x) h = g x
  by_kind P b f m g w of_given_text (written_text x) h = absurd h
  by_kind P b f m g w of_written_text (bits x) h = absurd h
  by_kind P b f m g w of_written_text (flag x) h = absurd h
  by_kind P b f m g w of_written_text (member l n) h = absurd h
  by_kind P b f m g w of_written_text (given_text x) h = absurd h
  by_kind P b f m g w of_written_text (written_text x) h = w x

  enum_same : (k m l n : EnumKind) → same_enum k l ≡ true → same_enum m n ≡ true → same_enum k m ≡ true → same_enum l n ≡ true
  enum_same k m l n h i j = subst (λ z. same_enum z n ≡ true) (enum_is k l h) (subst (λ z. same_enum z n ≡ true) (sym (enum_is k m j)) i)
    where
      enum_is : (k l : EnumKind) → same_enum k l ≡ true → k ≡ l
      enum_is PrivilegeMode PrivilegeMode h = refl
      enum_is ExceptionCode ExceptionCode h = refl
      enum_is CsrFieldType CsrFieldType h = refl
      enum_is PrivilegeMode ExceptionCode h = absurd (cc)
      enum_is PrivilegeMode CsrFieldType h = absurd (cc)
      enum_is ExceptionCode PrivilegeMode h = absurd (cc)
      enum_is ExceptionCode CsrFieldType h = absurd (cc)
      enum_is CsrFieldType PrivilegeMode h = absurd (cc)
      enum_is CsrFieldType ExceptionCode h = absurd (cc)

  -- what two comparable values are
  pub record Pairs (Q : Value → Value → Type 0) : Type 0 where
    pub of_two_bits : (x y : BitVector) → Q (bits x) (bits y)
    pub of_two_flags : (x y : Bool) → Q (flag x) (flag y)
    pub of_two_members : (l n : EnumKind) (i j : ℕ) → same_enum l n ≡ true → Q (member l i) (member n j)
    pub of_given : (x y : List ℕ) → Q (given_text x) (written_text y)
    pub of_written : (x y : List ℕ) → Q (written_text x) (given_text y)

  pub pair_of : (Q : Value → Value → Type 0) → Pairs Q → (k : Kind) (x : Value) → HasKind e k x → (l : Kind) (y : Value) → HasKind e l y → comparable (Some k) (Some l) ≡ true → Q x y
  pair_of Q qs = by_kind (λ k x. (l : Kind) (y : Value) → HasKind e l y → comparable (Some k) (Some l) ≡ true → Q x y)
      (λ w p x hx. by_kind (λ l y. comparable (Some (of_bits w p)) (Some l) ≡ true → Q (bits x) y) (λ v q y hy h. qs.of_two_bits x y) (λ y h. absurd (cc)) (λ m n j hm h. absurd (cc)) (λ y h. absurd (cc)) (λ y h. absurd (cc)))
      (λ x. by_kind (λ l y. comparable (Some of_flag) (Some l) ≡ true → Q (flag x) y) (λ v q y hy h. absurd (cc)) (λ y h. qs.of_two_flags x y) (λ m n j hm h. absurd (cc)) (λ y h. absurd (cc)) (λ y h. absurd (cc)))
      (λ k l i hk. by_kind (λ o y. comparable (Some (of_member k)) (Some o) ≡ true → Q (member l i) y) (λ v q y hy h. absurd (cc)) (λ y h. absurd (cc)) (λ m n j hm h. qs.of_two_members l n i j (enum_same k m l n hk.0 hm.0 h)) (λ y h. absurd (cc)) (λ y h. absurd (cc)))
      (λ x. by_kind (λ l y. comparable (Some of_given_text) (Some l) ≡ true → Q (given_text x) y) (λ v q y hy h. absurd (cc)) (λ y h. absurd (cc)) (λ m n j hm h. absurd (cc)) (λ y h. absurd (cc)) (λ y h. qs.of_given x y))
      (λ x. by_kind (λ l y. comparable (Some of_written_text) (Some l) ≡ true → Q (written_text x) y) (λ v q y hy h. absurd (cc)) (λ y h. absurd (cc)) (λ m n j hm h. absurd (cc)) (λ y h. qs.of_written x y) (λ y h. absurd (cc)))

  abbrev FlagGood : Binary → State → Value → Value → Type 0
  FlagGood sign t x y = Good e mode (HasKind e of_flag) (binary sign x y t)

  equal_pairs : (t : State) → StateOk e mode t → Pairs (FlagGood b.Equal t)
  equal_pairs t ht = record {
    of_two_bits = λ x y. (tt, ht);
    of_two_flags = λ x y. (tt, ht);
    of_two_members = λ l n i j h. required_good e mode (HasKind e of_flag) _ (flag (i == j)) t (ap (λ c. option_map flag (if c then Some (i == j) else None)) h) tt ht;
    of_given = λ x y. (tt, ht);
    of_written = λ x y. (tt, ht);
  }

  unequal_pairs : (t : State) → StateOk e mode t → Pairs (FlagGood b.NotEqual t)
  unequal_pairs t ht = record {
    of_two_bits = λ x y. (tt, ht);
    of_two_flags = λ x y. (tt, ht);
    of_two_members = λ l n i j h. required_good e mode (HasKind e of_flag) _ (flag (not (i == j))) t (ap (λ c. option_map (λ same. flag (not same)) (if c then Some (i == j) else None)) h) tt ht;
    of_given = λ x y. (tt, ht);
    of_written = λ x y. (tt, ht);
  }

  -- both operands are evaluated, then compared
  equality : (sign : Binary) (a c : Expr) → ((t : State) → StateOk e mode t → Pairs (FlagGood sign t))
      → ((inner : List Visible) → shape (names_in e mode round inner) (ex.Binary sign a c) ≡ Some of_flag)
      → ((inner : List Visible) (known : List Cond) → AllPass e (checks_in e mode round inner (ex.Binary sign a c) known)
      → Passes e known (mismatch_unless (comparable (shape (names_in e mode round inner) a) (shape (names_in e mode round inner) c))) × AllPass e (checks_in e mode round inner a known ++ checks_in e mode round inner c known))
      → ((scope : Scope) (s : State) → mean_expr e (ex.Binary sign a c) scope s ≡ and_then (mean_expr e a scope s) (λ x r. and_then (mean_expr e c scope r) (λ y z. binary sign x y z)))
      → Sound e mode round a → Sound e mode round c → Sound e mode round (ex.Binary sign a c)
  equality sign a c pairs shaped checked meant ha hc inner known clean pass =
      let p = checked inner known pass in
      let parts = clean_parts e mode round (ex.Binary sign a c) (a ∷ c ∷ []) [] [] (deeds-Binary sign a c) (numbers-Binary sign a c) clean in
      let s : IsSound e mode round a inner known = ha inner known parts.0 (each_front _ (checks_in e mode round inner a known) (checks_in e mode round inner c known) p.1) in
      let t : IsSound e mode round c inner known = hc inner known parts.1.0 (each_back _ (checks_in e mode round inner a known) (checks_in e mode round inner c known) p.1) in
      let g : Passes e known (mismatch_unless (comparable (Some s.kind) (Some t.kind))) =
      subst (λ (z : Option Kind). Passes e known (mismatch_unless (comparable (Some s.kind) z))) t.is
      (subst (λ (z : Option Kind). Passes e known (mismatch_unless (comparable z (shape (names_in e mode round inner) c)))) s.is p.0) in
      record {
        kind = of_flag;
        is = shaped inner;
        runs = λ scope r at. subst (Good e mode (HasKind e of_flag)) (sym (meant scope r))
            (then_good e mode (HasKind e s.kind) (HasKind e of_flag) (mean_expr e a scope r) _ (s.runs scope r at) (λ x u hx hu.
            then_good e mode (HasKind e t.kind) (HasKind e of_flag) (mean_expr e c scope u) _ (t.runs scope u (moved e mode round inner known scope r u at hu)) (λ y z hy hz.
            pair_of (FlagGood sign z) (pairs z hz) s.kind x hx t.kind y hy (unless e known (comparable (Some s.kind) (Some t.kind)) g))));
      }

  pub sound-Equal : (a c : Expr) → Sound e mode round a → Sound e mode round c → Sound e mode round (ex.Binary b.Equal a c)
  sound-Equal a c = equality b.Equal a c equal_pairs (λ inner. shape-Binary (names_in e mode round inner) b.Equal a c)
      (λ inner known pass. let p = subst (AllPass e) (checks-Binary (view_in e mode round inner) b.Equal a c known) pass in
      (front e known (mismatch_unless (comparable (shape (names_in e mode round inner) a) (shape (names_in e mode round inner) c))) [] p.0, p.1))
      (λ scope s. mean-Binary e b.Equal a c scope s)

  pub sound-NotEqual : (a c : Expr) → Sound e mode round a → Sound e mode round c → Sound e mode round (ex.Binary b.NotEqual a c)
  sound-NotEqual a c = equality b.NotEqual a c unequal_pairs (λ inner. shape-Binary (names_in e mode round inner) b.NotEqual a c)
      (λ inner known pass. let p = subst (AllPass e) (checks-Binary (view_in e mode round inner) b.NotEqual a c known) pass in
      (front e known (mismatch_unless (comparable (shape (names_in e mode round inner) a) (shape (names_in e mode round inner) c))) [] p.0, p.1))
      (λ scope s. mean-Binary e b.NotEqual a c scope s)
