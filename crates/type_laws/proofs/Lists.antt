-- Operands in a list: joins, and the arguments of calls.
use Rattle.std.proofs.Common.{◌≡◌, ◌≤◌, ◌+◌, ℕ, suc, true, false, List, [], ◌∷◌, ◌++◌, map, Option, Some, refl, sym, ap, ◌∙◌, subst, arith}
use Rattle.std.specs.Prelude.{pos, ◌+ℤ◌, flat_map, length, nat_lt}
use Rattle.std.specs.List.{list_all}
use Rattle.std.proofs.lemmas.Int.{ints, clamps}
use Rattle.idl_tree.specs.Each.{Each}
use Rattle.udb_base.specs.declared.conditions.Cond.{Cond}
use Rattle.idl_tree.specs.declared.widths.Width.{Width}
use Rattle.idl_tree.specs.declared.widths.Width.TheVariants as wd
use Rattle.idl_tree.specs.declared.expressions.Expr.{Expr}
use Rattle.idl_tree.specs.declared.expressions.Expr.TheVariants as ex
use Rattle.idl_width.specs.Numbers.{clip}
use Rattle.idl_width.specs.NumberLaws.{number-Plus}
use Rattle.idl_bits.specs.BitVector.{BitVector}
use Rattle.idl_bits.specs.Operators.{join_of, unsigned_of}
use Rattle.idl_spec.specs.Values.{Value}
use Rattle.idl_spec.specs.Harts.{State}
use Rattle.idl_spec.specs.Shapes.{Kind, of_bits, shape, on_bits, on_two, joined_kind, join_kind}
use Rattle.idl_spec.specs.ShapeLaws.{shape-Join}
use Rattle.idl_spec.specs.Fields.{bits_scope}
use Rattle.idl_spec.specs.Settings.{Setting, Scope, number_of_width}
use Rattle.idl_spec.specs.Forms.{joined, joined_onto, values_in_turn}
use Rattle.idl_spec.specs.Mean.{mean_expr}
use Rattle.idl_spec.specs.MeanLaws.{mean-Join}
use Rattle.idl_spec.specs.DeedLaws.{deeds-Join}
use Rattle.idl_spec.specs.Demands.{Check, Visible, kind_issues, mismatch_unless, wants_all, suits, bits_kind}
use Rattle.idl_spec.specs.Checks.{Part}
use Rattle.idl_spec.specs.CheckLaws.{checks-Join}
use Rattle.type_laws.specs.Kinds.{HasKind, Mode, Good, Round, view_in, Passes, AllPass}
use Rattle.type_laws.specs.LiteralLaws.{numbers-Join}
use Rattle.type_laws.proofs.Outcomes.{both_true, each_front, each_back, bits_good, then_good}
use Rattle.type_laws.proofs.Passing.{IsOfBits, bits_kind_is, front, back, unless, range}
use Rattle.type_laws.proofs.Widths.{InRange}
use Rattle.type_laws.proofs.Sound.{Stands, IsSound, Sound, Clean, names_in, checks_in, clean_parts}
use Rattle.type_laws.proofs.TwoForms.{moved}
use Rattle.type_laws.proofs.OneForms.{sized_good}

pub map_seconds : {A B : Type 0} (f : A → B) (xs : List A) → map (λ (p : A × B). p.1) (map (λ x. (x, f x)) xs) ≡ map f xs
map_seconds f [] = refl
map_seconds f (x ∷ xs) = ap (λ ys. f x ∷ ys) (map_seconds f xs)

pub map_firsts : {A B C : Type 0} (f : A → B) (g : A → C) (xs : List A) → map (λ (p : A × B). g p.0) (map (λ x. (x, f x)) xs) ≡ map g xs
map_firsts f g [] = refl
map_firsts f g (x ∷ xs) = ap (λ ys. g x ∷ ys) (map_firsts f g xs)

pub map_kinds : {A B C : Type 0} (f : A → B) (g : A → C) (xs : List A) → map (λ (p : A × C). p.1) (map (λ (p : A × B). (p.0, g p.0)) (map (λ x. (x, f x)) xs)) ≡ map g xs
map_kinds f g [] = refl
map_kinds f g (x ∷ xs) = ap (λ ys. g x ∷ ys) (map_kinds f g xs)

pub length_kinds : {A B C : Type 0} (f : A → B) (g : A → C) (xs : List A) → length {A = A × C} (map (λ (p : A × B). (p.0, g p.0)) (map (λ x. (x, f x)) xs)) ≡ length xs
length_kinds f g [] = refl
length_kinds f g (x ∷ xs) = ap suc (length_kinds f g xs)

module _ (e : Setting) (mode : Mode) (round : Round) where
  abbrev pub kinds_of : List Visible → List Expr → List (Option Kind)
  kinds_of inner es = map (λ x. shape (names_in e mode round inner) x) es

  abbrev pub list_checks : List Visible → List Expr → List Cond → List Check
  list_checks inner es known = flat_map (λ (p : Part). p.1 known) (map (λ x. (x, checks_in e mode round inner x)) es)

  abbrev pub HasKinds : List Kind → List Value → Type 0
  HasKinds [] [] = Unit {0}
  HasKinds (k ∷ ks) (v ∷ vs) = HasKind e k v × HasKinds ks vs
  HasKinds _ _ = ⊥

  pub record AreSound (es : List Expr) (inner : List Visible) (known : List Cond) : Type 0 where
    pub kinds : List Kind
    pub are : kinds_of inner es ≡ map Some kinds
    pub run : (scope : Scope) (s : State) → Stands e mode round inner known scope s → Good e mode (HasKinds kinds) (values_in_turn (map (mean_expr e) es) scope s)

  -- operands from left to right
  pub are_sound : (es : List Expr) → Each (Sound e mode round) es → (inner : List Visible) (known : List Cond) → Each (Clean e mode round) es → AllPass e (list_checks inner es known) → AreSound es inner known
  are_sound [] hs inner known clean pass = record { kinds = []; are = refl; run = λ scope s h. (tt, h.state) }
  are_sound (x ∷ es) hs inner known clean pass =
      let a : IsSound e mode round x inner known = hs.0 inner known clean.0 (each_front _ (checks_in e mode round inner x known) (list_checks inner es known) pass) in
      let b : AreSound es inner known = are_sound es hs.1 inner known clean.1 (each_back _ (checks_in e mode round inner x known) (list_checks inner es known) pass) in
      record {
        kinds = a.kind ∷ b.kinds;
        are = ap (λ k. k ∷ kinds_of inner es) a.is ∙ ap (λ ks. Some a.kind ∷ ks) b.are;
        run = λ scope s h. then_good e mode (HasKind e a.kind) (HasKinds (a.kind ∷ b.kinds)) (mean_expr e x scope s) _ (a.runs scope s h) (λ v t hv ht.
            then_good e mode (HasKinds b.kinds) (HasKinds (a.kind ∷ b.kinds)) (values_in_turn (map (mean_expr e) es) scope t) _
            (b.run scope t (moved e mode round inner known scope s t h ht)) (λ vs u hvs hu. ((hv, hvs), hu)));
      }

  -- ---- joins

  alike : (k n : ℕ) → n ≤ 128 → clip (pos k) ≡ pos n → k ≡ n
  alike k n h is = omega (arith, ints, clamps)

  more_wide : (n m : ℕ) → m ≤ 128 → clip (clip (pos n) +ℤ pos m) ≡ clip (pos (n + m))
  more_wide n m h = omega (arith, ints, clamps)

  joined_width : (w v : Width) (n m : ℕ) → number_of_width e w ≡ clip (pos n) → number_of_width e v ≡ pos m → m ≤ 128 → number_of_width e (wd.Plus w v) ≡ clip (pos (n + m))
  joined_width w v n m p q h =
      number-Plus e.space e.full (bits_scope e.program e.variables) w v
      ∙ (ap (λ z. clip (z +ℤ number_of_width e v)) p ∙ (ap (λ z. clip (clip (pos n) +ℤ z)) q ∙ more_wide n m h))

  -- what the further parts add to bits of a width
  record Joins (es : List Expr) (inner : List Visible) (known : List Cond) (w : Width) : Type 0 where
    pub out : Width
    pub is : joined_kind (Some (of_bits w false)) (kinds_of inner es) ≡ Some (of_bits out false)
    pub runs : (scope : Scope) (v : BitVector) (s : State) → Stands e mode round inner known scope s → number_of_width e w ≡ clip (pos v.width) → v.signed ≡ false → InRange 1 128 (number_of_width e out)
        → Good e mode (HasKind e (of_bits out false)) (joined_onto v (map (mean_expr e) es) scope s)

  abbrev AreBits : List Visible → List Expr → Type 0
  AreBits inner es = list_all (suits bits_kind) (kinds_of inner es) ≡ true

  joins : (es : List Expr) → Each (Sound e mode round) es → (inner : List Visible) (known : List Cond) → Each (Clean e mode round) es → AllPass e (list_checks inner es known) → AreBits inner es → (w : Width) → Joins es inner known w
  unfolding join_of
  joins [] hs inner known clean pass are w = record {
    out = w;
    is = refl;
    runs = λ scope v s at is sign r.
        let m : v.width ≡ r.n = alike v.width r.n r.most (sym is ∙ r.is) in
        sized_good e mode w false v s (record { number = r.is ∙ ap pos (sym m); low = omega (arith, m, r.least); high = omega (arith, m, r.most); sign = sign }) at.state;
  }
  joins (x ∷ es) hs inner known clean pass are w =
      let a : IsSound e mode round x inner known = hs.0 inner known clean.0 (each_front _ (checks_in e mode round inner x known) (list_checks inner es known) pass) in
      let both = both_true (suits bits_kind (shape (names_in e mode round inner) x)) (list_all (suits bits_kind) (kinds_of inner es)) are in
      let k : IsOfBits a.kind = bits_kind_is a.kind (subst (λ (z : Option Kind). suits bits_kind z ≡ true) a.is both.0) in
      let b : Joins es inner known (wd.Plus w k.width) = joins es hs.1 inner known clean.1 (each_back _ (checks_in e mode round inner x known) (list_checks inner es known) pass) both.1 (wd.Plus w k.width) in
      record {
        out = b.out;
        is = ap (λ z. joined_kind (on_two (Some (of_bits w false)) z (λ w s v t. of_bits (wd.Plus w v) false)) (kinds_of inner es)) (a.is ∙ ap Some k.is) ∙ b.is;
        runs = λ scope v s at is sign r. bits_good e mode (HasKind e (of_bits b.out false)) k.width k.signed (mean_expr e x scope s) _
            (subst (λ (z : Kind). Good e mode (HasKind e z) (mean_expr e x scope s)) k.is (a.runs scope s at))
            (λ y t hy ht. b.runs scope (join_of v y) t (moved e mode round inner known scope s t at ht) (joined_width w k.width v.width y.width is hy.number hy.high) refl r);
      }

  record JoinKind (es : List Expr) (inner : List Visible) (known : List Cond) : Type 0 where
    pub out : Width
    pub is : join_kind (kinds_of inner es) ≡ Some (of_bits out false)
    pub runs : (scope : Scope) (s : State) → Stands e mode round inner known scope s → InRange 1 128 (number_of_width e out) → Good e mode (HasKind e (of_bits out false)) (joined (map (mean_expr e) es) scope s)

  few : (n : ℕ) → n ≤ 128 → pos n ≡ clip (pos n)
  few n h = omega (arith, ints, clamps)

  join_all : (es : List Expr) → Each (Sound e mode round) es → (inner : List Visible) (known : List Cond) → Each (Clean e mode round) es → AllPass e (list_checks inner es known) → AreBits inner es → nat_lt 0 (length es) ≡ true → JoinKind es inner known
  join_all [] hs inner known clean pass are some = absurd (cc)
  join_all (x ∷ es) hs inner known clean pass are some =
      let a : IsSound e mode round x inner known = hs.0 inner known clean.0 (each_front _ (checks_in e mode round inner x known) (list_checks inner es known) pass) in
      let both = both_true (suits bits_kind (shape (names_in e mode round inner) x)) (list_all (suits bits_kind) (kinds_of inner es)) are in
      let k : IsOfBits a.kind = bits_kind_is a.kind (subst (λ (z : Option Kind). suits bits_kind z ≡ true) a.is both.0) in
      let b : Joins es inner known k.width = joins es hs.1 inner known clean.1 (each_back _ (checks_in e mode round inner x known) (list_checks inner es known) pass) both.1 k.width in
      record {
        out = b.out;
        is = ap (λ z. joined_kind (on_bits z (λ w s. of_bits w false)) (kinds_of inner es)) (a.is ∙ ap Some k.is) ∙ b.is;
        runs = λ scope s at r. bits_good e mode (HasKind e (of_bits b.out false)) k.width k.signed (mean_expr e x scope s) _
            (subst (λ (z : Kind). Good e mode (HasKind e z) (mean_expr e x scope s)) k.is (a.runs scope s at))
            (λ y t hy ht. b.runs scope (unsigned_of y) t (moved e mode round inner known scope s t at ht) (hy.number ∙ few y.width hy.high) refl r);
      }

  join_checks : (es : List Expr) (inner : List Visible) (known : List Cond) → AllPass e (checks_in e mode round inner (ex.Join es) known)
      → Passes e known ((mismatch_unless (nat_lt 0 (length es)) ++ wants_all bits_kind (kinds_of inner es)) ++ kind_issues (join_kind (kinds_of inner es))) × AllPass e (list_checks inner es known)
  join_checks es inner known pass =
      let names = names_in e mode round inner in
      let p = subst (AllPass e) (checks-Join (view_in e mode round inner) es known) pass in
      let q = subst (λ ks. Passes e known ((mismatch_unless (nat_lt 0 (length es)) ++ wants_all bits_kind (kinds_of inner es)) ++ kind_issues (join_kind ks))) (map_firsts (λ x. checks_in e mode round inner x) (λ x. shape names x) es)
      (subst (λ ks. Passes e known ((mismatch_unless (nat_lt 0 (length es)) ++ wants_all bits_kind ks) ++ kind_issues (join_kind (map (λ (p : Part). shape names p.0) (map (λ x. (x, checks_in e mode round inner x)) es))))) (map_kinds (λ x. checks_in e mode round inner x) (λ x. shape names x) es)
      (subst (λ n. Passes e known ((mismatch_unless (nat_lt 0 n) ++ wants_all bits_kind (map (λ (p : Expr × Option Kind). p.1) (map (λ (p : Part). (p.0, shape names p.0)) (map (λ x. (x, checks_in e mode round inner x)) es)))) ++ kind_issues (join_kind (map (λ (p : Part). shape names p.0) (map (λ x. (x, checks_in e mode round inner x)) es)))))
      (length_kinds (λ x. checks_in e mode round inner x) (λ x. shape names x) es) p.0)) in
      (q, p.1)

  pub sound-Join : (es : List Expr) → Each (Sound e mode round) es → Sound e mode round (ex.Join es)
  sound-Join es hs inner known clean pass =
      let p = join_checks es inner known pass in
      let own = front e known (mismatch_unless (nat_lt 0 (length es)) ++ wants_all bits_kind (kinds_of inner es)) _ p.0 in
      let some : nat_lt 0 (length es) ≡ true = unless e known (nat_lt 0 (length es)) (front e known (mismatch_unless (nat_lt 0 (length es))) _ own) in
      let are : AreBits inner es = unless e known (list_all (suits bits_kind) (kinds_of inner es)) (back e known (mismatch_unless (nat_lt 0 (length es))) _ own) in
      let j : JoinKind es inner known = join_all es hs inner known (clean_parts e mode round (ex.Join es) es [] [] (deeds-Join es) (numbers-Join es) clean) p.1 are some in
      let r : Passes e known (kind_issues (Some (of_bits j.out false))) = subst (λ (k : Option Kind). Passes e known (kind_issues k)) j.is (back e known (mismatch_unless (nat_lt 0 (length es)) ++ wants_all bits_kind (kinds_of inner es)) _ p.0) in
      record {
        kind = of_bits j.out false;
        is = shape-Join (names_in e mode round inner) es ∙ j.is;
        runs = λ scope s at. subst (Good e mode (HasKind e (of_bits j.out false))) (sym (mean-Join e es scope s ∙ ap (λ rs. joined rs scope s) (map_seconds (mean_expr e) es)))
            (j.runs scope s at (range e known 1 128 j.out at.here r));
      }
