-- The forms of two operands of bits: operators, comparisons and indices.
use Rattle.std.proofs.Common.{◌≡◌, max, ℕ, Bool, true, false, List, [], ◌∷◌, ◌++◌, append-nil, Option, Some, refl, sym, ap, ◌∙◌, subst, arith}
use Rattle.std.specs.Prelude.{◌&&◌, pos}
use Rattle.std.proofs.lemmas.Int.{ints}
use Rattle.idl_tree.specs.Each.{Each}
use Rattle.udb_base.specs.declared.conditions.Cond.{Cond}
use Rattle.idl_tree.specs.declared.widths.Width.{Width}
use Rattle.idl_tree.specs.declared.widths.Width.TheVariants as wd
use Rattle.idl_tree.specs.declared.expressions.Binary.{Binary}
use Rattle.idl_tree.specs.declared.expressions.Binary.TheVariants as b
use Rattle.idl_tree.specs.declared.expressions.Expr.{Expr}
use Rattle.idl_tree.specs.declared.expressions.Expr.TheVariants as ex
use Rattle.idl_bits.specs.BitVector.{BitVector}
use Rattle.idl_bits.specs.Operators.{bit_of}
use Rattle.idl_spec.specs.Values.{Value, bits, flag, member, given_text, written_text}
use Rattle.idl_spec.specs.Harts.{State, Outcome, done}
use Rattle.idl_spec.specs.Shapes.{Kind, of_bits, shape}
use Rattle.idl_spec.specs.ShapeLaws.{shape-Index}
use Rattle.idl_spec.specs.Settings.{Setting, Scope, number_of_width}
use Rattle.idl_spec.specs.Forms.{binary_bits}
use Rattle.idl_spec.specs.Mean.{mean_expr}
use Rattle.idl_spec.specs.MeanLaws.{mean-Index}
use Rattle.idl_spec.specs.DeedLaws.{deeds-Index}
use Rattle.idl_spec.specs.Demands.{Issue, Visible, kind_issues, wants_all, suits, bits_kind}
use Rattle.idl_spec.specs.Checks.{check}
use Rattle.idl_spec.specs.CheckLaws.{checks-Index}
use Rattle.type_laws.specs.Kinds.{IsBits, HasKind, Mode, StateOk, Good, Round, view_in, Passes, AllPass}
use Rattle.type_laws.specs.LiteralLaws.{numbers-Index}
use Rattle.type_laws.proofs.Outcomes.{each_front, each_back, bits_good}
use Rattle.type_laws.proofs.Passing.{Here, IsOfBits, bits_kind_is, front, back, two_want}
use Rattle.type_laws.proofs.Widths.{InRange, number_is, max_width}
use Rattle.type_laws.proofs.Sound.{Stands, IsSound, Sound, Clean, names_in, checks_in, clean_parts}

pub moved : (e : Setting) (mode : Mode) (round : Round) (inner : List Visible) (known : List Cond) (scope : Scope) (s t : State) → Stands e mode round inner known scope s → StateOk e mode t → Stands e mode round inner known scope t
moved e mode round inner known scope s t h st = record { matches = h.matches; state = st; here = h.here }

module _ (e : Setting) (mode : Mode) (round : Round) where
  -- a value of bits is bits
  pub as_bits : (P : Value → Type 0) (w : Width) (s : Bool) (v : Value) → HasKind e (of_bits w s) v → ((x : BitVector) → IsBits e w s x → P (bits x)) → P v
  as_bits P w s (bits x) h k = k x h
  as_bits P w s (flag x) h k = absurd h
  as_bits P w s (member m n) h k = absurd h
  as_bits P w s (given_text x) h k = absurd h
  as_bits P w s (written_text x) h k = absurd h

  abbrev BitsGood : Width → Bool → Outcome Value → Type 0
  BitsGood w p o = Good e mode (HasKind e (of_bits w p)) o

  pub record TwoBits (x a c : Expr) : Type 0 where
    pub form : Option Kind → Option Kind → Option Kind
    pub out : Width → Bool → Width → Bool → Kind
    pub own : Option Kind → Option Kind → List Issue
    pub op : BitVector → BitVector → State → Outcome Value
    pub shape_law : (inner : List Visible) → shape (names_in e mode round inner) x ≡ form (shape (names_in e mode round inner) a) (shape (names_in e mode round inner) c)
    pub checks_law : (inner : List Visible) (known : List Cond) → checks_in e mode round inner x known
        ≡ check known (own (shape (names_in e mode round inner) a) (shape (names_in e mode round inner) c) ++ kind_issues (form (shape (names_in e mode round inner) a) (shape (names_in e mode round inner) c)))
        ∷ (checks_in e mode round inner a known ++ checks_in e mode round inner c known)
    pub joins : (w : Width) (p : Bool) (v : Width) (q : Bool) (out : Kind) (scope : Scope) (s : State) → BitsGood w p (mean_expr e a scope s) → ((t : State) → StateOk e mode t → BitsGood v q (mean_expr e c scope t))
        → ((x y : BitVector) (t : State) → IsBits e w p x → IsBits e v q y → StateOk e mode t → Good e mode (HasKind e out) (op x y t)) → Good e mode (HasKind e out) (mean_expr e x scope s)
    pub form_law : (w : Width) (p : Bool) (v : Width) (q : Bool) → form (Some (of_bits w p)) (Some (of_bits v q)) ≡ Some (out w p v q)
    pub wants : (known : List Cond) (k l : Kind) → Passes e known (own (Some k) (Some l)) → (suits bits_kind (Some k) ≡ true) × (suits bits_kind (Some l) ≡ true)
    pub works : (known : List Cond) (w : Width) (p : Bool) (v : Width) (q : Bool) → Passes e known (kind_issues (Some (out w p v q))) → Here e known
        → (x y : BitVector) (t : State) → IsBits e w p x → IsBits e v q y → StateOk e mode t → Good e mode (HasKind e (out w p v q)) (op x y t)

  two_of_kinds : (x a c : Expr) (o : TwoBits x a c) (inner : List Visible) (known : List Cond) (s : IsSound e mode round a inner known) (t : IsSound e mode round c inner known) (k : IsOfBits s.kind) (l : IsOfBits t.kind)
      → Passes e known (kind_issues (o.form (Some (of_bits k.width k.signed)) (Some (of_bits l.width l.signed)))) → IsSound e mode round x inner known
  two_of_kinds x a c o inner known s t k l h =
      let out : Kind = o.out k.width k.signed l.width l.signed in
      let r : Passes e known (kind_issues (Some out)) = subst (λ (f : Option Kind). Passes e known (kind_issues f)) (o.form_law k.width k.signed l.width l.signed) h in
      record {
        kind = out;
        is = o.shape_law inner ∙ (ap (λ z. o.form z (shape (names_in e mode round inner) c)) (s.is ∙ ap Some k.is) ∙ (ap (o.form (Some (of_bits k.width k.signed))) (t.is ∙ ap Some l.is) ∙ o.form_law k.width k.signed l.width l.signed));
        runs = λ scope z at. o.joins k.width k.signed l.width l.signed out scope z
            (subst (λ (y : Kind). Good e mode (HasKind e y) (mean_expr e a scope z)) k.is (s.runs scope z at))
            (λ u hu. subst (λ (y : Kind). Good e mode (HasKind e y) (mean_expr e c scope u)) l.is (t.runs scope u (moved e mode round inner known scope z u at hu)))
            (λ p q u hp hq hu. o.works known k.width k.signed l.width l.signed r at.here p q u hp hq hu);
      }

  pub two_sound : (x a c : Expr) → TwoBits x a c → Sound e mode round a → Sound e mode round c → (Clean e mode round x → Each (Clean e mode round) (a ∷ c ∷ [])) → Sound e mode round x
  two_sound x a c o ha hc parts inner known clean pass =
      let p = subst (AllPass e) (o.checks_law inner known) pass in
      let s : IsSound e mode round a inner known = ha inner known (parts clean).0 (each_front _ (checks_in e mode round inner a known) (checks_in e mode round inner c known) p.1) in
      let t : IsSound e mode round c inner known = hc inner known (parts clean).1.0 (each_back _ (checks_in e mode round inner a known) (checks_in e mode round inner c known) p.1) in
      let g : Passes e known (o.own (Some s.kind) (shape (names_in e mode round inner) c) ++ kind_issues (o.form (Some s.kind) (shape (names_in e mode round inner) c))) =
      subst (λ (z : Option Kind). Passes e known (o.own z (shape (names_in e mode round inner) c) ++ kind_issues (o.form z (shape (names_in e mode round inner) c)))) s.is p.0 in
      let h : Passes e known (o.own (Some s.kind) (Some t.kind) ++ kind_issues (o.form (Some s.kind) (Some t.kind))) =
      subst (λ (z : Option Kind). Passes e known (o.own (Some s.kind) z ++ kind_issues (o.form (Some s.kind) z))) t.is g in
      let w = o.wants known s.kind t.kind (front e known (o.own (Some s.kind) (Some t.kind)) _ h) in
      let k : IsOfBits s.kind = bits_kind_is s.kind w.0 in
      let l : IsOfBits t.kind = bits_kind_is t.kind w.1 in
      let f : Passes e known (kind_issues (o.form (Some s.kind) (Some t.kind))) = back e known (o.own (Some s.kind) (Some t.kind)) _ h in
      two_of_kinds x a c o inner known s t k l
      (subst (λ (z : Kind). Passes e known (kind_issues (o.form (Some (of_bits k.width k.signed)) (Some z)))) l.is
      (subst (λ (z : Kind). Passes e known (kind_issues (o.form (Some z) (Some t.kind)))) k.is f))

  pub sound-Index : (a at : Expr) → Sound e mode round a → Sound e mode round at → Sound e mode round (ex.Index a at)
  unfolding bit_of
  sound-Index a at ha hc = two_sound (ex.Index a at) a at (record {
    form = λ x y. Some (of_bits (wd.Number 1) false);
    out = λ w p v q. of_bits (wd.Number 1) false;
    own = λ x y. wants_all bits_kind (x ∷ y ∷ []);
    op = λ x y t. done (bits (bit_of x y)) t;
    shape_law = λ inner. shape-Index (names_in e mode round inner) a at;
    checks_law = λ inner known. checks-Index (view_in e mode round inner) a at known ∙ ap (λ zs. check known (wants_all bits_kind (shape (names_in e mode round inner) a ∷ shape (names_in e mode round inner) at ∷ []) ++ kind_issues (Some (of_bits (wd.Number 1) false))) ∷ (checks_in e mode round inner a known ++ zs)) (append-nil (checks_in e mode round inner at known));
    joins = λ w p v q out scope s ga gc ok. subst (Good e mode (HasKind e out)) (sym (mean-Index e a at scope s))
        (bits_good e mode (HasKind e out) w p (mean_expr e a scope s) _ ga (λ x t hx ht.
        bits_good e mode (HasKind e out) v q (mean_expr e at scope t) _ (gc t ht) (λ y r hy hr. ok x y r hx hy hr)));
    form_law = λ w p v q. refl;
    wants = λ known k l h. two_want e known bits_kind (Some k) (Some l) h;
    works = λ known w p v q r here x y t hx hy ht. (record { number = number_is e 1 (omega arith); low = omega arith; high = omega arith; sign = refl }, ht);
  }) ha hc (λ clean. clean_parts e mode round (ex.Index a at) (a ∷ at ∷ []) [] [] (deeds-Index a at) (numbers-Index a at) clean)

  -- ---- operators

  -- an operator whose operands are both evaluated, and that takes bits alone
  abbrev pub TakesBits : Binary → Type 0
  TakesBits b.Or = ⊥
  TakesBits b.And = ⊥
  TakesBits b.Equal = ⊥
  TakesBits b.NotEqual = ⊥
  TakesBits _ = Unit {0}

  abbrev pub Operates : Binary → (Width → Bool → Width → Bool → Kind) → Type 0
  Operates sign out = (known : List Cond) (w : Width) (p : Bool) (v : Width) (q : Bool) → Passes e known (kind_issues (Some (out w p v q))) → Here e known
      → (x y : BitVector) (t : State) → IsBits e w p x → IsBits e v q y → StateOk e mode t → Good e mode (HasKind e (out w p v q)) (binary_bits sign x y t)

  pub both_signs : (p q r t : Bool) → p ≡ r → q ≡ t → (p && q) ≡ (r && t)
  both_signs p q r t f g = cc

  pub larger_bits : (w : Width) (p : Bool) (v : Width) (q : Bool) (x y z : BitVector) → z.width ≡ max x.width y.width → z.signed ≡ (x.signed && y.signed) → IsBits e w p x → IsBits e v q y → IsBits e (wd.Max w v) (p && q) z
  larger_bits w p v q x y z h k hx hy = record {
    number = max_width e w v x.width y.width hx.number hx.high hy.number hy.high ∙ ap pos (sym h);
    low = omega (arith, h, hx.low);
    high = omega (arith, h, hx.high, hy.high);
    sign = k ∙ both_signs x.signed y.signed p q hx.sign hy.sign;
  }

  pub left_bits : (w : Width) (p : Bool) (x z : BitVector) → z.width ≡ x.width → z.signed ≡ x.signed → IsBits e w p x → IsBits e w p z
  left_bits w p x z h k hx = record { number = hx.number ∙ ap pos (sym h); low = omega (arith, h, hx.low); high = omega (arith, h, hx.high); sign = k ∙ hx.sign }

  alike : (n m : ℕ) → pos n ≡ pos m → n ≡ m
  alike n m h = omega (arith, ints)

  -- bits of a width whose range is met
  pub ranged_bits : (w : Width) (p : Bool) (n : ℕ) (z : BitVector) → number_of_width e w ≡ pos n → InRange 1 128 (number_of_width e w) → z.width ≡ n → z.signed ≡ p → IsBits e w p z
  ranged_bits w p n z h r k g =
      let m : r.n ≡ n = alike r.n n (sym r.is ∙ h) in
      record { number = h ∙ ap pos (sym k); low = omega (arith, m, k, r.least); high = omega (arith, m, k, r.most); sign = g }
