-- What soundness says of an expression at a place, and the forms of one operand of bits.
use Rattle.std.proofs.Common.{◌≡◌, ℕ, Bool, true, List, [], ◌∷◌, ◌++◌, map, Option, Some, sym, ap, ◌∙◌, subst}
use Rattle.idl_tree.specs.Each.{Each}
use Rattle.udb_base.specs.declared.conditions.Cond.{Cond}
use Rattle.idl_tree.specs.declared.widths.Width.{Width}
use Rattle.idl_tree.specs.declared.expressions.Expr.{Expr}
use Rattle.idl_bits.specs.BitVector.{BitVector}
use Rattle.idl_spec.specs.Values.{Value}
use Rattle.idl_spec.specs.Harts.{State, Outcome}
use Rattle.idl_spec.specs.Shapes.{Kind, of_bits, Names, shape}
use Rattle.idl_spec.specs.Settings.{Setting, Scope, with_bits}
use Rattle.idl_spec.specs.Mean.{mean_expr}
use Rattle.idl_spec.specs.Deeds.{Deed, all_of, expr_deeds}
use Rattle.idl_spec.specs.Demands.{Issue, Check, Visible, kind_issues, suits, bits_kind}
use Rattle.idl_spec.specs.Checks.{check}
use Rattle.type_laws.specs.Kinds.{IsBits, HasKind, Mode, StateOk, Good, DeedOk, Round, Passes, AllPass}
use Rattle.type_laws.specs.Soundness as place
use Rattle.type_laws.specs.Literals.{expr_numbers, AreSmall}
use Rattle.type_laws.proofs.Outcomes.{each_front, each_back, bits_good}
use Rattle.type_laws.proofs.Passing.{IsOfBits, bits_kind_is, Here}

module _ (e : Setting) (mode : Mode) (round : Round) where
  abbrev pub Stands : List Visible → List Cond → Scope → State → Type 0
  Stands = place.Stands e mode round

  abbrev pub names_in : List Visible → Names
  names_in = place.names_in e mode round

  abbrev pub checks_in : List Visible → Expr → List Cond → List Check
  checks_in = place.checks_in e mode round

  abbrev pub IsSound : Expr → List Visible → List Cond → Type 0
  IsSound = place.IsSound e mode round

  abbrev pub Clean : Expr → Type 0
  Clean = place.Clean e mode round

  abbrev pub Sound : Expr → Type 0
  Sound = place.Sound e mode round

  clean_each : (es : List Expr) → Each (DeedOk e mode round.before) (all_of (map expr_deeds es)) → AreSmall (all_of (map expr_numbers es)) → Each Clean es
  clean_each [] h k = tt
  clean_each (x ∷ es) h k =
      let ds = all_of (map expr_deeds es) in
      let ns = all_of (map expr_numbers es) in (
        (each_front (DeedOk e mode round.before) (expr_deeds x) ds h, each_front _ (expr_numbers x) ns k),
        clean_each es (each_back (DeedOk e mode round.before) (expr_deeds x) ds h) (each_back _ (expr_numbers x) ns k),
      )

  pub clean_parts : (x : Expr) (es : List Expr) (own : List Deed) (ns : List ℕ) → expr_deeds x ≡ own ++ all_of (map expr_deeds es) → expr_numbers x ≡ ns ++ all_of (map expr_numbers es) → Clean x → Each Clean es
  clean_parts x es own ns d n h =
      clean_each es (each_back (DeedOk e mode round.before) own _ (subst (Each (DeedOk e mode round.before)) d h.0))
      (each_back _ ns _ (subst AreSmall n h.1))

  pub own_deeds : (x : Expr) (es : List Expr) (own : List Deed) → expr_deeds x ≡ own ++ all_of (map expr_deeds es) → Clean x → Each (DeedOk e mode round.before) own
  own_deeds x es own d h = each_front (DeedOk e mode round.before) own _ (subst (Each (DeedOk e mode round.before)) d h.0)

  -- the checks of a node
  pub here_pass : (known : List Cond) (issues : List Issue) (rest : List Check) → AllPass e (check known issues ∷ rest) → Passes e known issues × AllPass e rest
  here_pass known issues rest h = h

  -- a form of one operand: its shape from the operand's, its issues, and what it does with bits
  pub record OneBits (x a : Expr) : Type 0 where
    pub form : Option Kind → Option Kind
    pub out : Width → Bool → Kind
    pub own : List Visible → Option Kind → List Issue
    pub op : Scope → BitVector → State → Outcome Value
    pub shape_law : (inner : List Visible) → shape (names_in inner) x ≡ form (shape (names_in inner) a)
    pub checks_law : (inner : List Visible) (known : List Cond) → checks_in inner x known ≡ check known (own inner (shape (names_in inner) a) ++ kind_issues (form (shape (names_in inner) a))) ∷ (checks_in inner a known ++ [])
    pub mean_law : (scope : Scope) (s : State) → mean_expr e x scope s ≡ with_bits (mean_expr e a scope s) (op scope)
    pub form_law : (w : Width) (s : Bool) → form (Some (of_bits w s)) ≡ Some (out w s)
    pub wants : (inner : List Visible) (known : List Cond) (k : Kind) → Passes e known (own inner (Some k)) → suits bits_kind (Some k) ≡ true
    pub works : (inner : List Visible) (known : List Cond) (w : Width) (s : Bool) → Passes e known (own inner (Some (of_bits w s))) → Passes e known (kind_issues (Some (out w s))) → Here e known
        → (scope : Scope) (v : BitVector) (t : State) → IsBits e w s v → StateOk e mode t → Good e mode (HasKind e (out w s)) (op scope v t)

  front_of : (known : List Cond) (xs ys : List Issue) → Passes e known (xs ++ ys) → Passes e known xs
  front_of known xs ys h = each_front _ xs ys h

  back_of : (known : List Cond) (xs ys : List Issue) → Passes e known (xs ++ ys) → Passes e known ys
  back_of known xs ys h = each_back _ xs ys h

  one_of_kind : (x a : Expr) (o : OneBits x a) (inner : List Visible) (known : List Cond) (s : IsSound a inner known) (k : IsOfBits s.kind)
      → Passes e known (o.own inner (Some (of_bits k.width k.signed)) ++ kind_issues (o.form (Some (of_bits k.width k.signed)))) → IsSound x inner known
  one_of_kind x a o inner known s k h =
      let q : Passes e known (o.own inner (Some (of_bits k.width k.signed))) = front_of known (o.own inner (Some (of_bits k.width k.signed))) _ h in
      let r : Passes e known (kind_issues (Some (o.out k.width k.signed))) =
      subst (λ (f : Option Kind). Passes e known (kind_issues f)) (o.form_law k.width k.signed) (back_of known (o.own inner (Some (of_bits k.width k.signed))) _ h) in
      record {
        kind = o.out k.width k.signed;
        is = o.shape_law inner ∙ (ap o.form (s.is ∙ ap Some k.is) ∙ o.form_law k.width k.signed);
        runs = λ scope t at. subst (Good e mode (HasKind e (o.out k.width k.signed))) (sym (o.mean_law scope t))
            (bits_good e mode (HasKind e (o.out k.width k.signed)) k.width k.signed (mean_expr e a scope t) (o.op scope)
            (subst (λ (z : Kind). Good e mode (HasKind e z) (mean_expr e a scope t)) k.is (s.runs scope t at))
            (λ v u hv hu. o.works inner known k.width k.signed q r at.here scope v u hv hu));
      }

  pub one_sound : (x a : Expr) → (Clean x → OneBits x a) → Sound a → (Clean x → Clean a) → Sound x
  one_sound x a make ha part inner known clean pass =
      let o : OneBits x a = make clean in
      let p : Passes e known (o.own inner (shape (names_in inner) a) ++ kind_issues (o.form (shape (names_in inner) a))) × AllPass e (checks_in inner a known ++ []) =
      subst (AllPass e) (o.checks_law inner known) pass in
      let s : IsSound a inner known = ha inner known (part clean) (each_front _ (checks_in inner a known) [] p.1) in
      let h : Passes e known (o.own inner (Some s.kind) ++ kind_issues (o.form (Some s.kind))) =
      subst (λ (z : Option Kind). Passes e known (o.own inner z ++ kind_issues (o.form z))) s.is p.0 in
      let k : IsOfBits s.kind = bits_kind_is s.kind (o.wants inner known s.kind (front_of known (o.own inner (Some s.kind)) _ h)) in
      one_of_kind x a o inner known s k (subst (λ (z : Kind). Passes e known (o.own inner (Some z) ++ kind_issues (o.form (Some z)))) k.is h)
