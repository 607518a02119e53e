-- The forms without operands.
use Rattle.std.proofs.Common.{◌≡◌, ◌<◌, ◌≤◌, ℕ, Bool, true, false, List, [], ◌∷◌, ◌++◌, Option, None, Some, refl, sym, ap, ◌∙◌, subst, arith}
use Rattle.std.specs.Prelude.{option_map, is_some, if◌then◌else◌, pos, find}
use Rattle.std.proofs.lemmas.Int.{ints, clamps}
use Rattle.idl_tree.specs.Each.{Each}
use Rattle.udb_base.specs.declared.names.Name.{Name}
use Rattle.udb_base.specs.declared.characters.Chars.{Chars}
use Rattle.udb_base.specs.declared.conditions.Cond.{Cond}
use Rattle.udb_spec.specs.Conditions.{same_bytes}
use Rattle.idl_tree.specs.declared.widths.Width.{Width}
use Rattle.idl_tree.specs.declared.widths.Width.TheVariants as wd
use Rattle.idl_tree.specs.declared.widths.EnumKind.{EnumKind}
use Rattle.idl_tree.specs.declared.widths.EnumKind.TheVariants.{PrivilegeMode, ExceptionCode, CsrFieldType}
use Rattle.idl_tree.specs.declared.expressions.Expr.{Expr}
use Rattle.idl_tree.specs.declared.expressions.Expr.TheVariants as ex
use Rattle.idl_width.specs.Numbers.{clip}
use Rattle.idl_width.specs.NumberLaws.{number-Number}
use Rattle.idl_spec.specs.Values.{member, least_width, same_enum, members, member_number}
use Rattle.idl_spec.specs.Harts.{State}
use Rattle.idl_spec.specs.Shapes.{Kind, of_bits, of_flag, of_member, of_written_text, shape, kind_holding, register_width}
use Rattle.idl_spec.specs.ShapeLaws.{shape-Number, shape-Sized, shape-Text, shape-Flag, shape-Member, shape-Pc, shape-Encoding, shape-Mode}
use Rattle.idl_spec.specs.Fields.{bits_scope}
use Rattle.idl_spec.specs.Settings.{Setting, Scope, number_of_width}
use Rattle.idl_spec.specs.Mean.{mean_expr}
use Rattle.idl_spec.specs.MeanLaws.{mean-Number, mean-Sized, mean-Text, mean-Flag, mean-Member, mean-Pc, mean-Encoding, mean-Mode}
use Rattle.idl_spec.specs.Demands.{Issue, Visible, kind_issues, width_issues, unknown_unless, outside_fields}
use Rattle.idl_spec.specs.Checks.{check}
use Rattle.idl_spec.specs.CheckLaws.{checks-Number, checks-Sized, checks-Text, checks-Flag, checks-Member, checks-Pc, checks-Encoding, checks-Mode}
use Rattle.type_laws.specs.Kinds.{IsBits, HasKind, Mode, Good, Round, bound, view_in, Passes, AllPass}
use Rattle.type_laws.proofs.Outcomes.{required_good}
use Rattle.type_laws.proofs.Passing.{front, back, known, range}
use Rattle.type_laws.proofs.Widths.{InRange, number_is, width_good}
use Rattle.type_laws.proofs.Sound.{Stands, Sound, Clean, names_in, checks_in}
use Rattle.type_laws.proofs.Worlds.{World}

module _ (e : Setting) (mode : Mode) (round : Round) where
  -- a form without operands: its kind, its issues, and its value
  pub record IsLeaf (x : Expr) (own : List Visible → List Issue) (kinds : List Visible → Option Kind) : Type 0 where
    pub shape_law : (inner : List Visible) → shape (names_in e mode round inner) x ≡ kinds inner
    pub checks_law : (inner : List Visible) (here : List Cond) → checks_in e mode round inner x here ≡ check here (own inner ++ kind_issues (kinds inner)) ∷ []

  pub record HasValue (x : Expr) (inner : List Visible) (here : List Cond) (kinds : Option Kind) : Type 0 where
    pub kind : Kind
    pub is : kinds ≡ Some kind
    pub runs : (scope : Scope) (s : State) → Stands e mode round inner here scope s → Good e mode (HasKind e kind) (mean_expr e x scope s)

  pub leaf_sound : (x : Expr) (own : List Visible → List Issue) (kinds : List Visible → Option Kind) → IsLeaf x own kinds
      → ((inner : List Visible) (here : List Cond) → Clean e mode round x → Passes e here (own inner) → Passes e here (kind_issues (kinds inner)) → HasValue x inner here (kinds inner)) → Sound e mode round x
  leaf_sound x own kinds laws works inner here clean pass =
      let p = subst (AllPass e) (laws.checks_law inner here) pass in
      let v = works inner here clean (front e here (own inner) _ p.0) (back e here (own inner) _ p.0) in
      record { kind = v.kind; is = laws.shape_law inner ∙ v.is; runs = v.runs }

  alike : (k n : ℕ) → n ≤ 128 → clip (pos k) ≡ pos n → k ≡ n
  alike k n h is = omega (arith, ints, clamps)

  -- a number whose range is met
  pub number_bits : (k : ℕ) (signed : Bool) (n : ℕ) → InRange 1 128 (number_of_width e (wd.Number k)) → IsBits e (wd.Number k) signed (record { width = k; signed = signed; pattern = n })
  number_bits k signed n r =
      let m : k ≡ r.n = alike k r.n r.most (sym (number-Number e.space e.full (bits_scope e.program e.variables) k) ∙ r.is) in
      record { number = r.is ∙ ap pos (sym m); low = omega (arith, m, r.least); high = omega (arith, m, r.most); sign = refl }

  pub sound-Number : (n : ℕ) → Sound e mode round (ex.Number n)
  sound-Number n = leaf_sound (ex.Number n) (λ inner. []) (λ inner. Some (kind_holding n)) (record {
    shape_law = λ inner. shape-Number (names_in e mode round inner) n;
    checks_law = λ inner here. checks-Number (view_in e mode round inner) n here;
  }) (λ inner here clean p q. record {
    kind = kind_holding n;
    is = refl;
    runs = λ scope s at. subst (Good e mode (HasKind e (kind_holding n))) (sym (mean-Number e n scope s))
        (number_bits (least_width n) false n (range e here 1 128 (wd.Number (least_width n)) at.here q), at.state);
  })

  pub sound-Sized : (width : Width) (signed : Bool) (n : ℕ) → Sound e mode round (ex.Sized width signed n)
  sound-Sized width signed n = leaf_sound (ex.Sized width signed n) (λ inner. width_issues (view_in e mode round inner) width) (λ inner. Some (of_bits width signed)) (record {
    shape_law = λ inner. shape-Sized (names_in e mode round inner) width signed n;
    checks_law = λ inner here. checks-Sized (view_in e mode round inner) width signed n here;
  }) (λ inner here clean p q. record {
    kind = of_bits width signed;
    is = refl;
    runs = λ scope s at.
        let r : InRange 1 128 (number_of_width e width) = range e here 1 128 width at.here q in
        subst (Good e mode (HasKind e (of_bits width signed))) (sym (mean-Sized e width signed n scope s))
        (width_good e mode (HasKind e (of_bits width signed)) 1 128 width _ r (record { number = r.is; low = r.least; high = r.most; sign = refl }, at.state));
  })

  pub sound-Text : (x : Chars) → Sound e mode round (ex.Text x)
  sound-Text x = leaf_sound (ex.Text x) (λ inner. []) (λ inner. Some of_written_text) (record {
    shape_law = λ inner. shape-Text (names_in e mode round inner) x;
    checks_law = λ inner here. checks-Text (view_in e mode round inner) x here;
  }) (λ inner here clean p q. record {
    kind = of_written_text;
    is = refl;
    runs = λ scope s at. subst (Good e mode (HasKind e of_written_text)) (sym (mean-Text e x scope s)) (tt, at.state);
  })

  pub sound-Flag : (x : Bool) → Sound e mode round (ex.Flag x)
  sound-Flag x = leaf_sound (ex.Flag x) (λ inner. []) (λ inner. Some of_flag) (record {
    shape_law = λ inner. shape-Flag (names_in e mode round inner) x;
    checks_law = λ inner here. checks-Flag (view_in e mode round inner) x here;
  }) (λ inner here clean p q. record {
    kind = of_flag;
    is = refl;
    runs = λ scope s at. subst (Good e mode (HasKind e of_flag)) (sym (mean-Flag e x scope s)) (tt, at.state);
  })

  pub sound-Mode : Sound e mode round ex.Mode
  sound-Mode = leaf_sound ex.Mode (λ inner. []) (λ inner. Some (of_member PrivilegeMode)) (record {
    shape_law = λ inner. shape-Mode (names_in e mode round inner);
    checks_law = λ inner here. checks-Mode (view_in e mode round inner) here;
  }) (λ inner here clean p q. record {
    kind = of_member PrivilegeMode;
    is = refl;
    runs = λ scope s at. subst (Good e mode (HasKind e (of_member PrivilegeMode))) (sym (mean-Mode e scope s)) ((refl, omega arith), at.state);
  })

  pub sound-Pc : World e → Sound e mode round ex.Pc
  sound-Pc world = leaf_sound ex.Pc (λ inner. outside_fields (view_in e mode round inner)) (λ inner. Some (of_bits (register_width e.space.params) false)) (record {
    shape_law = λ inner. shape-Pc (names_in e mode round inner);
    checks_law = λ inner here. checks-Pc (view_in e mode round inner) here;
  }) (λ inner here clean p q. record {
    kind = of_bits (register_width e.space.params) false;
    is = refl;
    runs = λ scope s at. subst (Good e mode (HasKind e (of_bits (register_width e.space.params) false))) (sym (mean-Pc e scope s))
        (record { number = world.wide.number; low = world.wide.low; high = world.wide.high; sign = refl }, at.state);
  })

  pub sound-Encoding : Sound e mode round ex.Encoding
  sound-Encoding = leaf_sound ex.Encoding (λ inner. outside_fields (view_in e mode round inner)) (λ inner. Some (of_bits (wd.Number 32) false)) (record {
    shape_law = λ inner. shape-Encoding (names_in e mode round inner);
    checks_law = λ inner here. checks-Encoding (view_in e mode round inner) here;
  }) (λ inner here clean p q. record {
    kind = of_bits (wd.Number 32) false;
    is = refl;
    runs = λ scope s at. subst (Good e mode (HasKind e (of_bits (wd.Number 32) false))) (sym (mean-Encoding e scope s))
        (record { number = number_is e 32 (omega arith); low = omega arith; high = omega arith; sign = refl }, at.state);
  })

-- ---- members

found_all : {X : Type 0} (P : X → Type 0) (p : X → Bool) (xs : List X) (y : X) → Each P xs → find p xs ≡ Some y → P y
found_all P p [] y h is = absurd (cc)
found_all {X} P p (x ∷ xs) y h is = at (p x) is (found_all P p xs y h.1)
  where
    at : (b : Bool) → (if b then Some x else find p xs) ≡ Some y → (find p xs ≡ Some y → P y) → P y
    at true k rest = let same : x ≡ y = cc in subst P same h.0
    at false k rest = rest k

member_bound : (kind : EnumKind) → Each (λ (m : List ℕ × ℕ). m.1 < bound kind) (members kind)
member_bound PrivilegeMode = (omega arith, tt)
member_bound ExceptionCode = (omega arith, (omega arith, (omega arith, (omega arith, (omega arith, (omega arith, (omega arith, (omega arith, (omega arith, tt)))))))))
member_bound CsrFieldType = (omega arith, (omega arith, (omega arith, (omega arith, (omega arith, (omega arith, tt))))))

own_enum : (kind : EnumKind) → same_enum kind kind ≡ true
own_enum PrivilegeMode = refl
own_enum ExceptionCode = refl
own_enum CsrFieldType = refl

pub record HasMember (kind : EnumKind) (o : Option ℕ) : Type 0 where
  pub number : ℕ
  pub is : o ≡ Some number
  pub least : number < bound kind

member_there : (kind : EnumKind) (name : List ℕ) → is_some (member_number kind name) ≡ true → HasMember kind (member_number kind name)
unfolding member_number
member_there kind name h = at (find (λ m. same_bytes m.0 name) (members kind)) refl h
  where
    at : (o : Option (List ℕ × ℕ)) → find (λ m. same_bytes m.0 name) (members kind) ≡ o → is_some (option_map (λ m. m.1) o) ≡ true → HasMember kind (option_map (λ m. m.1) (find (λ m. same_bytes m.0 name) (members kind)))
    at None is h = absurd (cc)
    at (Some m) is h = record { number = m.1; is = ap (option_map (λ n. n.1)) is; least = found_all (λ m. m.1 < bound kind) (λ m. same_bytes m.0 name) (members kind) m (member_bound kind) is }

module _ (e : Setting) (mode : Mode) (round : Round) where
  pub sound-Member : (kind : EnumKind) (name : Name) → Sound e mode round (ex.Member kind name)
  sound-Member kind name = leaf_sound e mode round (ex.Member kind name) (λ inner. unknown_unless (is_some (member_number kind name)) name) (λ inner. Some (of_member kind)) (record {
    shape_law = λ inner. shape-Member (names_in e mode round inner) kind name;
    checks_law = λ inner here. checks-Member (view_in e mode round inner) kind name here;
  }) (λ inner here clean p q. record {
    kind = of_member kind;
    is = refl;
    runs = λ scope s at.
        let m : HasMember kind (member_number kind name) = member_there kind name (known e here (is_some (member_number kind name)) name p) in
        subst (Good e mode (HasKind e (of_member kind))) (sym (mean-Member e kind name scope s))
        (required_good e mode (HasKind e (of_member kind)) _ (member kind m.number) s (ap (option_map (member kind)) m.is) (own_enum kind, m.least) at.state);
  })
