-- Operators and comparisons of bits.
use Rattle.std.proofs.Common.{◌≡◌, ◌+◌, max, ℕ, Bool, true, false, List, [], ◌∷◌, ◌++◌, Option, Some, refl, sym, ap, ◌∙◌, subst, arith}
use Rattle.std.specs.Prelude.{◌&&◌, if◌then◌else◌}
use Rattle.udb_base.specs.declared.conditions.Cond.{Cond}
use Rattle.idl_tree.specs.declared.widths.Width.{Width}
use Rattle.idl_tree.specs.declared.widths.Width.TheVariants as wd
use Rattle.idl_tree.specs.declared.expressions.Binary.{Binary}
use Rattle.idl_tree.specs.declared.expressions.Binary.TheVariants as b
use Rattle.idl_tree.specs.declared.expressions.Expr.{Expr}
use Rattle.idl_tree.specs.declared.expressions.Expr.TheVariants as ex
use Rattle.idl_bits.specs.BitVector.{BitVector}
use Rattle.idl_bits.specs.Operators.{sum_of, difference_of, product_of, wide_sum_of, wide_difference_of, wide_product_of, quotient_of, remainder_of, and_of, or_of, xor_of, left_shift_of, right_shift_of, sign_shift_of}
use Rattle.idl_spec.specs.Values.{bits}
use Rattle.idl_spec.specs.Harts.{State, and_then}
use Rattle.idl_spec.specs.Shapes.{Kind, of_bits, of_flag, shape, at_larger, one_wider, at_sum, as_left, binary_kind}
use Rattle.idl_spec.specs.ShapeLaws.{shape-Binary}
use Rattle.idl_spec.specs.Settings.{Setting, Scope, Reading}
use Rattle.idl_spec.specs.Forms.{binary_bits, binary, binary_reading}
use Rattle.idl_spec.specs.Mean.{mean_expr}
use Rattle.idl_spec.specs.MeanLaws.{mean-Binary}
use Rattle.idl_spec.specs.DeedLaws.{deeds-Binary}
use Rattle.idl_spec.specs.Demands.{View, kind_issues, wants_all, bits_kind, binary_issues}
use Rattle.idl_spec.specs.Checks.{check, Part, binary_below}
use Rattle.idl_spec.specs.CheckLaws.{checks-Binary}
use Rattle.type_laws.specs.Kinds.{HasKind, Mode, Good, Round, view_in, Passes}
use Rattle.type_laws.specs.LiteralLaws.{numbers-Binary}
use Rattle.type_laws.proofs.Outcomes.{then_good}
use Rattle.type_laws.proofs.Passing.{range, two_want}
use Rattle.type_laws.proofs.Widths.{one_wider_width, sum_width}
use Rattle.type_laws.proofs.Sound.{Sound, names_in, checks_in, clean_parts}
use Rattle.type_laws.proofs.OneForms.{sized_good}
use Rattle.type_laws.proofs.TwoForms.{two_sound, as_bits, Operates, larger_bits, left_bits, ranged_bits, both_signs}

-- both operands are evaluated, from left to right
abbrev pub in_order : Binary → Reading → Reading → Reading
in_order sign left right scope s = and_then (left scope s) (λ x s1. and_then (right scope s1) (λ y s2. binary sign x y s2))

-- what the table says of a sign whose operands are both evaluated
pub record Evaluates (sign : Binary) : Type 0 where
  pub reading : (left right : Reading) (scope : Scope) (s : State) → binary_reading sign left right scope s ≡ in_order sign left right scope s
  pub below : (view : View) (x y : Part) (known : List Cond) → binary_below view sign x y known ≡ x.1 known ++ y.1 known

either_width : (x : Bool) (y z : BitVector) (n : ℕ) → y.width ≡ n → z.width ≡ n → (if x then y else z).width ≡ n
either_width true y z n h k = h
either_width false y z n h k = k

either_sign : (x : Bool) (y z : BitVector) (s : Bool) → y.signed ≡ s → z.signed ≡ s → (if x then y else z).signed ≡ s
either_sign true y z s h k = h
either_sign false y z s h k = k

module _ (e : Setting) (mode : Mode) (round : Round) where
  operated : (sign : Binary) (a c : Expr) (out : Width → Bool → Width → Bool → Kind) → Evaluates sign
      → ((x y : Option Kind) → binary_issues sign x y ≡ wants_all bits_kind (x ∷ y ∷ []))
      → ((w : Width) (p : Bool) (v : Width) (q : Bool) → binary_kind sign (Some (of_bits w p)) (Some (of_bits v q)) ≡ Some (out w p v q))
      → Operates e mode round sign out → Sound e mode round a → Sound e mode round c → Sound e mode round (ex.Binary sign a c)
  operated sign a c out laws wanted kinds works ha hc = two_sound e mode round (ex.Binary sign a c) a c (record {
    form = binary_kind sign;
    out = out;
    own = binary_issues sign;
    op = binary_bits sign;
    shape_law = λ inner. shape-Binary (names_in e mode round inner) sign a c;
    checks_law = λ inner known. checks-Binary (view_in e mode round inner) sign a c known
        ∙ ap (λ zs. check known (binary_issues sign (shape (names_in e mode round inner) a) (shape (names_in e mode round inner) c) ++ kind_issues (binary_kind sign (shape (names_in e mode round inner) a) (shape (names_in e mode round inner) c))) ∷ zs)
        (laws.below (view_in e mode round inner) (a, checks_in e mode round inner a) (c, checks_in e mode round inner c) known);
    joins = λ w p v q o scope s ga gc ok. subst (Good e mode (HasKind e o)) (sym (mean-Binary e sign a c scope s ∙ laws.reading (mean_expr e a) (mean_expr e c) scope s))
        (then_good e mode (HasKind e (of_bits w p)) (HasKind e o) (mean_expr e a scope s) _ ga (λ x t hx ht.
        then_good e mode (HasKind e (of_bits v q)) (HasKind e o) (mean_expr e c scope t) _ (gc t ht) (λ y r hy hr.
        as_bits e mode round (λ z. Good e mode (HasKind e o) (binary sign z y r)) w p x hx (λ bx hbx.
        as_bits e mode round (λ z. Good e mode (HasKind e o) (binary sign (bits bx) z r)) v q y hy (λ bz hbz. ok bx bz r hbx hbz hr)))));
    form_law = kinds;
    wants = λ known k l h. two_want e known bits_kind (Some k) (Some l) (subst (Passes e known) (wanted (Some k) (Some l)) h);
    works = works;
  }) ha hc (λ clean. clean_parts e mode round (ex.Binary sign a c) (a ∷ c ∷ []) [] [] (deeds-Binary sign a c) (numbers-Binary sign a c) clean)

  works-BitOr : Operates e mode round b.BitOr at_larger
  unfolding or_of
  works-BitOr known w p v q r here x y t hx hy ht = (larger_bits e mode round w p v q x y (or_of x y) refl refl hx hy, ht)

  works-BitXor : Operates e mode round b.BitXor at_larger
  unfolding xor_of
  works-BitXor known w p v q r here x y t hx hy ht = (larger_bits e mode round w p v q x y (xor_of x y) refl refl hx hy, ht)

  works-BitAnd : Operates e mode round b.BitAnd at_larger
  unfolding and_of
  works-BitAnd known w p v q r here x y t hx hy ht = (larger_bits e mode round w p v q x y (and_of x y) refl refl hx hy, ht)

  works-Add : Operates e mode round b.Add at_larger
  unfolding sum_of
  works-Add known w p v q r here x y t hx hy ht = (larger_bits e mode round w p v q x y (sum_of x y) refl refl hx hy, ht)

  works-Sub : Operates e mode round b.Sub at_larger
  unfolding difference_of
  works-Sub known w p v q r here x y t hx hy ht = (larger_bits e mode round w p v q x y (difference_of x y) refl refl hx hy, ht)

  works-Mul : Operates e mode round b.Mul at_larger
  unfolding product_of
  works-Mul known w p v q r here x y t hx hy ht = (larger_bits e mode round w p v q x y (product_of x y) refl refl hx hy, ht)

  works-Div : Operates e mode round b.Div at_larger
  unfolding quotient_of
  works-Div known w p v q r here x y t hx hy ht = (larger_bits e mode round w p v q x y (quotient_of x y) (either_width _ _ _ (max x.width y.width) refl refl) (either_sign _ _ _ (x.signed && y.signed) refl refl) hx hy, ht)

  works-Rem : Operates e mode round b.Rem at_larger
  unfolding remainder_of
  works-Rem known w p v q r here x y t hx hy ht = (larger_bits e mode round w p v q x y (remainder_of x y) (either_width _ _ _ (max x.width y.width) refl refl) (either_sign _ _ _ (x.signed && y.signed) refl refl) hx hy, ht)

  works-WideAdd : Operates e mode round b.WideAdd one_wider
  unfolding wide_sum_of
  works-WideAdd known w p v q r here x y t hx hy ht =
      sized_good e mode (wd.Plus (wd.Max w v) (wd.Number 1)) (p && q) (wide_sum_of x y) t
      (ranged_bits e mode round (wd.Plus (wd.Max w v) (wd.Number 1)) (p && q) (max x.width y.width + 1) (wide_sum_of x y) (one_wider_width e w v x.width y.width hx.number hx.high hy.number hy.high)
      (range e known 1 128 (wd.Plus (wd.Max w v) (wd.Number 1)) here r) refl (both_signs e mode round x.signed y.signed p q hx.sign hy.sign)) ht

  works-WideSub : Operates e mode round b.WideSub one_wider
  unfolding wide_difference_of
  works-WideSub known w p v q r here x y t hx hy ht =
      sized_good e mode (wd.Plus (wd.Max w v) (wd.Number 1)) (p && q) (wide_difference_of x y) t
      (ranged_bits e mode round (wd.Plus (wd.Max w v) (wd.Number 1)) (p && q) (max x.width y.width + 1) (wide_difference_of x y) (one_wider_width e w v x.width y.width hx.number hx.high hy.number hy.high)
      (range e known 1 128 (wd.Plus (wd.Max w v) (wd.Number 1)) here r) refl (both_signs e mode round x.signed y.signed p q hx.sign hy.sign)) ht

  works-WideMul : Operates e mode round b.WideMul at_sum
  unfolding wide_product_of
  works-WideMul known w p v q r here x y t hx hy ht =
      sized_good e mode (wd.Plus w v) (p && q) (wide_product_of x y) t
      (ranged_bits e mode round (wd.Plus w v) (p && q) (x.width + y.width) (wide_product_of x y) (sum_width e w v x.width y.width hx.number (omega (arith, hx.high)) hy.number (omega (arith, hy.high)))
      (range e known 1 128 (wd.Plus w v) here r) refl (both_signs e mode round x.signed y.signed p q hx.sign hy.sign)) ht

  works-Left : Operates e mode round b.Left as_left
  unfolding left_shift_of
  works-Left known w p v q r here x y t hx hy ht = (left_bits e mode round w p x (left_shift_of x y) refl refl hx, ht)

  works-Right : Operates e mode round b.Right as_left
  unfolding right_shift_of
  works-Right known w p v q r here x y t hx hy ht = (left_bits e mode round w p x (right_shift_of x y) refl refl hx, ht)

  works-RightSigned : Operates e mode round b.RightSigned as_left
  unfolding sign_shift_of
  works-RightSigned known w p v q r here x y t hx hy ht = (left_bits e mode round w p x (sign_shift_of x y) refl refl hx, ht)

  abbrev a_flag : Width → Bool → Width → Bool → Kind
  a_flag w p v q = of_flag

  pub sound-BitOr : (a c : Expr) → Sound e mode round a → Sound e mode round c → Sound e mode round (ex.Binary b.BitOr a c)
  sound-BitOr a c = operated b.BitOr a c at_larger (record { reading = λ left right scope s. refl; below = λ view x y known. refl }) (λ x y. refl) (λ w p v q. refl) works-BitOr

  pub sound-BitXor : (a c : Expr) → Sound e mode round a → Sound e mode round c → Sound e mode round (ex.Binary b.BitXor a c)
  sound-BitXor a c = operated b.BitXor a c at_larger (record { reading = λ left right scope s. refl; below = λ view x y known. refl }) (λ x y. refl) (λ w p v q. refl) works-BitXor

  pub sound-BitAnd : (a c : Expr) → Sound e mode round a → Sound e mode round c → Sound e mode round (ex.Binary b.BitAnd a c)
  sound-BitAnd a c = operated b.BitAnd a c at_larger (record { reading = λ left right scope s. refl; below = λ view x y known. refl }) (λ x y. refl) (λ w p v q. refl) works-BitAnd

  pub sound-Add : (a c : Expr) → Sound e mode round a → Sound e mode round c → Sound e mode round (ex.Binary b.Add a c)
  sound-Add a c = operated b.Add a c at_larger (record { reading = λ left right scope s. refl; below = λ view x y known. refl }) (λ x y. refl) (λ w p v q. refl) works-Add

  pub sound-Sub : (a c : Expr) → Sound e mode round a → Sound e mode round c → Sound e mode round (ex.Binary b.Sub a c)
  sound-Sub a c = operated b.Sub a c at_larger (record { reading = λ left right scope s. refl; below = λ view x y known. refl }) (λ x y. refl) (λ w p v q. refl) works-Sub

  pub sound-Mul : (a c : Expr) → Sound e mode round a → Sound e mode round c → Sound e mode round (ex.Binary b.Mul a c)
  sound-Mul a c = operated b.Mul a c at_larger (record { reading = λ left right scope s. refl; below = λ view x y known. refl }) (λ x y. refl) (λ w p v q. refl) works-Mul

  pub sound-Div : (a c : Expr) → Sound e mode round a → Sound e mode round c → Sound e mode round (ex.Binary b.Div a c)
  sound-Div a c = operated b.Div a c at_larger (record { reading = λ left right scope s. refl; below = λ view x y known. refl }) (λ x y. refl) (λ w p v q. refl) works-Div

  pub sound-Rem : (a c : Expr) → Sound e mode round a → Sound e mode round c → Sound e mode round (ex.Binary b.Rem a c)
  sound-Rem a c = operated b.Rem a c at_larger (record { reading = λ left right scope s. refl; below = λ view x y known. refl }) (λ x y. refl) (λ w p v q. refl) works-Rem

  pub sound-WideAdd : (a c : Expr) → Sound e mode round a → Sound e mode round c → Sound e mode round (ex.Binary b.WideAdd a c)
  sound-WideAdd a c = operated b.WideAdd a c one_wider (record { reading = λ left right scope s. refl; below = λ view x y known. refl }) (λ x y. refl) (λ w p v q. refl) works-WideAdd

  pub sound-WideSub : (a c : Expr) → Sound e mode round a → Sound e mode round c → Sound e mode round (ex.Binary b.WideSub a c)
  sound-WideSub a c = operated b.WideSub a c one_wider (record { reading = λ left right scope s. refl; below = λ view x y known. refl }) (λ x y. refl) (λ w p v q. refl) works-WideSub

  pub sound-WideMul : (a c : Expr) → Sound e mode round a → Sound e mode round c → Sound e mode round (ex.Binary b.WideMul a c)
  sound-WideMul a c = operated b.WideMul a c at_sum (record { reading = λ left right scope s. refl; below = λ view x y known. refl }) (λ x y. refl) (λ w p v q. refl) works-WideMul

  pub sound-Left : (a c : Expr) → Sound e mode round a → Sound e mode round c → Sound e mode round (ex.Binary b.Left a c)
  sound-Left a c = operated b.Left a c as_left (record { reading = λ left right scope s. refl; below = λ view x y known. refl }) (λ x y. refl) (λ w p v q. refl) works-Left

  pub sound-Right : (a c : Expr) → Sound e mode round a → Sound e mode round c → Sound e mode round (ex.Binary b.Right a c)
  sound-Right a c = operated b.Right a c as_left (record { reading = λ left right scope s. refl; below = λ view x y known. refl }) (λ x y. refl) (λ w p v q. refl) works-Right

  pub sound-RightSigned : (a c : Expr) → Sound e mode round a → Sound e mode round c → Sound e mode round (ex.Binary b.RightSigned a c)
  sound-RightSigned a c = operated b.RightSigned a c as_left (record { reading = λ left right scope s. refl; below = λ view x y known. refl }) (λ x y. refl) (λ w p v q. refl) works-RightSigned

  pub sound-Below : (a c : Expr) → Sound e mode round a → Sound e mode round c → Sound e mode round (ex.Binary b.Below a c)
  sound-Below a c = operated b.Below a c a_flag (record { reading = λ left right scope s. refl; below = λ view x y known. refl }) (λ x y. refl) (λ w p v q. refl) (λ known w p v q r here x y t hx hy ht. (tt, ht))

  pub sound-AtMost : (a c : Expr) → Sound e mode round a → Sound e mode round c → Sound e mode round (ex.Binary b.AtMost a c)
  sound-AtMost a c = operated b.AtMost a c a_flag (record { reading = λ left right scope s. refl; below = λ view x y known. refl }) (λ x y. refl) (λ w p v q. refl) (λ known w p v q r here x y t hx hy ht. (tt, ht))

  pub sound-Above : (a c : Expr) → Sound e mode round a → Sound e mode round c → Sound e mode round (ex.Binary b.Above a c)
  sound-Above a c = operated b.Above a c a_flag (record { reading = λ left right scope s. refl; below = λ view x y known. refl }) (λ x y. refl) (λ w p v q. refl) (λ known w p v q r here x y t hx hy ht. (tt, ht))

  pub sound-AtLeast : (a c : Expr) → Sound e mode round a → Sound e mode round c → Sound e mode round (ex.Binary b.AtLeast a c)
  sound-AtLeast a c = operated b.AtLeast a c a_flag (record { reading = λ left right scope s. refl; below = λ view x y known. refl }) (λ x y. refl) (λ w p v q. refl) (λ known w p v q r here x y t hx hy ht. (tt, ht))
