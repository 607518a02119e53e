-- Kinds that differ by the trees of their widths alone: what the forms make of them differs no more.
use Rattle.std.proofs.Common.{◌≡◌, Bool, true, false, Option, None, Some, refl, sym, ap, ◌∙◌, subst}
use Rattle.std.specs.Prelude.{◌&&◌, ◌+ℤ◌, ◌*ℤ◌}
use Rattle.idl_tree.specs.declared.widths.Width.{Width}
use Rattle.idl_tree.specs.declared.widths.Width.TheVariants as wd
use Rattle.idl_tree.specs.declared.expressions.Unary.{Unary}
use Rattle.idl_tree.specs.declared.expressions.Unary.TheVariants as u
use Rattle.idl_tree.specs.declared.expressions.Binary.{Binary}
use Rattle.idl_tree.specs.declared.expressions.Binary.TheVariants as b
use Rattle.idl_width.specs.Numbers.{clip, larger}
use Rattle.idl_width.specs.NumberLaws.{number-Plus, number-Times, number-Max}
use Rattle.idl_spec.specs.Fields.{bits_scope}
use Rattle.idl_spec.specs.Settings.{Setting, number_of_width}
use Rattle.idl_spec.specs.Shapes.{Kind, of_bits, of_flag, of_member, of_given_text, of_written_text, or_else, on_bits, on_two, at_larger, one_wider, at_sum, as_left, unary_kind, binary_kind, choice_kind}

abbrev pub not_bits : Option Kind → Bool
not_bits (Some (of_bits width signed)) = false
not_bits _ = true

-- bits whose widths have the same number, or the same
pub data Alike (e : Setting) : Option Kind → Option Kind → Type 0 where
  in_bits : (w v : Width) (s : Bool) → number_of_width e w ≡ number_of_width e v → Alike e (Some (of_bits w s)) (Some (of_bits v s))
  others : (k : Option Kind) → not_bits k ≡ true → Alike e k k

one_none : (k : Option Kind) (form : Width → Bool → Kind) → not_bits k ≡ true → on_bits k form ≡ None
one_none None form h = refl
one_none (Some (of_bits w s)) form h = absurd (cc)
one_none (Some of_flag) form h = refl
one_none (Some (of_member m)) form h = refl
one_none (Some of_given_text) form h = refl
one_none (Some of_written_text) form h = refl

left_none : (k l : Option Kind) (form : Width → Bool → Width → Bool → Kind) → not_bits k ≡ true → on_two k l form ≡ None
left_none None l form h = refl
left_none (Some (of_bits w s)) l form h = absurd (cc)
left_none (Some of_flag) l form h = refl
left_none (Some (of_member m)) l form h = refl
left_none (Some of_given_text) l form h = refl
left_none (Some of_written_text) l form h = refl

right_none : (w : Width) (s : Bool) (l : Option Kind) (form : Width → Bool → Width → Bool → Kind) → not_bits l ≡ true → on_two (Some (of_bits w s)) l form ≡ None
right_none w s None form h = refl
right_none w s (Some (of_bits v t)) form h = absurd (cc)
right_none w s (Some of_flag) form h = refl
right_none w s (Some (of_member m)) form h = refl
right_none w s (Some of_given_text) form h = refl
right_none w s (Some of_written_text) form h = refl

no_choice : (w : Width) (s : Bool) (l : Option Kind) → not_bits l ≡ true → choice_kind (Some (of_bits w s)) l ≡ None
no_choice w s None h = refl
no_choice w s (Some (of_bits v t)) h = absurd (cc)
no_choice w s (Some of_flag) h = refl
no_choice w s (Some (of_member m)) h = refl
no_choice w s (Some of_given_text) h = refl
no_choice w s (Some of_written_text) h = refl

no_other : (w : Width) (s : Bool) (l : Option Kind) → not_bits l ≡ true → choice_kind l (Some (of_bits w s)) ≡ None
no_other w s None h = refl
no_other w s (Some (of_bits v t)) h = absurd (cc)
no_other w s (Some of_flag) h = refl
no_other w s (Some (of_member m)) h = refl
no_other w s (Some of_given_text) h = refl
no_other w s (Some of_written_text) h = refl

module _ (e : Setting) where
  pub alike_same : (k : Option Kind) → Alike e k k
  alike_same None = others None refl
  alike_same (Some (of_bits w s)) = in_bits w w s refl
  alike_same (Some of_flag) = others (Some of_flag) refl
  alike_same (Some (of_member m)) = others (Some (of_member m)) refl
  alike_same (Some of_given_text) = others (Some of_given_text) refl
  alike_same (Some of_written_text) = others (Some of_written_text) refl

  pub alike_by : (x y k l : Option Kind) → x ≡ k → y ≡ l → Alike e k l → Alike e x y
  alike_by x y k l p q h = subst (λ (z : Option Kind). Alike e z y) (sym p) (subst (λ (z : Option Kind). Alike e k z) (sym q) h)

  both_none : (x y : Option Kind) → x ≡ None → y ≡ None → Alike e x y
  both_none x y p q = alike_by x y None None p q (alike_same None)

  -- ---- widths

  abbrev pub SameNumber : Width → Width → Type 0
  SameNumber w v = number_of_width e w ≡ number_of_width e v

  pub plus_alike : (w v x y : Width) → SameNumber w v → SameNumber x y → SameNumber (wd.Plus w x) (wd.Plus v y)
  plus_alike w v x y h k =
      number-Plus e.space e.full (bits_scope e.program e.variables) w x
      ∙ (ap (λ z. clip (z +ℤ number_of_width e x)) h ∙ (ap (λ z. clip (number_of_width e v +ℤ z)) k ∙ sym (number-Plus e.space e.full (bits_scope e.program e.variables) v y)))

  pub times_alike : (w v x y : Width) → SameNumber w v → SameNumber x y → SameNumber (wd.Times w x) (wd.Times v y)
  times_alike w v x y h k =
      number-Times e.space e.full (bits_scope e.program e.variables) w x
      ∙ (ap (λ z. clip (z *ℤ number_of_width e x)) h ∙ (ap (λ z. clip (number_of_width e v *ℤ z)) k ∙ sym (number-Times e.space e.full (bits_scope e.program e.variables) v y)))

  max_alike : (w v x y : Width) → SameNumber w v → SameNumber x y → SameNumber (wd.Max w x) (wd.Max v y)
  max_alike w v x y h k =
      number-Max e.space e.full (bits_scope e.program e.variables) w x
      ∙ (ap (λ z. clip (larger z (number_of_width e x))) h ∙ (ap (λ z. clip (larger (number_of_width e v) z)) k ∙ sym (number-Max e.space e.full (bits_scope e.program e.variables) v y)))

  -- ---- kinds

  pub or_alike : (x y k l : Option Kind) → Alike e x y → Alike e k l → Alike e (or_else x k) (or_else y l)
  or_alike x y k l (in_bits w v s is) h = in_bits w v s is
  or_alike x y k l (others None n) h = h
  or_alike x y k l (others (Some m) n) h = others (Some m) n

  pub one_alike : (form : Width → Bool → Kind) → ((w v : Width) (s : Bool) → SameNumber w v → Alike e (Some (form w s)) (Some (form v s))) → (x y : Option Kind) → Alike e x y → Alike e (on_bits x form) (on_bits y form)
  one_alike form same x y (in_bits w v s is) = same w v s is
  one_alike form same x y (others k n) = alike_same (on_bits k form)

  -- a form of two operands of bits
  abbrev pub Keeps : (Width → Bool → Width → Bool → Kind) → Type 0
  Keeps form = (w v : Width) (s : Bool) (x y : Width) (t : Bool) → SameNumber w v → SameNumber x y → Alike e (Some (form w s x t)) (Some (form v s y t))

  pub two_alike : (form : Width → Bool → Width → Bool → Kind) → Keeps form → (x y k l : Option Kind) → Alike e x y → Alike e k l → Alike e (on_two x k form) (on_two y l form)
  two_alike form same x y k l (in_bits w v s is) (in_bits p q t at) = same w v s p q t is at
  two_alike form same x y k l (in_bits w v s is) (others m n) = both_none (on_two (Some (of_bits w s)) m form) (on_two (Some (of_bits v s)) m form) (right_none w s m form n) (right_none v s m form n)
  two_alike form same x y k l (others m n) h = both_none (on_two m k form) (on_two m l form) (left_none m k form n) (left_none m l form n)

  larger_keeps : Keeps at_larger
  larger_keeps w v s x y t h k = in_bits (wd.Max w x) (wd.Max v y) (s && t) (max_alike w v x y h k)

  wider_keeps : Keeps one_wider
  wider_keeps w v s x y t h k = in_bits (wd.Plus (wd.Max w x) (wd.Number 1)) (wd.Plus (wd.Max v y) (wd.Number 1)) (s && t) (plus_alike (wd.Max w x) (wd.Max v y) (wd.Number 1) (wd.Number 1) (max_alike w v x y h k) refl)

  sum_keeps : Keeps at_sum
  sum_keeps w v s x y t h k = in_bits (wd.Plus w x) (wd.Plus v y) (s && t) (plus_alike w v x y h k)

  left_keeps : Keeps as_left
  left_keeps w v s x y t h k = in_bits w v s h

  pub unary_alike : (sign : Unary) (x y : Option Kind) → Alike e x y → Alike e (unary_kind sign x) (unary_kind sign y)
  unary_alike u.Not x y h = alike_same (Some of_flag)
  unary_alike u.Invert x y h = one_alike of_bits in_bits x y h
  unary_alike u.Minus x y h = one_alike of_bits in_bits x y h

  pub binary_alike : (sign : Binary) (x y k l : Option Kind) → Alike e x y → Alike e k l → Alike e (binary_kind sign x k) (binary_kind sign y l)
  binary_alike b.BitOr x y k l h g = two_alike at_larger larger_keeps x y k l h g
  binary_alike b.BitXor x y k l h g = two_alike at_larger larger_keeps x y k l h g
  binary_alike b.BitAnd x y k l h g = two_alike at_larger larger_keeps x y k l h g
  binary_alike b.Left x y k l h g = two_alike as_left left_keeps x y k l h g
  binary_alike b.Right x y k l h g = two_alike as_left left_keeps x y k l h g
  binary_alike b.RightSigned x y k l h g = two_alike as_left left_keeps x y k l h g
  binary_alike b.Add x y k l h g = two_alike at_larger larger_keeps x y k l h g
  binary_alike b.Sub x y k l h g = two_alike at_larger larger_keeps x y k l h g
  binary_alike b.WideAdd x y k l h g = two_alike one_wider wider_keeps x y k l h g
  binary_alike b.WideSub x y k l h g = two_alike one_wider wider_keeps x y k l h g
  binary_alike b.Mul x y k l h g = two_alike at_larger larger_keeps x y k l h g
  binary_alike b.WideMul x y k l h g = two_alike at_sum sum_keeps x y k l h g
  binary_alike b.Div x y k l h g = two_alike at_larger larger_keeps x y k l h g
  binary_alike b.Rem x y k l h g = two_alike at_larger larger_keeps x y k l h g
  binary_alike sign x y k l h g = alike_same (Some of_flag)

  pub choice_alike : (x y k l : Option Kind) → Alike e x y → Alike e k l → Alike e (choice_kind x k) (choice_kind y l)
  choice_alike x y k l (in_bits w v s is) (in_bits p q t at) = larger_keeps w v s p q t is at
  choice_alike x y k l (in_bits w v s is) (others m n) = both_none (choice_kind (Some (of_bits w s)) m) (choice_kind (Some (of_bits v s)) m) (no_choice w s m n) (no_choice v s m n)
  choice_alike x y k l (others m n) (in_bits p q t at) = both_none (choice_kind m (Some (of_bits p t))) (choice_kind m (Some (of_bits q t))) (no_other p t m n) (no_other q t m n)
  choice_alike x y k l (others m n) (others i j) = alike_same (choice_kind m i)
