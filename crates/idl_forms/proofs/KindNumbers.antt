-- The kinds of forms, with the numbers of their widths.
use Rattle.std.proofs.Common.{◌≡◌, ◌≤◌, ℕ, arith, Bool, true, false, List, [], ◌∷◌, Option, None, Some, Result, Ok, Err, refl, ap, ◌∙◌}
use Rattle.std.proofs.lemmas.Int.{ints, clamps}
use Rattle.std.specs.Prelude.{◌&&◌, pos, ◌+ℤ◌, map, option_map, if◌then◌else◌}
use Rattle.idl_tree.specs.declared.widths.Width.{Width}
use Rattle.idl_tree.specs.declared.widths.Width.TheVariants as wd
use Rattle.idl_tree.specs.declared.widths.EnumKind.{EnumKind}
use Rattle.idl_tree.specs.declared.widths.Shape.{Shape}
use Rattle.idl_tree.specs.declared.widths.Shape.TheVariants as sh
use Rattle.idl_tree.specs.declared.expressions.Unary.{Unary}
use Rattle.idl_tree.specs.declared.expressions.Unary.TheVariants as u
use Rattle.idl_tree.specs.declared.expressions.Binary.{Binary}
use Rattle.idl_tree.specs.declared.expressions.Binary.TheVariants as b
use Rattle.idl_width.specs.Numbers.{clip, larger}
use Rattle.idl_width.specs.NumberLaws.{number-Number, number-Plus, number-Times, number-Max}
use Rattle.idl_spec.specs.Values.{Value, bits, flag, member, given_text, written_text, brought_to, same_enum, within}
use Rattle.idl_spec.specs.Harts.{State, Outcome, done, stuck, or_stuck, required}
use Rattle.idl_spec.specs.Shapes.{of_bits, of_flag, of_member, of_given_text, of_written_text, on_bits, on_two}
use Rattle.idl_spec.specs.Shapes as meant
use Rattle.idl_spec.specs.Fields.{bits_scope}
use Rattle.idl_spec.specs.Settings.{Setting, number_of_width}
use Rattle.idl_spec.specs.Forms.{in_kind}
use Rattle.idl_spec.specs.Mean.{in_shape}
use Rattle.idl_forms.specs.declared.kinds.Kind.{Kind}
use Rattle.idl_forms.specs.declared.kinds.Kind.TheVariants as k
use Rattle.idl_forms.specs.declared.kinds.BothBits.{BothBits}
use Rattle.idl_forms.specs.declared.values.Stop.{Stop}
use Rattle.idl_forms.specs.declared.values.Stop.TheVariants.{Memory, Raised, Stuck}
use Rattle.idl_forms.specs.States.{Ends, AnswersWith}
use Rattle.idl_forms.specs.Kinds.{numbered, numbered_if_any}
use Rattle.idl_forms.specs.NumberedKinds as by_number

module _ (e : Setting) where
  max-is : (w v : Width) → number_of_width e (wd.Max w v) ≡ clip (larger (number_of_width e w) (number_of_width e v))
  max-is w v = number-Max e.space e.full (bits_scope e.program e.variables) w v

  plus-is : (w v : Width) → number_of_width e (wd.Plus w v) ≡ clip (number_of_width e w +ℤ number_of_width e v)
  plus-is w v = number-Plus e.space e.full (bits_scope e.program e.variables) w v

  one-is : number_of_width e (wd.Number 1) ≡ pos 1
  one-is = number-Number e.space e.full (bits_scope e.program e.variables) 1

  one-more-is : (w v : Width) → number_of_width e (wd.Plus (wd.Max w v) (wd.Number 1)) ≡ clip (clip (larger (number_of_width e w) (number_of_width e v)) +ℤ pos 1)
  one-more-is w v = plus-is (wd.Max w v) (wd.Number 1) ∙ ap (λ z. clip (z +ℤ number_of_width e (wd.Number 1))) (max-is w v) ∙ ap (λ z. clip (clip (larger (number_of_width e w) (number_of_width e v)) +ℤ z)) one-is

  -- a form over two sides of bits
  on-two : (form : Width → Bool → Width → Bool → meant.Kind) (h : BothBits → Kind)
      → ((w : Width) (s : Bool) (v : Width) (t : Bool) → numbered e (form w s v t) ≡ h (record { left = number_of_width e w; right = number_of_width e v; signed = s && t }))
      → (x y : Option meant.Kind) → numbered_if_any e (on_two x y form) ≡ option_map h (by_number.sides_of (numbered_if_any e x) (numbered_if_any e y))
  on-two form h is None y = refl
  on-two form h is (Some (of_bits w s)) None = refl
  on-two form h is (Some (of_bits w s)) (Some (of_bits v t)) = ap Some (is w s v t)
  on-two form h is (Some (of_bits w s)) (Some of_flag) = refl
  on-two form h is (Some (of_bits w s)) (Some (of_member n)) = refl
  on-two form h is (Some (of_bits w s)) (Some of_given_text) = refl
  on-two form h is (Some (of_bits w s)) (Some of_written_text) = refl
  on-two form h is (Some of_flag) y = refl
  on-two form h is (Some (of_member m)) y = refl
  on-two form h is (Some of_given_text) y = refl
  on-two form h is (Some of_written_text) y = refl

  at-larger-is : (x y : Option meant.Kind) → numbered_if_any e (on_two x y meant.at_larger) ≡ by_number.at_larger (numbered_if_any e x) (numbered_if_any e y)
  at-larger-is x y = on-two meant.at_larger (λ p. k.Bits (clip (larger p.left p.right)) p.signed) (λ w s v t. ap (λ z. k.Bits z (s && t)) (max-is w v)) x y

  one-wider-is : (x y : Option meant.Kind) → numbered_if_any e (on_two x y meant.one_wider) ≡ by_number.one_wider (numbered_if_any e x) (numbered_if_any e y)
  one-wider-is x y = on-two meant.one_wider (λ p. k.Bits (clip (clip (larger p.left p.right) +ℤ pos 1)) p.signed) (λ w s v t. ap (λ z. k.Bits z (s && t)) (one-more-is w v)) x y

  at-sum-is : (x y : Option meant.Kind) → numbered_if_any e (on_two x y meant.at_sum) ≡ by_number.at_sum (numbered_if_any e x) (numbered_if_any e y)
  at-sum-is x y = on-two meant.at_sum (λ p. k.Bits (clip (p.left +ℤ p.right)) p.signed) (λ w s v t. ap (λ z. k.Bits z (s && t)) (plus-is w v)) x y

  joined-is : (x y : Option meant.Kind) → numbered_if_any e (on_two x y (λ w s v t. of_bits (wd.Plus w v) false)) ≡ by_number.joined (numbered_if_any e x) (numbered_if_any e y)
  joined-is x y = on-two (λ w s v t. of_bits (wd.Plus w v) false) (λ p. k.Bits (clip (p.left +ℤ p.right)) false) (λ w s v t. ap (λ z. k.Bits z false) (plus-is w v)) x y

  as-left-is : (x y : Option meant.Kind) → numbered_if_any e (on_two x y meant.as_left) ≡ by_number.as_left (numbered_if_any e x) (numbered_if_any e y)
  as-left-is None y = refl
  as-left-is (Some (of_bits w s)) None = refl
  as-left-is (Some (of_bits w s)) (Some (of_bits v t)) = refl
  as-left-is (Some (of_bits w s)) (Some of_flag) = refl
  as-left-is (Some (of_bits w s)) (Some (of_member n)) = refl
  as-left-is (Some (of_bits w s)) (Some of_given_text) = refl
  as-left-is (Some (of_bits w s)) (Some of_written_text) = refl
  as-left-is (Some of_flag) y = refl
  as-left-is (Some (of_member m)) y = refl
  as-left-is (Some of_given_text) y = refl
  as-left-is (Some of_written_text) y = refl

  pub binary-is : (sign : Binary) (x y : Option meant.Kind) → numbered_if_any e (meant.binary_kind sign x y) ≡ by_number.binary_kind sign (numbered_if_any e x) (numbered_if_any e y)
  binary-is b.BitOr x y = at-larger-is x y
  binary-is b.BitXor x y = at-larger-is x y
  binary-is b.BitAnd x y = at-larger-is x y
  binary-is b.Left x y = as-left-is x y
  binary-is b.Right x y = as-left-is x y
  binary-is b.RightSigned x y = as-left-is x y
  binary-is b.Add x y = at-larger-is x y
  binary-is b.Sub x y = at-larger-is x y
  binary-is b.WideAdd x y = one-wider-is x y
  binary-is b.WideSub x y = one-wider-is x y
  binary-is b.Mul x y = at-larger-is x y
  binary-is b.WideMul x y = at-sum-is x y
  binary-is b.Div x y = at-larger-is x y
  binary-is b.Rem x y = at-larger-is x y
  binary-is b.Or x y = refl
  binary-is b.And x y = refl
  binary-is b.Equal x y = refl
  binary-is b.NotEqual x y = refl
  binary-is b.Below x y = refl
  binary-is b.AtMost x y = refl
  binary-is b.Above x y = refl
  binary-is b.AtLeast x y = refl

  pub unary-is : (sign : Unary) (x : Option meant.Kind) → numbered_if_any e (meant.unary_kind sign x) ≡ by_number.unary_kind sign (numbered_if_any e x)
  unary-is u.Not x = refl
  unary-is u.Invert None = refl
  unary-is u.Invert (Some (of_bits w s)) = refl
  unary-is u.Invert (Some of_flag) = refl
  unary-is u.Invert (Some (of_member m)) = refl
  unary-is u.Invert (Some of_given_text) = refl
  unary-is u.Invert (Some of_written_text) = refl
  unary-is u.Minus None = refl
  unary-is u.Minus (Some (of_bits w s)) = refl
  unary-is u.Minus (Some of_flag) = refl
  unary-is u.Minus (Some (of_member m)) = refl
  unary-is u.Minus (Some of_given_text) = refl
  unary-is u.Minus (Some of_written_text) = refl

  pub with-sign-is : (sign : Bool) (x : Option meant.Kind) → numbered_if_any e (on_bits x (λ w s. of_bits w sign)) ≡ by_number.with_sign (numbered_if_any e x) sign
  with-sign-is sign None = refl
  with-sign-is sign (Some (of_bits w s)) = refl
  with-sign-is sign (Some of_flag) = refl
  with-sign-is sign (Some (of_member m)) = refl
  with-sign-is sign (Some of_given_text) = refl
  with-sign-is sign (Some of_written_text) = refl

  pub with-width-is : (by : Width) (x : Option meant.Kind) → numbered_if_any e (on_bits x (λ w s. of_bits by s)) ≡ by_number.with_width (numbered_if_any e x) (number_of_width e by)
  with-width-is by None = refl
  with-width-is by (Some (of_bits w s)) = refl
  with-width-is by (Some of_flag) = refl
  with-width-is by (Some (of_member m)) = refl
  with-width-is by (Some of_given_text) = refl
  with-width-is by (Some of_written_text) = refl

  pub wider-is : (by : Width) (x : Option meant.Kind) → numbered_if_any e (on_bits x (λ w s. of_bits (wd.Plus w by) s)) ≡ by_number.wider (numbered_if_any e x) (number_of_width e by)
  wider-is by None = refl
  wider-is by (Some (of_bits w s)) = ap (λ z. Some (k.Bits z s)) (plus-is w by)
  wider-is by (Some of_flag) = refl
  wider-is by (Some (of_member m)) = refl
  wider-is by (Some of_given_text) = refl
  wider-is by (Some of_written_text) = refl

  pub repeated-is : (times : Width) (x : Option meant.Kind) → numbered_if_any e (on_bits x (λ w s. of_bits (wd.Times times w) false)) ≡ by_number.repeated (number_of_width e times) (numbered_if_any e x)
  repeated-is times None = refl
  repeated-is times (Some (of_bits w s)) = ap (λ z. Some (k.Bits z false)) (number-Times e.space e.full (bits_scope e.program e.variables) times w)
  repeated-is times (Some of_flag) = refl
  repeated-is times (Some (of_member m)) = refl
  repeated-is times (Some of_given_text) = refl
  repeated-is times (Some of_written_text) = refl

  pub choice-is : (x y : Option meant.Kind) → numbered_if_any e (meant.choice_kind x y) ≡ by_number.choice_kind (numbered_if_any e x) (numbered_if_any e y)
  choice-is None y = refl
  choice-is (Some (of_bits w s)) None = refl
  choice-is (Some (of_bits w s)) (Some (of_bits v t)) = ap (λ z. Some (k.Bits z (s && t))) (max-is w v)
  choice-is (Some (of_bits w s)) (Some of_flag) = refl
  choice-is (Some (of_bits w s)) (Some (of_member n)) = refl
  choice-is (Some (of_bits w s)) (Some of_given_text) = refl
  choice-is (Some (of_bits w s)) (Some of_written_text) = refl
  choice-is (Some of_flag) None = refl
  choice-is (Some of_flag) (Some (of_bits v t)) = refl
  choice-is (Some of_flag) (Some of_flag) = refl
  choice-is (Some of_flag) (Some (of_member n)) = refl
  choice-is (Some of_flag) (Some of_given_text) = refl
  choice-is (Some of_flag) (Some of_written_text) = refl
  choice-is (Some (of_member m)) None = refl
  choice-is (Some (of_member m)) (Some (of_bits v t)) = refl
  choice-is (Some (of_member m)) (Some of_flag) = refl
  choice-is (Some (of_member m)) (Some (of_member n)) = elim (same_enum m n) as (λ c. numbered_if_any e (if c then Some (of_member m) else None) ≡ (if c then Some (k.Member m) else None)) [ true ↦ refl | false ↦ refl ]
  choice-is (Some (of_member m)) (Some of_given_text) = refl
  choice-is (Some (of_member m)) (Some of_written_text) = refl
  choice-is (Some of_given_text) None = refl
  choice-is (Some of_given_text) (Some (of_bits v t)) = refl
  choice-is (Some of_given_text) (Some of_flag) = refl
  choice-is (Some of_given_text) (Some (of_member n)) = refl
  choice-is (Some of_given_text) (Some of_given_text) = refl
  choice-is (Some of_given_text) (Some of_written_text) = refl
  choice-is (Some of_written_text) None = refl
  choice-is (Some of_written_text) (Some (of_bits v t)) = refl
  choice-is (Some of_written_text) (Some of_flag) = refl
  choice-is (Some of_written_text) (Some (of_member n)) = refl
  choice-is (Some of_written_text) (Some of_given_text) = refl
  choice-is (Some of_written_text) (Some of_written_text) = refl

  pub joined-all-is : (x : Option meant.Kind) (ys : List (Option meant.Kind)) → numbered_if_any e (meant.joined_kind x ys) ≡ by_number.joined_kinds (numbered_if_any e x) (map (numbered_if_any e) ys)
  joined-all-is x [] = refl
  joined-all-is x (y ∷ ys) =
      joined-all-is (on_two x y (λ w s v t. of_bits (wd.Plus w v) false)) ys ∙ ap (λ z. by_number.joined_kinds z (map (numbered_if_any e) ys)) (joined-is x y)

  pub join-is : (x : Option meant.Kind) (ys : List (Option meant.Kind)) → numbered_if_any e (meant.join_kind (x ∷ ys)) ≡ by_number.joined_kinds (by_number.with_sign (numbered_if_any e x) false) (map (numbered_if_any e) ys)
  join-is x ys = joined-all-is (on_bits x (λ w s. of_bits w false)) ys ∙ ap (λ z. by_number.joined_kinds z (map (numbered_if_any e) ys)) (with-sign-is false x)

  -- ---- values in a kind

  at-size-is : (width : Width) (signed : Bool) (v : Value) (s : State) → in_kind e (Some (of_bits width signed)) v s ≡ required (by_number.at_size (number_of_width e width) signed v) s
  at-size-is width signed (bits v) s =
      elim (within 1 128 (number_of_width e width)) as (λ n. or_stuck n (λ m. done (bits (brought_to m signed v)) s) ≡ required (option_map (λ m. bits (brought_to m signed v)) n) s) [ None ↦ refl | Some n ↦ refl ]
  at-size-is width signed (flag y) s = refl
  at-size-is width signed (member m n) s = refl
  at-size-is width signed (given_text y) s = refl
  at-size-is width signed (written_text y) s = refl

  same-member-is : (kind m : EnumKind) (n : ℕ) (s : State) → (if same_enum kind m then done (member m n) s else stuck) ≡ required (by_number.same_member kind (member m n)) s
  same-member-is kind m n s = elim (same_enum kind m) as (λ c. (if c then done (member m n) s else stuck) ≡ required (if c then Some (member m n) else None) s) [ true ↦ refl | false ↦ refl ]

  pub in-kind-is : (kind : Option meant.Kind) (v : Value) (s : State) → in_kind e kind v s ≡ required (by_number.value_in (numbered_if_any e kind) v) s
  in-kind-is None v s = refl
  in-kind-is (Some (of_bits width signed)) v s = at-size-is width signed v s
  in-kind-is (Some of_flag) (bits y) s = refl
  in-kind-is (Some of_flag) (flag y) s = refl
  in-kind-is (Some of_flag) (member m n) s = refl
  in-kind-is (Some of_flag) (given_text y) s = refl
  in-kind-is (Some of_flag) (written_text y) s = refl
  in-kind-is (Some (of_member kind)) (bits y) s = refl
  in-kind-is (Some (of_member kind)) (flag y) s = refl
  in-kind-is (Some (of_member kind)) (member m n) s = same-member-is kind m n s
  in-kind-is (Some (of_member kind)) (given_text y) s = refl
  in-kind-is (Some (of_member kind)) (written_text y) s = refl
  in-kind-is (Some of_given_text) v s = refl
  in-kind-is (Some of_written_text) v s = refl

  pub in-shape-is : (shape : Shape) (v : Value) (s : State) → in_shape e shape v s ≡ required (by_number.value_in (Some (numbered e (meant.declared_kind shape))) v) s
  in-shape-is (sh.Bits signed width) (bits v) s = at-size-is width signed (bits v) s
  in-shape-is (sh.Bits signed width) (flag y) s = refl
  in-shape-is (sh.Bits signed width) (member m n) s = refl
  in-shape-is (sh.Bits signed width) (given_text y) s = refl
  in-shape-is (sh.Bits signed width) (written_text y) s = refl
  in-shape-is sh.Boolean (bits y) s = refl
  in-shape-is sh.Boolean (flag y) s = refl
  in-shape-is sh.Boolean (member m n) s = refl
  in-shape-is sh.Boolean (given_text y) s = refl
  in-shape-is sh.Boolean (written_text y) s = refl
  in-shape-is (sh.Enum kind) (bits y) s = refl
  in-shape-is (sh.Enum kind) (flag y) s = refl
  in-shape-is (sh.Enum kind) (member m n) s = same-member-is kind m n s
  in-shape-is (sh.Enum kind) (given_text y) s = refl
  in-shape-is (sh.Enum kind) (written_text y) s = refl

clipped-few : (n : ℕ) → n ≤ 1000000 → clip (pos n) ≡ pos n
clipped-few n h = omega (arith, ints, clamps)

pub small-number : (e : Setting) (n : ℕ) → n ≤ 1000000 → number_of_width e (wd.Number n) ≡ pos n
small-number e n h = number-Number e.space e.full (bits_scope e.program e.variables) n ∙ clipped-few n h

pub few-bits : (e : Setting) (n : ℕ) (signed : Bool) → n ≤ 1000000 → numbered e (of_bits (wd.Number n) signed) ≡ k.Bits (pos n) signed
few-bits e n signed h = ap (λ z. k.Bits z signed) (small-number e n h)

pub ruleset small_numbers = (few-bits, small-number)

-- an answer is the outcome of what it answers
pub answers-end : {A B : Type 0} (f : A → B) (x : Option B) (o : Outcome B) (result : Result A Stop) (s : State) → o ≡ required x s → AnswersWith f x result → Ends f o result s
answers-end f x o (Ok a) s is h = is ∙ ap (λ y. required y s) h
answers-end f x o (Err Memory) s is h = tt
answers-end f x o (Err (Raised code tval)) s is h = absurd h
answers-end f x o (Err Stuck) s is h = is ∙ ap (λ y. required y s) h
