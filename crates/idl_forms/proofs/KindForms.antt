-- The kind of each form of expression, with the numbers of the widths.
use Rattle.std.proofs.Common.{◌≡◌, ℕ, zero, suc, ◌-◌, Bool, true, false, List, [], ◌∷◌, Option, Some, length, get_or, take, drop, inl, inr, refl, sym, ap, ◌∙◌, arith}
use Rattle.std.proofs.lemmas.Bool.{false≢true}
use Rattle.std.specs.Prelude.{◌⊎◌, ◌==◌, map, pos, ◌+ℤ◌, ◌-ℤ◌}
use Rattle.udb_base.specs.declared.names.Name.{Name}
use Rattle.udb_base.specs.declared.characters.Chars.{Chars}
use Rattle.idl_tree.specs.declared.widths.Width.{Width}
use Rattle.idl_tree.specs.declared.widths.Width.TheVariants as wd
use Rattle.idl_tree.specs.declared.widths.EnumKind.{EnumKind}
use Rattle.idl_tree.specs.declared.widths.EnumKind.TheVariants.{PrivilegeMode}
use Rattle.idl_tree.specs.declared.expressions.Unary.{Unary}
use Rattle.idl_tree.specs.declared.expressions.Binary.{Binary}
use Rattle.idl_tree.specs.declared.expressions.Expr.{Expr}
use Rattle.idl_tree.specs.declared.expressions.Expr.TheVariants as ex
use Rattle.idl_tree.specs.declared.expressions.Expr.TheOpen.{Expr-F}
use Rattle.idl_width.specs.Numbers.{clip}
use Rattle.idl_width.specs.NumberLaws.{number-Number, number-Plus, number-Minus}
use Rattle.idl_spec.specs.Shapes.{Names, shape, shape_step, join_kind, call_kind, field_kind, register_width, of_bits}
use Rattle.idl_spec.specs.ShapeLaws.{shape-Number, shape-Sized, shape-Text, shape-Flag, shape-Word, shape-Member, shape-Unary, shape-Binary, shape-WideLeft, shape-Choice, shape-Join, shape-Repeat, shape-Index, shape-Slice, shape-Call, shape-Signed, shape-Resize, shape-Pc, shape-Encoding, shape-Register, shape-Field, shape-SoftRead, shape-ReadMemory, shape-NewField, shape-Mode, shape-Implemented, shape-ImplementedVersion}
use Rattle.idl_spec.specs.Fields.{bits_scope}
use Rattle.idl_spec.specs.Settings.{Setting, number_of_width}
use Rattle.idl_forms.specs.declared.kinds.Kind.{Kind}
use Rattle.idl_forms.specs.declared.kinds.Kind.TheVariants as k
use Rattle.idl_forms.specs.Kinds.{numbered_if_any}
use Rattle.idl_forms.specs.NumberedKinds as by_number
use Rattle.idl_forms.proofs.KindNumbers.{join-is, unary-is, binary-is, wider-is, choice-is, repeated-is, with-sign-is, with-width-is}

module _ (e : Setting) (names : Names) where
  -- an expression of a form
  pub in-form : {expr form : Expr} {kind : Option Kind} → expr ≡ form → numbered_if_any e (shape names form) ≡ kind → numbered_if_any e (shape names expr) ≡ kind
  in-form is law = ap (λ x. numbered_if_any e (shape names x)) is ∙ law

  pub form-Number : (n : ℕ) → numbered_if_any e (shape names (ex.Number n)) ≡ numbered_if_any e (shape_step names (Expr-F.Number n))
  form-Number n = ap (numbered_if_any e) (shape-Number names n)

  pub form-Sized : (width : Width) (signed : Bool) (n : ℕ) → numbered_if_any e (shape names (ex.Sized width signed n)) ≡ Some (k.Bits (number_of_width e width) signed)
  form-Sized width signed n = ap (numbered_if_any e) (shape-Sized names width signed n)

  pub form-Text : (x : Chars) → numbered_if_any e (shape names (ex.Text x)) ≡ Some k.WrittenText
  form-Text x = ap (numbered_if_any e) (shape-Text names x)

  pub form-Flag : (x : Bool) → numbered_if_any e (shape names (ex.Flag x)) ≡ Some k.Flag
  form-Flag x = ap (numbered_if_any e) (shape-Flag names x)

  pub form-Word : (name : Name) → numbered_if_any e (shape names (ex.Word name)) ≡ numbered_if_any e (shape_step names (Expr-F.Word name))
  form-Word name = ap (numbered_if_any e) (shape-Word names name)

  pub form-Member : (kind : EnumKind) (name : Name) → numbered_if_any e (shape names (ex.Member kind name)) ≡ Some (k.Member kind)
  form-Member kind name = ap (numbered_if_any e) (shape-Member names kind name)

  pub form-Unary : (sign : Unary) (a : Expr) → numbered_if_any e (shape names (ex.Unary sign a)) ≡ by_number.unary_kind sign (numbered_if_any e (shape names a))
  form-Unary sign a = ap (numbered_if_any e) (shape-Unary names sign a) ∙ unary-is e sign (shape names a)

  pub form-Binary : (sign : Binary) (a c : Expr) → numbered_if_any e (shape names (ex.Binary sign a c)) ≡ by_number.binary_kind sign (numbered_if_any e (shape names a)) (numbered_if_any e (shape names c))
  form-Binary sign a c = ap (numbered_if_any e) (shape-Binary names sign a c) ∙ binary-is e sign (shape names a) (shape names c)

  pub form-WideLeft : (a : Expr) (by : Width) → numbered_if_any e (shape names (ex.WideLeft a by)) ≡ by_number.wider (numbered_if_any e (shape names a)) (number_of_width e by)
  form-WideLeft a by = ap (numbered_if_any e) (shape-WideLeft names a by) ∙ wider-is e by (shape names a)

  pub form-Choice : (test a c : Expr) → numbered_if_any e (shape names (ex.Choice test a c)) ≡ by_number.choice_kind (numbered_if_any e (shape names a)) (numbered_if_any e (shape names c))
  form-Choice test a c = ap (numbered_if_any e) (shape-Choice names test a c) ∙ choice-is e (shape names a) (shape names c)

  pub form-Join : (es : List Expr) → numbered_if_any e (shape names (ex.Join es)) ≡ numbered_if_any e (join_kind (map (shape names) es))
  form-Join es = ap (numbered_if_any e) (shape-Join names es)

  pub form-Repeat : (times : Width) (a : Expr) → numbered_if_any e (shape names (ex.Repeat times a)) ≡ by_number.repeated (number_of_width e times) (numbered_if_any e (shape names a))
  form-Repeat times a = ap (numbered_if_any e) (shape-Repeat names times a) ∙ repeated-is e times (shape names a)

  pub form-Index : (a at : Expr) → numbered_if_any e (shape names (ex.Index a at)) ≡ Some (k.Bits (pos 1) false)
  form-Index a at = ap (numbered_if_any e) (shape-Index names a at) ∙ ap (λ z. Some (k.Bits z false)) (number-Number e.space e.full (bits_scope e.program e.variables) 1)

  pub form-Slice : (a : Expr) (high low : Width) → numbered_if_any e (shape names (ex.Slice a high low)) ≡ Some (k.Bits (clip (clip (number_of_width e high -ℤ number_of_width e low) +ℤ pos 1)) false)
  form-Slice a high low = ap (numbered_if_any e) (shape-Slice names a high low) ∙ ap (λ z. Some (k.Bits z false))
      (number-Plus e.space e.full (bits_scope e.program e.variables) (wd.Minus high low) (wd.Number 1)
      ∙ ap (λ z. clip (z +ℤ number_of_width e (wd.Number 1))) (number-Minus e.space e.full (bits_scope e.program e.variables) high low)
      ∙ ap (λ z. clip (clip (number_of_width e high -ℤ number_of_width e low) +ℤ z)) (number-Number e.space e.full (bits_scope e.program e.variables) 1))

  pub form-Call : (name : Name) (es : List Expr) → numbered_if_any e (shape names (ex.Call name es)) ≡ numbered_if_any e (call_kind names name)
  form-Call name es = ap (numbered_if_any e) (shape-Call names name es)

  pub form-Signed : (a : Expr) → numbered_if_any e (shape names (ex.Signed a)) ≡ by_number.with_sign (numbered_if_any e (shape names a)) true
  form-Signed a = ap (numbered_if_any e) (shape-Signed names a) ∙ with-sign-is e true (shape names a)

  pub form-Resize : (width : Width) (a : Expr) → numbered_if_any e (shape names (ex.Resize width a)) ≡ by_number.with_width (numbered_if_any e (shape names a)) (number_of_width e width)
  form-Resize width a = ap (numbered_if_any e) (shape-Resize names width a) ∙ with-width-is e width (shape names a)

  pub form-Pc : numbered_if_any e (shape names ex.Pc) ≡ numbered_if_any e (Some (of_bits (register_width names.params) false))
  form-Pc = ap (numbered_if_any e) (shape-Pc names)

  pub form-Encoding : numbered_if_any e (shape names ex.Encoding) ≡ Some (k.Bits (pos 32) false)
  form-Encoding = ap (numbered_if_any e) (shape-Encoding names) ∙ ap (λ z. Some (k.Bits z false)) (number-Number e.space e.full (bits_scope e.program e.variables) 32)

  pub form-Register : (a : Expr) → numbered_if_any e (shape names (ex.Register a)) ≡ numbered_if_any e (Some (of_bits (register_width names.params) false))
  form-Register a = ap (numbered_if_any e) (shape-Register names a)

  pub form-Field : (csr field : Name) → numbered_if_any e (shape names (ex.Field csr field)) ≡ numbered_if_any e (field_kind names csr field)
  form-Field csr field = ap (numbered_if_any e) (shape-Field names csr field)

  pub form-SoftRead : (a : Expr) → numbered_if_any e (shape names (ex.SoftRead a)) ≡ numbered_if_any e (Some (of_bits (register_width names.params) false))
  form-SoftRead a = ap (numbered_if_any e) (shape-SoftRead names a)

  pub form-ReadMemory : (count : ℕ) (at : Expr) → numbered_if_any e (shape names (ex.ReadMemory count at)) ≡ Some (k.Bits (clip (pos count)) false)
  form-ReadMemory count at = ap (numbered_if_any e) (shape-ReadMemory names count at) ∙ ap (λ z. Some (k.Bits z false)) (number-Number e.space e.full (bits_scope e.program e.variables) count)

  pub form-NewField : (name : Name) → numbered_if_any e (shape names (ex.NewField name)) ≡ numbered_if_any e (shape_step names (Expr-F.NewField name))
  form-NewField name = ap (numbered_if_any e) (shape-NewField names name)

  pub form-Mode : numbered_if_any e (shape names ex.Mode) ≡ Some (k.Member PrivilegeMode)
  form-Mode = ap (numbered_if_any e) (shape-Mode names)

  pub form-Implemented : (name : Name) → numbered_if_any e (shape names (ex.Implemented name)) ≡ Some k.Flag
  form-Implemented name = ap (numbered_if_any e) (shape-Implemented names name)

  pub form-ImplementedVersion : (extension : Name) (x : Chars) → numbered_if_any e (shape names (ex.ImplementedVersion extension x)) ≡ Some k.Flag
  form-ImplementedVersion extension x = ap (numbered_if_any e) (shape-ImplementedVersion names extension x)

-- the forms that read a register
pub register-forms : (e : Setting) (names : Names) (expr : Expr)
    → (expr ≡ ex.Pc) ⊎ (((x : Expr) × (expr ≡ ex.Register x)) ⊎ ((x : Expr) × (expr ≡ ex.SoftRead x)))
    → numbered_if_any e (shape names expr) ≡ numbered_if_any e (Some (of_bits (register_width names.params) false))
register-forms e names expr (inl is) = in-form e names is (form-Pc e names)
register-forms e names expr (inr (inl (x, is))) = in-form e names is (form-Register e names x)
register-forms e names expr (inr (inr (x, is))) = in-form e names is (form-SoftRead e names x)

numbered-map : (e : Setting) (names : Names) (es : List Expr) → map (numbered_if_any e) (map (shape names) es) ≡ map (λ p. numbered_if_any e (shape names p)) es
numbered-map e names [] = refl
numbered-map e names (x ∷ es) = ap (λ ks. numbered_if_any e (shape names x) ∷ ks) (numbered-map e names es)

whole : {A : Type 0} (xs : List A) (n : ℕ) → n ≡ length xs → take n xs ≡ xs
whole [] zero is = refl
whole [] (suc n) is = refl
whole (x ∷ xs) zero is = absurd (omega arith)
whole (x ∷ xs) (suc n) is = ap (λ ys. x ∷ ys) (whole xs n (omega arith))

-- the first part of a join, and those behind it
pub join-start : (e : Setting) (names : Names) (parts : List Expr) (d : Expr) → (length parts == 0) ≡ false
    → numbered_if_any e (join_kind (map (shape names) parts)) ≡ by_number.joined_kinds (by_number.with_sign (numbered_if_any e (shape names (get_or parts 0 d))) false) (map (λ p. numbered_if_any e (shape names p)) (take (length parts - 1) (drop 1 parts)))
join-start e names [] d some = absurd (false≢true (sym some))
join-start e names (x ∷ es) d some =
    join-is e (shape names x) (map (shape names) es)
    ∙ ap (by_number.joined_kinds (by_number.with_sign (numbered_if_any e (shape names x)) false))
    (numbered-map e names es ∙ ap (map (λ p. numbered_if_any e (shape names p))) (sym (whole es (length (x ∷ es) - 1) (omega arith))))
