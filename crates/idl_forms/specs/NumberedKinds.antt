-- What forms do to kinds whose widths are numbers.
use Rattle.std.specs.Prelude.{◌&&◌, Bool, true, false, ℤ, pos, ◌+ℤ◌, ◌*ℤ◌, List, [], ◌∷◌, Option, None, Some, option_map, if◌then◌else◌}
use Rattle.idl_tree.specs.declared.widths.EnumKind.{EnumKind}
use Rattle.idl_tree.specs.declared.expressions.Unary.{Unary}
use Rattle.idl_tree.specs.declared.expressions.Unary.TheVariants as u
use Rattle.idl_tree.specs.declared.expressions.Binary.{Binary}
use Rattle.idl_tree.specs.declared.expressions.Binary.TheVariants as b
use Rattle.idl_width.specs.Numbers.{clip, larger}
use Rattle.idl_spec.specs.Values.{Value, bits, flag, member, brought_to, same_enum, within}
use Rattle.idl_forms.specs.declared.kinds.Kind.{Kind}
use Rattle.idl_forms.specs.declared.kinds.Kind.TheVariants as k
use Rattle.idl_forms.specs.declared.kinds.BothBits.{BothBits}

-- bits of a number
abbrev pub unsigned : ℤ → Option Kind
unsigned width = Some (k.Bits width false)

-- two widths, and whether both are signed
abbrev pub sides_of : Option Kind → Option Kind → Option BothBits
sides_of (Some (k.Bits w s)) (Some (k.Bits v t)) = Some (record { left = w; right = v; signed = s && t })
sides_of _ _ = None

abbrev pub at_larger : Option Kind → Option Kind → Option Kind
at_larger x y = option_map (λ p. k.Bits (clip (larger p.left p.right)) p.signed) (sides_of x y)

abbrev pub one_wider : Option Kind → Option Kind → Option Kind
one_wider x y = option_map (λ p. k.Bits (clip (clip (larger p.left p.right) +ℤ pos 1)) p.signed) (sides_of x y)

abbrev pub at_sum : Option Kind → Option Kind → Option Kind
at_sum x y = option_map (λ p. k.Bits (clip (p.left +ℤ p.right)) p.signed) (sides_of x y)

abbrev pub as_left : Option Kind → Option Kind → Option Kind
as_left (Some (k.Bits w s)) (Some (k.Bits v t)) = Some (k.Bits w s)
as_left _ _ = None

abbrev pub binary_kind : Binary → Option Kind → Option Kind → Option Kind
binary_kind b.BitOr x y = at_larger x y
binary_kind b.BitXor x y = at_larger x y
binary_kind b.BitAnd x y = at_larger x y
binary_kind b.Left x y = as_left x y
binary_kind b.Right x y = as_left x y
binary_kind b.RightSigned x y = as_left x y
binary_kind b.Add x y = at_larger x y
binary_kind b.Sub x y = at_larger x y
binary_kind b.WideAdd x y = one_wider x y
binary_kind b.WideSub x y = one_wider x y
binary_kind b.Mul x y = at_larger x y
binary_kind b.WideMul x y = at_sum x y
binary_kind b.Div x y = at_larger x y
binary_kind b.Rem x y = at_larger x y
binary_kind _ x y = Some k.Flag

abbrev pub unary_kind : Unary → Option Kind → Option Kind
unary_kind u.Not x = Some k.Flag
unary_kind _ (Some (k.Bits w s)) = Some (k.Bits w s)
unary_kind _ _ = None

-- another sign
abbrev pub with_sign : Option Kind → Bool → Option Kind
with_sign (Some (k.Bits w s)) sign = Some (k.Bits w sign)
with_sign _ sign = None

-- another width
abbrev pub with_width : Option Kind → ℤ → Option Kind
with_width (Some (k.Bits w s)) width = Some (k.Bits width s)
with_width _ width = None

-- a width that is added
abbrev pub wider : Option Kind → ℤ → Option Kind
wider (Some (k.Bits w s)) by = Some (k.Bits (clip (w +ℤ by)) s)
wider _ by = None

-- so many times
abbrev pub repeated : ℤ → Option Kind → Option Kind
repeated times (Some (k.Bits w s)) = Some (k.Bits (clip (times *ℤ w)) false)
repeated times _ = None

abbrev pub choice_kind : Option Kind → Option Kind → Option Kind
choice_kind (Some (k.Bits w s)) y = at_larger (Some (k.Bits w s)) y
choice_kind (Some k.Flag) (Some k.Flag) = Some k.Flag
choice_kind (Some (k.Member x)) (Some (k.Member y)) = if same_enum x y then Some (k.Member x) else None
choice_kind _ _ = None

abbrev pub joined : Option Kind → Option Kind → Option Kind
joined x y = option_map (λ p. k.Bits (clip (p.left +ℤ p.right)) false) (sides_of x y)

abbrev pub joined_kinds : Option Kind → List (Option Kind) → Option Kind
joined_kinds x [] = x
joined_kinds x (y ∷ ys) = joined_kinds (joined x y) ys

-- ---- values in a kind

abbrev pub same_flag : Value → Option Value
same_flag (flag x) = Some (flag x)
same_flag _ = None

abbrev pub same_member : EnumKind → Value → Option Value
same_member kind (member l n) = if same_enum kind l then Some (member l n) else None
same_member kind _ = None

abbrev pub at_size : ℤ → Bool → Value → Option Value
at_size width signed (bits v) = option_map (λ n. bits (brought_to n signed v)) (within 1 128 width)
at_size width signed _ = None

abbrev pub value_in : Option Kind → Value → Option Value
value_in (Some (k.Bits width signed)) v = at_size width signed v
value_in (Some k.Flag) v = same_flag v
value_in (Some (k.Member kind)) v = same_member kind v
value_in _ v = None

abbrev pub is_flag : Kind → Bool
is_flag k.Flag = true
is_flag _ = false

abbrev pub is_member : EnumKind → Kind → Bool
is_member kind (k.Member other) = same_enum kind other
is_member kind _ = false
