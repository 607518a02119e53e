-- Kinds as the definitions have them, and the cases by which the code goes over them.
use Rattle.std.specs.Prelude.{◌&&◌, Bool, true, false, Option, None, Some, if◌then◌else◌}
use Rattle.idl_tree.specs.declared.widths.Width.{Width}
use Rattle.idl_tree.specs.declared.widths.Width.TheVariants as wd
use Rattle.idl_tree.specs.declared.widths.EnumKind.{EnumKind}
use Rattle.idl_spec.specs.Values.{same_enum}
use Rattle.idl_spec.specs.Shapes as meant
use Rattle.idl_spec.specs.Shapes.{of_bits, of_flag, of_member, of_given_text, of_written_text, on_bits, on_two, at_larger, one_wider, at_sum, as_left}
use Rattle.type_kinds.specs.declared.kinds.Kind.{Kind}
use Rattle.type_kinds.specs.declared.kinds.Kind.TheVariants as k
use Rattle.type_kinds.specs.declared.kinds.BitsKind.{BitsKind}
use Rattle.type_kinds.specs.declared.kinds.Form.{Form}
use Rattle.type_kinds.specs.declared.kinds.Form.TheVariants as f

abbrev pub kind_of : Kind → meant.Kind
kind_of (k.Bits width signed) = of_bits width signed
kind_of k.Flag = of_flag
kind_of (k.Member kind) = of_member kind
kind_of k.GivenText = of_given_text
kind_of k.WrittenText = of_written_text

abbrev pub kind_if_any : Option Kind → Option meant.Kind
kind_if_any None = None
kind_if_any (Some kind) = Some (kind_of kind)

abbrev pub bits_of : BitsKind → meant.Kind
bits_of b = of_bits b.width b.signed

-- a kind that is bits
abbrev pub only_bits : Option meant.Kind → Option meant.Kind
only_bits kind = on_bits kind of_bits

-- parts side by side: the widths are added, and the sign is lost
abbrev pub as_joined : Width → Bool → Width → Bool → meant.Kind
as_joined w s v t = of_bits (wd.Plus w v) false

abbrev pub formed : Form → Width → Bool → Width → Bool → meant.Kind
formed f.Larger = at_larger
formed f.OneWider = one_wider
formed f.Sum = at_sum
formed f.Left = as_left
formed f.Joined = as_joined

-- what a sign makes of its operands' kinds, where it has a form and where it has none
abbrev pub form_of : Option Form → Option meant.Kind → Option meant.Kind → Option meant.Kind
form_of None x y = Some of_flag
form_of (Some form) x y = on_two x y (formed form)

abbrev pub is_flag : Option meant.Kind → Bool
is_flag (Some of_flag) = true
is_flag _ = false

abbrev pub member_in : Option meant.Kind → Option EnumKind
member_in (Some (of_member kind)) = Some kind
member_in _ = None

abbrev pub one_member : Option EnumKind → Option EnumKind → Option meant.Kind
one_member (Some k) (Some l) = if same_enum k l then Some (of_member k) else None
one_member _ _ = None

abbrev pub agreed : Option meant.Kind → Option meant.Kind → Option meant.Kind
agreed x y = if is_flag x && is_flag y then Some of_flag else one_member (member_in x) (member_in y)
