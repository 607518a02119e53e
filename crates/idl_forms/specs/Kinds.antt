-- The kinds that the code keeps: each with the number of its width in the setting.
use Rattle.std.specs.Prelude.{Option, option_map}
use Rattle.idl_width.specs.Numbers.{IsClipped}
use Rattle.idl_spec.specs.Shapes.{of_bits, of_flag, of_member, of_given_text, of_written_text, Names, shape}
use Rattle.idl_spec.specs.Shapes as meant
use Rattle.idl_spec.specs.Settings.{Setting, number_of_width}
use Rattle.idl_forms.specs.declared.kinds.Kind.{Kind}
use Rattle.idl_forms.specs.declared.kinds.Kind.TheVariants as k

abbrev pub numbered : Setting → meant.Kind → Kind
numbered e (of_bits width signed) = k.Bits (number_of_width e width) signed
numbered e of_flag = k.Flag
numbered e (of_member kind) = k.Member kind
numbered e of_given_text = k.GivenText
numbered e of_written_text = k.WrittenText

abbrev pub numbered_if_any : Setting → Option meant.Kind → Option Kind
numbered_if_any e kind = option_map (numbered e) kind

-- the number of a width is clipped
abbrev pub IsSmallKind : Kind → Type 0
IsSmallKind (k.Bits width signed) = IsClipped width
IsSmallKind _ = Unit {0}
