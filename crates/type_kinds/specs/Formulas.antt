-- Sides of comparisons as the definitions have them, and formulas by the formulas of their parts.
use Rattle.std.specs.Prelude.{◌%◌, ◌^◌, Bool, false, ℕ, [], ◌∷◌, Option, None, Some, if◌then◌else◌}
use Rattle.udb_base.specs.declared.names.Name.{Name}
use Rattle.udb_base.specs.declared.characters.Chars.{Chars}
use Rattle.udb_base.specs.declared.conditions.Value.TheVariants as given
use Rattle.udb_base.specs.declared.conditions.Test.{Test}
use Rattle.udb_base.specs.declared.conditions.Cond.{Cond}
use Rattle.udb_base.specs.declared.conditions.Cond.TheVariants as c
use Rattle.udb_base.specs.declared.spaces.Space.{Space}
use Rattle.idl_tree.specs.declared.widths.Width.{Width}
use Rattle.idl_tree.specs.declared.widths.Width.TheVariants as wd
use Rattle.idl_spec.specs.Formulas as meant
use Rattle.idl_spec.specs.Formulas.{lists_extension}
use Rattle.type_kinds.specs.declared.formulas.Operand.{Operand}
use Rattle.type_kinds.specs.declared.formulas.Operand.TheVariants as s

abbrev pub side_of : Operand → meant.Side
side_of (s.Literal n) = meant.literal n
side_of (s.Number name) = meant.number name.now
side_of (s.Truth x) = meant.truth x
side_of (s.Flag name) = meant.flag name.now
side_of (s.Text x) = meant.text x.now
side_of (s.Word name) = meant.word name.now
side_of s.Other = meant.other

abbrev pub literal_side : Width → Bool → ℕ → meant.Side
literal_side (wd.Number width) false n = meant.literal (n % 2 ^ width)
literal_side _ _ n = meant.other

abbrev pub flag_cond : Test → Name → Bool → Cond
flag_cond test name x = c.Param name test (given.Flag x)

abbrev pub word_cond : Test → Name → Chars → Cond
word_cond test name x = c.Param name test (given.Word x)

abbrev pub extension_formula : Space → Name → Option Cond
extension_formula space name = if lists_extension space name then Some (c.Ext name []) else None

abbrev pub negated_formula : Option Cond → Option Cond
negated_formula None = None
negated_formula (Some x) = Some (c.Not x)

abbrev pub both_some : {A : Type 0} → Option A → Option A → Option (A × A)
both_some (Some x) (Some y) = Some (x, y)
both_some _ _ = None

abbrev pub all_of : Option Cond → Option Cond → Option Cond
all_of (Some x) (Some y) = Some (c.All (x ∷ y ∷ []))
all_of _ _ = None

abbrev pub any_of : Option Cond → Option Cond → Option Cond
any_of (Some x) (Some y) = Some (c.Any (x ∷ y ∷ []))
any_of _ _ = None
