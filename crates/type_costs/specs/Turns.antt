-- The parameters that the bounds of a loop name, and the turns over all listed values of these.
use Rattle.std.specs.Prelude.{◌&&◌, ◌++◌, ◌∷◌, [], ◌-ℤ◌, Bool, not, ℕ, max, List, map, fold, Option, None, Some, if◌then◌else◌}
use Rattle.std.specs.List.{list_any}
use Rattle.udb_base.specs.Lists.{is_among}
use Rattle.udb_base.specs.declared.names.Name.{Name}
use Rattle.udb_base.specs.declared.conditions.Value.{Value}
use Rattle.udb_base.specs.declared.spaces.ParamSpace.{ParamSpace}
use Rattle.udb_base.specs.declared.spaces.Full.{Full}
use Rattle.udb_spec.specs.Conditions.{same_bytes}
use Rattle.idl_tree.specs.declared.widths.Width.{Width}
use Rattle.idl_tree.specs.declared.programs.Variable.{Variable}
use Rattle.idl_tree.specs.declared.programs.Program.{Program}
use Rattle.idl_width.specs.Numbers.{width_number}
use Rattle.idl_spec.specs.Costs.{is_for_all, field_by_base, named_in, named_by_both, listed_values, unlisted, listings, not_below_zero}
use Rattle.type_costs.specs.declared.turns.Bounds.{Bounds}

-- whether the bits of a name differ by the registers
abbrev pub bits_by_base : Program → List Variable → Option Name → Name → Bool
bits_by_base program variables None name =
    list_any (λ v. same_bytes v.name name && not (is_for_all v.base)) variables
bits_by_base program variables (Some csr) name = field_by_base program csr name

-- the parameters that one of two bounds names
abbrev pub names_of : Program → List Variable → Width → Width → List Name
names_of program variables from to =
    (named_by_both (named_in program variables from) (named_in program variables to)).params

abbrev pub bounds_name : Program → List Variable → Width → Width → Name → Bool
bounds_name program variables from to param =
    is_among same_bytes param (names_of program variables from to)

-- ---- turns

-- the number of turns in a full configuration
abbrev pub turns_in : Bounds → Full → ℕ
turns_in b full =
    not_below_zero (width_number b.space.now full b.scope.now b.to.now -ℤ width_number b.space.now full b.scope.now b.from.now)

-- the values that a parameter takes
abbrev pub values_for : Bounds → ParamSpace → List Value
values_for b p =
    if bounds_name b.program.now b.variables.now b.from.now b.to.now p.name then listed_values p.domain else unlisted p.domain

-- the same configuration with further values
abbrev pub with_values : Full → List Value → Full
with_values full xs = record { extensions = full.extensions; params = full.params ++ xs }

abbrev pub with_value : Full → Value → Full
with_value full x = with_values full (x ∷ [])

-- the greatest over all values of the parameters that are left, or one before
unfoldable pub greatest_from : Bounds → List ParamSpace → Full → ℕ → ℕ
greatest_from b ps full before =
    fold max before (map (λ xs. turns_in b (with_values full xs)) (listings (names_of b.program.now b.variables.now b.from.now b.to.now) ps))

-- the same where the next parameter has each of some values in turn
abbrev pub greatest_over : Bounds → List ParamSpace → Full → List Value → ℕ → ℕ
greatest_over b ps full values before = fold (λ n x. greatest_from b ps (with_value full x) n) before values
