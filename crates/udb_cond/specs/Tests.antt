-- Tests of values that have no order.
use Rattle.std.specs.Prelude.{◌+◌, ◌-◌, Bool, true, false, not, ℕ, List, [], ◌∷◌, map}
use Rattle.std.specs.List.{range_with_len}
use Rattle.udb_base.specs.declared.conditions.Value.{Value}
use Rattle.udb_base.specs.declared.conditions.Value.TheVariants.{Flag}
use Rattle.udb_base.specs.declared.refutations.Known.{Known}
use Rattle.udb_spec.specs.Known.{known_over}
use Rattle.udb_base.specs.declared.conditions.Test.{Test}
use Rattle.udb_base.specs.declared.conditions.Test.TheVariants.{Equal, NotEqual}

abbrev pub equality : Test → Bool → Bool
equality Equal same = same
equality NotEqual same = not same
equality _ same = false

abbrev pub equality_over_range : ℕ → ℕ → Test → Known
equality_over_range low high test = known_over (map (λ n. equality test false) (range_with_len low (high + 1 - low)))

-- the truth values, false first
abbrev pub flags : List Value
flags = Flag false ∷ Flag true ∷ []
