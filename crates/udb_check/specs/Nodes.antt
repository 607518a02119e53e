-- One node under a path.
use Rattle.std.specs.Prelude.{◌&&◌, ◌||◌, ◌+◌, ◌-◌, Bool, true, false, not, ℕ, zero, suc, nat_lt, List, length}
use Rattle.std.specs.List.{list_all}
use Rattle.std.specs.Option.{option_map_or}
use Rattle.udb_base.specs.declared.spaces.Domain.{Domain}
use Rattle.udb_base.specs.declared.spaces.Domain.TheVariants.{Range}
use Rattle.udb_spec.specs.Cells.{Step, allows, values_of, numbers_of, range_left}

-- one of m choices of a parameter, counted from n, is still open
abbrev pub some_open : List Step → ℕ → ℕ → ℕ → Bool
some_open path place n zero = false
some_open path place n (suc m) = list_all (allows true place n) path || some_open path place (n + 1) m

-- the first value of a domain is no longer open, and another one is
abbrev pub first_value_fails : List Step → ℕ → Domain → Bool
first_value_fails path place (Range low high) = option_map_or (λ ends. nat_lt low ends.0) (range_left path place low high) false
first_value_fails path place domain = not (list_all (allows true place 0) path) && some_open path place 1 (length (values_of domain) - 1)

-- how many values there are of a listed parameter, or are left of a ranged one
abbrev pub values_left : List Step → ℕ → Domain → ℕ
values_left path place (Range low high) = length (numbers_of (range_left path place low high))
values_left path place domain = length (values_of domain)
