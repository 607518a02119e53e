-- Conditions that hold where a demand on widths is broken, case by case.
use Rattle.std.specs.Prelude.{◌≡◌, ◌&&◌, ◌||◌, ◌+◌, ◌-◌, min, Bool, true, false, not, ℕ, nat_le, List, [], ◌∷◌, drop, Some, slice_get, if◌then◌else◌}
use Rattle.std.specs.List.{list_any, range_with_len}
use Rattle.udb_base.specs.declared.names.Name.{Name}
use Rattle.udb_base.specs.declared.conditions.Cond.{Cond}
use Rattle.udb_base.specs.declared.conditions.Cond.TheVariants as c
use Rattle.udb_base.specs.declared.conditions.Test.{Test}
use Rattle.udb_base.specs.declared.conditions.Test.TheVariants as t
use Rattle.udb_base.specs.declared.conditions.Value.{Value}
use Rattle.udb_base.specs.declared.conditions.Value.TheVariants.{Number}
use Rattle.udb_base.specs.declared.spaces.Domain.{Domain}
use Rattle.udb_base.specs.declared.spaces.Domain.TheVariants.{Numbers, Range}
use Rattle.udb_base.specs.declared.spaces.ParamSpace.{ParamSpace}
use Rattle.udb_base.specs.declared.spaces.Space.{Space}
use Rattle.udb_base.specs.declared.spaces.Full.{Full}
use Rattle.udb_spec.specs.Conditions.{holds, value_of, passes, option_passes}
use Rattle.udb_spec.specs.Spaces.{Valid, number_or}
use Rattle.idl_width.specs.declared.scopes.BitsOf.{BitsOf}
use Rattle.idl_spec.specs.Demands.{Demand}
use Rattle.type_demands.specs.declared.numbers.Tried.{Tried, Nothing, First'}
use Rattle.type_demands.specs.Reads.{demand_reads, widths_meet, Alike, Agrees, full_with}

abbrev pub numbers_of : Tried → List ℕ
numbers_of Nothing = []
numbers_of (First' number pointer rest) = number ∷ numbers_of rest

-- ---- the numbers of a domain

abbrev pub has_numbers : Domain → Bool
has_numbers (Numbers ns) = true
has_numbers (Range low high) = true
has_numbers _ = false

-- of a range those below 1,000,000
abbrev pub listed_numbers : Domain → List ℕ
listed_numbers (Numbers ns) = ns
listed_numbers (Range low high) = range_with_len low (min high 999999 + 1 - low)
listed_numbers _ = []

abbrev pub has_more : Domain → Bool
has_more (Range low high) = nat_le 1000000 high
has_more _ = false

-- ---- conditions

abbrev pub is_broken : Space → List BitsOf → Demand → Full → Bool
is_broken space scope one full = not (widths_meet space scope one full)

abbrev pub verdict : Space → List BitsOf → Demand → List ℕ → Cond
verdict space scope one ns = if widths_meet space scope one (full_with ns) then c.Never else c.Always

-- a condition that holds where a demand on widths is broken, in all valid full configurations that
-- agree with the numbers of the parameters from a place on
pub record IsBreach (space : Space) (scope : List BitsOf) (one : Demand) (place : ℕ) (ns : List ℕ) (cond : Cond) : Type 0 where
  pub law : (full : Full) → Valid space full → Agrees (demand_reads one) space full (drop place space.params) ns → holds space full cond ≡ is_broken space scope one full

-- ---- one case

abbrev pub case_cond : Name → Test → ℕ → Cond → Cond
case_cond name test n rest = c.All (rest ∷ c.Param name test (Number n) ∷ [])

-- the values that pass count like the number
pub record IsExact (test : Test) (n : ℕ) : Type 0 where
  pub each : (x : Value) → passes test x (Number n) ≡ true → Alike n (number_or 0 (Some x))

abbrev pub IsParamAt : Space → ℕ → ParamSpace → Type 0
IsParamAt space place p = slice_get space.params place ≡ Some p

-- one of the parts holds, or the condition
pub record HoldsEither (before : List Cond) (cond : Cond) (after : List Cond) : Type 0 where
  pub law : (space : Space) (full : Full) → holds space full (c.Any after) ≡ (holds space full (c.Any before) || holds space full cond)

-- whether a parameter's value is that of a case
abbrev pub is_case : Space → Full → Name → Test → ℕ → Bool
is_case space full name test n = option_passes test (value_of space full name) (Number n)

-- the parts also hold where the demand is broken and the parameter's value is that of the case
pub record AddsCase (space : Space) (scope : List BitsOf) (one : Demand) (place : ℕ) (ns : List ℕ) (name : Name) (test : Test) (n : ℕ) (before after : List Cond) : Type 0 where
  pub law : (full : Full) → Valid space full → Agrees (demand_reads one) space full (drop place space.params) ns
      → holds space full (c.Any after) ≡ (holds space full (c.Any before) || (is_case space full name test n && is_broken space scope one full))

-- the parts hold where the demand is broken and the parameter's value is one of the numbers
pub record HoldsAny (space : Space) (scope : List BitsOf) (one : Demand) (place : ℕ) (ns : List ℕ) (name : Name) (listed : List ℕ) (parts : List Cond) : Type 0 where
  pub law : (full : Full) → Valid space full → Agrees (demand_reads one) space full (drop place space.params) ns
      → holds space full (c.Any parts) ≡ (list_any (is_case space full name t.Equal) listed && is_broken space scope one full)

-- the condition holds where one of the parts does
pub record HoldsAsAny (parts : List Cond) (cond : Cond) : Type 0 where
  pub law : (space : Space) (full : Full) → holds space full cond ≡ holds space full (c.Any parts)

-- the condition holds in exactly the valid full configurations that break a demand on widths
pub record HoldsWhereBroken (space : Space) (scope : List BitsOf) (one : Demand) (cond : Cond) : Type 0 where
  pub law : (full : Full) → Valid space full → holds space full cond ≡ is_broken space scope one full
