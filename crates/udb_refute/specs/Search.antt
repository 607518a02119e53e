-- Paths that leave each variable a cell, how a variable is divided, and what a search finds.
use Rattle.std.specs.Prelude.{◌≡◌, ◌≤◌, ◌<◌, ◌+◌, ◌-◌, ◌*◌, ◌^◌, Bool, true, false, if◌then◌else◌, ℕ, nat_lt, nat_le, List, [], ◌∷◌, length, Option, None, Some, IsTrue, All, slice_get}
use Rattle.std.specs.Option.{option_map_or}
use Rattle.udb_base.specs.declared.conditions.Test.{Test}
use Rattle.udb_base.specs.declared.conditions.Test.TheVariants as t
use Rattle.udb_base.specs.declared.conditions.Cond.{Cond}
use Rattle.udb_base.specs.declared.refutations.Partial.{Partial}
use Rattle.udb_base.specs.declared.spaces.Domain.{Domain}
use Rattle.udb_base.specs.declared.spaces.Domain.TheVariants.{Range}
use Rattle.udb_base.specs.declared.spaces.ExtSpace.{ExtSpace}
use Rattle.udb_base.specs.declared.spaces.ParamSpace.{ParamSpace}
use Rattle.udb_base.specs.declared.spaces.Space.{Space}
use Rattle.udb_base.specs.declared.spaces.Full.{Full}
use Rattle.udb_spec.specs.Conditions.{holds}
use Rattle.udb_spec.specs.Constraints.{constraints, numbered}
use Rattle.udb_spec.specs.Cells.{Step, values_of, range_left, ext_cells, param_cells, Within}
use Rattle.udb_spec.specs.Refutes.{is_unsplit, is_leaf, is_split, is_cut, refutes_under}
use Rattle.udb_refute.specs.declared.choices.Choice.{Choice}
use Rattle.udb_refute.specs.declared.choices.Choice.TheVariants.{Split, Cut}
use Rattle.udb_refute.specs.declared.search.Found.{Found}
use Rattle.udb_refute.specs.declared.search.Found.TheVariants.{Completion, Refuted}
use Rattle.udb_refute.specs.declared.search.Next.{Next}
use Rattle.udb_refute.specs.declared.search.Next.TheVariants.{Met, Failed, Open}

abbrev pub is_range : Domain → Bool
is_range (Range low high) = true
is_range domain = false

-- each variable has a cell left, and no range was split
pub record IsOpen (space : Space) (path : List Step) : Type 0 where
  pub extensions : (i : ℕ) (e : ExtSpace) → slice_get space.extensions i ≡ Some e → 1 ≤ length (ext_cells path i e)
  pub params : (i : ℕ) (p : ParamSpace) → slice_get space.params i ≡ Some p → 1 ≤ length (param_cells path i p.domain)
  pub ranges : (i : ℕ) (p : ParamSpace) → slice_get space.params i ≡ Some p → is_range p.domain ≡ true → is_unsplit path true i ≡ true

-- how many cells a path leaves all variables
abbrev pub ext_weight : List Step → ℕ → List ExtSpace → ℕ
ext_weight path place [] = 0
ext_weight path place (e ∷ es) = length (ext_cells path place e) + ext_weight path (place + 1) es

abbrev pub param_weight : List Step → ℕ → List ParamSpace → ℕ
param_weight path place [] = 0
param_weight path place (p ∷ ps) = length (param_cells path place p.domain) + param_weight path (place + 1) ps

abbrev pub weight : Space → List Step → ℕ
weight space path = ext_weight path 0 space.extensions + param_weight path 0 space.params

-- the place has no range
abbrev pub is_listed : Space → Bool → ℕ → Bool
is_listed space true place = option_map_or (λ p. if is_range p.domain then false else true) (slice_get space.params place) false
is_listed space false place = true

-- a right split of a listed variable with at least two choices, or a right cut
abbrev pub IsChoice : Space → List Step → Choice → Type 0
IsChoice space path (Split param place count) = (is_split space path param place count ≡ true) × (2 ≤ count) × (is_listed space param place ≡ true)
IsChoice space path (Cut place at) = is_cut space path place at ≡ true

abbrev pub IsChosen : Space → List Step → Option Choice → Type 0
IsChosen space path None = ⊥
IsChosen space path (Some choice) = IsChoice space path choice

abbrev pub IsShortDomain : Domain → Type 0
IsShortDomain (Range low high) = Unit {0}
IsShortDomain domain = length (values_of domain) < 2 ^ 32

-- fewer than 2^32 choices of each listed variable
pub record HasShortLists (space : Space) : Type 0 where
  pub versions : All (λ e. length e.versions < 2 ^ 32 - 1) space.extensions
  pub values : All (λ p. IsShortDomain p.domain) space.params

-- where a range with this low end is cut for a test against a number
abbrev pub cut_number : ℕ → Test → ℕ → ℕ
cut_number least t.Below given = given
cut_number least t.AtLeast given = given
cut_number least t.AtMost given = given + 1
cut_number least t.Above given = given + 1
cut_number least t.Equal given = if nat_lt least given then given else given + 1
cut_number least t.NotEqual given = if nat_lt least given then given else given + 1

-- a domain of the parameter at a place is divided: a listed one that wasn't split, with at least two
-- values, or a range between its ends
abbrev pub IsCutOf : Option (ℕ × ℕ) → ℕ → Type 0
IsCutOf None at = ⊥
IsCutOf (Some ends) at = (ends.0 < at) × (at ≤ ends.1)

abbrev pub IsDivided : List Step → ℕ → Domain → Option Choice → Type 0
IsDivided path place domain None = ⊥
IsDivided path place domain (Some (Split param to count)) = (param ≡ true) × (to ≡ place) × (is_range domain ≡ false) × (count ≡ length (values_of domain)) × (2 ≤ count) × (is_unsplit path true place ≡ true)
IsDivided path place (Range low high) (Some (Cut to at)) = (to ≡ place) × IsCutOf (range_left path place low high) at
IsDivided path place domain (Some (Cut to at)) = ⊥

abbrev pub Hold : Space → Full → List Cond → Type 0
Hold space full conds = All (λ c. IsTrue (holds space full c)) conds

-- the constraints of the space come after those of the configuration and the asked condition
abbrev pub own_count : Partial → ℕ
own_count part = length part.constraints + 1

abbrev pub space_count : Space → ℕ
space_count space = length space.extensions + 2 * length space.params

-- the number of the constraint at a position from 1 on
abbrev pub number_at : Space → Partial → ℕ → ℕ
number_at space part position = if nat_le position (own_count part) then space_count space + position else position - own_count part

abbrev pub Holding : Space → Full → Option Cond → Type 0
Holding space full None = Unit {0}
Holding space full (Some c) = holds space full c ≡ true

-- the constraints at the first positions hold in every full configuration within the path
abbrev pub HoldBefore : Space → Partial → Cond → List Step → ℕ → Type 0
HoldBefore space part cond path n = (full : Full) → Within space path full → (position : ℕ) → 1 ≤ position → position ≤ n → Holding space full (numbered (constraints space part cond) (number_at space part position))

abbrev pub IsNext : Space → Partial → Cond → List Step → Next → Type 0
IsNext space part cond path Met = (full : Full) → Within space path full → Hold space full (constraints space part cond)
IsNext space part cond path (Failed number) = is_leaf space part cond path number ≡ true
IsNext space part cond path (Open position choice) = (1 ≤ position) × HoldBefore space part cond path (position - 1) × IsChoice space path choice

-- a full configuration within the path in which all constraints hold, or a proof that there is none
abbrev pub IsFound : Space → Partial → Cond → List Step → Found → Type 0
IsFound space part cond path (Completion full) = Within space path full × Hold space full (constraints space part cond)
IsFound space part cond path (Refuted proof) = refutes_under space part cond proof path ≡ true
