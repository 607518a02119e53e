-- The choices that a path of steps leaves each extension and each parameter.
use Rattle.std.specs.Prelude.{◌==◌, ◌&&◌, ◌+◌, ◌-◌, min, max, Bool, true, false, not, ℕ, nat_lt, nat_le, List, [], ◌∷◌, map, Option, None, Some, option_and_then, if◌then◌else◌, Contains}
use Rattle.std.specs.List.{list_all, range_with_len}
use Rattle.udb_base.specs.declared.versions.Version.{Version}
use Rattle.udb_base.specs.declared.conditions.Value.{Value}
use Rattle.udb_base.specs.declared.conditions.Value.TheVariants.{Flag, Number, Word}
use Rattle.udb_base.specs.declared.spaces.Domain.{Domain}
use Rattle.udb_base.specs.declared.spaces.Domain.TheVariants.{Flags, Numbers, Range, Words}
use Rattle.udb_base.specs.declared.spaces.ExtSpace.{ExtSpace}
use Rattle.udb_base.specs.declared.spaces.ParamSpace.{ParamSpace}
use Rattle.udb_base.specs.declared.spaces.Space.{Space}
use Rattle.udb_base.specs.declared.spaces.Full.{Full}

-- one choice of the parameter (or else the extension) at a place, or the numbers of the ranged
-- parameter at a place that are below a bound, or at least a bound
pub data Step : Type 0 where
  Child : (param : Bool) (place child : ℕ) → Step
  Below : (place at : ℕ) → Step
  From : (place at : ℕ) → Step

-- absent first, then the versions
abbrev pub choices_of : ExtSpace → List (Option Version)
choices_of e = None ∷ map (λ l. Some l.version) e.versions

-- the numbers from low to high, where there are any
abbrev pub range_of : ℕ → ℕ → Option (ℕ × ℕ)
range_of low high = if nat_le low high then Some (low, high) else None

abbrev pub numbers_of : Option (ℕ × ℕ) → List ℕ
numbers_of None = []
numbers_of (Some ends) = range_with_len ends.0 (ends.1 + 1 - ends.0)

-- in the domain's order
abbrev pub values_of : Domain → List Value
values_of Flags = Flag false ∷ Flag true ∷ []
values_of (Numbers ns) = map Number ns
values_of (Range low high) = map Number (numbers_of (range_of low high))
values_of (Words ws) = map Word ws

-- a step leaves all choices of other variables, and of its own the child alone
abbrev pub allows : Bool → ℕ → ℕ → Step → Bool
allows param place n (Child q p child) = if (if param then q else not q) && (p == place) then n == child else true
allows param place n (Below p at) = true
allows param place n (From p at) = true

-- the choices that each step allows, numbered from n
abbrev pub kept : {X : Type 0} → List Step → Bool → ℕ → ℕ → List X → List X
kept path param place n [] = []
kept path param place n (x ∷ xs) = if list_all (allows param place n) path then x ∷ kept path param place (n + 1) xs else kept path param place (n + 1) xs

-- a child of a range is counted from its low end
abbrev pub child_of : ℕ → ℕ × ℕ → Option (ℕ × ℕ)
child_of child ends = if nat_le (ends.0 + child) ends.1 then Some (ends.0 + child, ends.0 + child) else None

-- what a step leaves of a range
abbrev pub narrowed : ℕ → Step → ℕ × ℕ → Option (ℕ × ℕ)
narrowed place (Child param p child) ends = if param && (p == place) then child_of child ends else Some ends
narrowed place (Below p at) ends = if p == place then (if nat_lt ends.0 at then Some (ends.0, min ends.1 (at - 1)) else None) else Some ends
narrowed place (From p at) ends = if p == place then range_of (max ends.0 at) ends.1 else Some ends

-- what a path, its newest step first, leaves of a range
abbrev pub range_left : List Step → ℕ → ℕ → ℕ → Option (ℕ × ℕ)
range_left [] place low high = range_of low high
range_left (s ∷ path) place low high = option_and_then (narrowed place s) (range_left path place low high)

-- the choices left of the extension at a place
abbrev pub ext_cells : List Step → ℕ → ExtSpace → List (Option Version)
ext_cells path place e = kept path false place 0 (choices_of e)

-- the values left of the parameter at a place
abbrev pub param_cells : List Step → ℕ → Domain → List Value
param_cells path place (Range low high) = map Number (numbers_of (range_left path place low high))
param_cells path place domain = kept path true place 0 (values_of domain)

abbrev pub ExtsWithin : List Step → ℕ → List ExtSpace → List (Option Version) → Type 0
ExtsWithin path place [] [] = Unit {0}
ExtsWithin path place (e ∷ es) (c ∷ cs) = Contains (ext_cells path place e) c × ExtsWithin path (place + 1) es cs
ExtsWithin path place _ _ = ⊥

abbrev pub ParamsWithin : List Step → ℕ → List ParamSpace → List Value → Type 0
ParamsWithin path place [] [] = Unit {0}
ParamsWithin path place (p ∷ ps) (x ∷ xs) = Contains (param_cells path place p.domain) x × ParamsWithin path (place + 1) ps xs
ParamsWithin path place _ _ = ⊥

-- the full configuration has a choice for each place, and each is one that the path leaves
pub record Within (space : Space) (path : List Step) (full : Full) : Type 0 where
  pub extensions : ExtsWithin path 0 space.extensions full.extensions
  pub params : ParamsWithin path 0 space.params full.params
