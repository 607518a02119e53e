-- What a path takes first of a variable.
use Rattle.std.specs.Prelude.{◌≡◌, ◌==◌, ◌&&◌, max, Bool, true, not, ℕ, List, [], ◌∷◌, Option, None, Some, if◌then◌else◌, slice_get}
use Rattle.udb_base.specs.declared.conditions.Value.{Value}
use Rattle.udb_base.specs.declared.conditions.Value.TheVariants.{Number}
use Rattle.udb_base.specs.declared.spaces.Domain.{Domain}
use Rattle.udb_base.specs.declared.spaces.Domain.TheVariants.{Range}
use Rattle.udb_spec.specs.Cells.{Step, Child, Below, From, values_of}

-- the newest choice of the parameter, or else the extension, at a place
abbrev pub choice_on : List Step → Bool → ℕ → Option ℕ
choice_on [] param place = None
choice_on (Child q p child ∷ path) param place = if (if param then q else not q) && (p == place) then Some child else choice_on path param place
choice_on (Below p at ∷ path) param place = choice_on path param place
choice_on (From p at ∷ path) param place = choice_on path param place

-- the low end that the cuts of a path leave of a range
abbrev pub low_end : List Step → ℕ → ℕ → ℕ
low_end [] place low = low
low_end (Child q p child ∷ path) place low = low_end path place low
low_end (Below p at ∷ path) place low = low_end path place low
low_end (From p at ∷ path) place low = if p == place then max (low_end path place low) at else low_end path place low

abbrev pub or_zero : Option ℕ → ℕ
or_zero None = 0
or_zero (Some n) = n

-- the choice that is taken: the newest one, or else the first
abbrev pub taken : List Step → Bool → ℕ → ℕ
taken path param place = or_zero (choice_on path param place)

-- the value that is taken
abbrev pub IsTaken : List Step → ℕ → Domain → Value → Type 0
IsTaken path place (Range low high) v = v ≡ Number (low_end path place low)
IsTaken path place domain v = slice_get (values_of domain) (taken path true place) ≡ Some v
