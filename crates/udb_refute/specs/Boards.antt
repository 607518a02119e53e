-- What a path leaves of each variable, worked out once, and a path over one variable that leaves it the same.
use Rattle.std.specs.Prelude.{◌≡◌, ◌<◌, ◌==◌, min, Bool, true, false, ℕ, List, [], ◌∷◌, length, Option, None, Some, if◌then◌else◌, slice_get}
use Rattle.udb_base.specs.declared.spaces.Space.{Space}
use Rattle.udb_spec.specs.Cells.{Step, Child, Below, From}
use Rattle.udb_refute.specs.declared.boards.Left.{Left}
use Rattle.udb_refute.specs.declared.boards.Board.{Board}
use Rattle.udb_refute.specs.Paths.{choice_on, low_end}

abbrev pub lesser : ℕ → Option ℕ → ℕ
lesser at None = at
lesser at (Some other) = min at other

-- the least bound that the numbers of the range at a place have to be below, where a cut gave one
abbrev pub bound_on : List Step → ℕ → Option ℕ
bound_on [] place = None
bound_on (Child q p child ∷ path) place = bound_on path place
bound_on (Below p at ∷ path) place = if p == place then Some (lesser at (bound_on path place)) else bound_on path place
bound_on (From p at ∷ path) place = bound_on path place

-- what a path leaves of the parameter at a place
abbrev pub left_on : List Step → ℕ → Left
left_on path place = record { choice = choice_on path true place; from = low_end path place 0; below = bound_on path place }

-- the board has what the path leaves of the first n extensions and m parameters
pub record Shows (n m : ℕ) (path : List Step) (board : Board) : Type 0 where
  pub extensions : (i : ℕ) → i < n → slice_get board.extensions i ≡ Some (choice_on path false i)
  pub params : (i : ℕ) → i < m → slice_get board.params i ≡ Some (left_on path i)

-- and of all of a space
abbrev pub IsBoard : Space → List Step → Board → Type 0
IsBoard space path board = Shows (length space.extensions) (length space.params) path board

-- paths over the variable at place 0
abbrev pub split_path : Bool → Option ℕ → List Step → List Step
split_path param None rest = rest
split_path param (Some child) rest = Child param 0 child ∷ rest

abbrev pub below_path : Option ℕ → List Step → List Step
below_path None rest = rest
below_path (Some at) rest = Below 0 at ∷ rest

-- the path over a parameter alone that leaves it the same
abbrev pub path_of : Left → List Step
path_of left = From 0 left.from ∷ below_path left.below (split_path true left.choice [])
