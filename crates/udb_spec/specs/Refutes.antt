-- Proofs that refute a condition, and the first wrong node of one that doesn't.
use Rattle.std.specs.Prelude.{◌==◌, ◌&&◌, ◌+◌, ◌^◌, Bool, true, false, not, ℕ, nat_lt, nat_le, List, [], ◌∷◌, length, Option, None, Some, option_and_then, if◌then◌else◌, slice_get}
use Rattle.std.specs.List.{list_any}
use Rattle.std.specs.Option.{option_map, option_map_or}
use Rattle.udb_base.specs.declared.conditions.Cond.{Cond}
use Rattle.udb_base.specs.declared.refutations.Partial.{Partial}
use Rattle.udb_base.specs.declared.refutations.Proof.{Proof}
use Rattle.udb_base.specs.declared.refutations.Proof.TheOpen.{Proof-F}
use Rattle.udb_base.specs.declared.refutations.Proof.TheFolds.{fold-Proof}
use Rattle.udb_base.specs.declared.spaces.Domain.{Domain}
use Rattle.udb_base.specs.declared.spaces.Domain.TheVariants.{Range}
use Rattle.udb_base.specs.declared.spaces.Space.{Space}
use Rattle.udb_spec.specs.Cells.{Step, Child, Below, From, range_left, ext_cells, param_cells}
use Rattle.udb_spec.specs.Known.{is_no, known}
use Rattle.udb_spec.specs.Constraints.{constraints, numbered}

-- the step is a choice of the parameter, or else the extension, at a place
abbrev pub splits : Bool → ℕ → Step → Bool
splits param place (Child q p child) = (if param then q else not q) && (p == place)
splits param place (Below p at) = false
splits param place (From p at) = false

-- no step of the path is a choice of it
abbrev pub is_unsplit : List Step → Bool → ℕ → Bool
is_unsplit path param place = not (list_any (splits param place) path)

-- how many choices a path leaves the parameter, or else the extension, at a place of the space
abbrev pub cells_left : Space → List Step → Bool → ℕ → Option ℕ
cells_left space path true place = option_map (λ p. length (param_cells path place p.domain)) (slice_get space.params place)
cells_left space path false place = option_map (λ e. length (ext_cells path place e)) (slice_get space.extensions place)

-- what a path leaves of a range; other domains have none
abbrev pub ends_of : List Step → ℕ → Domain → Option (ℕ × ℕ)
ends_of path place (Range low high) = range_left path place low high
ends_of path place domain = None

abbrev pub ends_left : Space → List Step → ℕ → Option (ℕ × ℕ)
ends_left space path place = option_and_then (λ p. ends_of path place p.domain) (slice_get space.params place)

-- a leaf is right where its constraint is there and is No
abbrev pub is_leaf : Space → Partial → Cond → List Step → ℕ → Bool
is_leaf space part cond path number = option_map_or (λ c. is_no (known space path c)) (numbered (constraints space part cond) number) false

-- a split is right where its variable wasn't split on the path and it has one part for each cell
-- that is left, fewer than 2^32
abbrev pub is_split : Space → List Step → Bool → ℕ → ℕ → Bool
is_split space path param place parts =
    is_unsplit path param place && (option_map_or (λ cells. cells == parts) (cells_left space path param place) false && nat_lt parts (2 ^ 32))

-- a cut is right where its parameter is ranged and low < at <= high of the range so far
abbrev pub is_cut : Space → List Step → ℕ → ℕ → Bool
is_cut space path place at = option_map_or (λ ends. nat_lt ends.0 at && nat_le at ends.1) (ends_left space path place) false

-- the parts of a split, each under its own choice, counted from n
abbrev pub each_refutes : List (List Step → Bool) → Bool → ℕ → ℕ → List Step → Bool
each_refutes [] param place n path = true
each_refutes (part ∷ parts) param place n path = part (Child param place n ∷ path) && each_refutes parts param place (n + 1) path

abbrev pub refutes_step : Space → Partial → Cond → Proof-F (List Step → Bool) → List Step → Bool
refutes_step space part cond (Proof-F.Leaf number) path = is_leaf space part cond path number
refutes_step space part cond (Proof-F.Split param place parts) path = is_split space path param place (length parts) && each_refutes parts param place 0 path
refutes_step space part cond (Proof-F.Cut place at below from) path = is_cut space path place at && (below (Below place at ∷ path) && from (From place at ∷ path))

-- each node of the proof is right under a path of steps, the newest first
unfoldable pub refutes_under : Space → Partial → Cond → Proof → List Step → Bool
refutes_under space part cond = fold-Proof (List Step → Bool) (refutes_step space part cond)

-- the proof refutes that a completion of the configuration meets the condition
abbrev pub refutes : Space → Partial → Cond → Proof → Bool
refutes space part cond proof = refutes_under space part cond proof []

-- the wrong node within the child of a number, or else one of the later children
abbrev pub or_later : ℕ → Option (List ℕ) → Option (List ℕ) → Option (List ℕ)
or_later number None later = later
or_later number (Some node) later = Some (number ∷ node)

-- the first wrong node of the parts of a split, counted from n
abbrev pub first_in_parts : List (List Step → Option (List ℕ)) → Bool → ℕ → ℕ → List Step → Option (List ℕ)
first_in_parts [] param place n path = None
first_in_parts (part ∷ parts) param place n path = or_later (n + 1) (part (Child param place n ∷ path)) (first_in_parts parts param place (n + 1) path)

abbrev pub first_wrong_step : Space → Partial → Cond → Proof-F (List Step → Option (List ℕ)) → List Step → Option (List ℕ)
first_wrong_step space part cond (Proof-F.Leaf number) path = if is_leaf space part cond path number then None else Some []
first_wrong_step space part cond (Proof-F.Split param place parts) path = if is_split space path param place (length parts) then first_in_parts parts param place 0 path else Some []
first_wrong_step space part cond (Proof-F.Cut place at below from) path = if is_cut space path place at then or_later 1 (below (Below place at ∷ path)) (or_later 2 (from (From place at ∷ path)) None) else Some []

-- the first wrong node under a path, a node before its children: its child numbers from 1
unfoldable pub first_wrong_under : Space → Partial → Cond → Proof → List Step → Option (List ℕ)
first_wrong_under space part cond = fold-Proof (List Step → Option (List ℕ)) (first_wrong_step space part cond)

abbrev pub first_wrong : Space → Partial → Cond → Proof → Option (List ℕ)
first_wrong space part cond proof = first_wrong_under space part cond proof []
