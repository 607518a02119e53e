-- What an atom says over several values, and a condition over the full configurations within a path.
use Rattle.std.specs.Prelude.{◌≡◌, ◌+◌, ◌-◌, Bool, true, ℕ, List, map}
use Rattle.std.specs.List.{range_with_len}
use Rattle.udb_base.specs.declared.versions.Requirement.{Requirement}
use Rattle.udb_base.specs.declared.conditions.Value.{Value}
use Rattle.udb_base.specs.declared.conditions.Value.TheVariants.{Number}
use Rattle.udb_base.specs.declared.conditions.Test.{Test}
use Rattle.udb_base.specs.declared.conditions.Cond.{Cond}
use Rattle.udb_base.specs.declared.refutations.Known.{Known}
use Rattle.udb_base.specs.declared.spaces.Domain.{Domain}
use Rattle.udb_base.specs.declared.spaces.ExtSpace.{ExtSpace}
use Rattle.udb_base.specs.declared.spaces.Space.{Space}
use Rattle.udb_base.specs.declared.spaces.Full.{Full}
use Rattle.udb_spec.specs.Conditions.{choice_meets, passes, holds}
use Rattle.udb_spec.specs.Cells.{Step, Within, ext_cells, param_cells, kept}
use Rattle.udb_spec.specs.Known.{known_over, param_known}

-- a test over these values
abbrev pub test_over : Test → Value → List Value → Known
test_over test given values = known_over (map (λ x. passes test x given) values)

-- over those of the values, numbered from 0, that the path leaves the parameter at a place
abbrev pub test_at : List Step → ℕ → Test → Value → List Value → Known
test_at path place test given values = test_over test given (kept path true place 0 values)

-- over those of a domain
abbrev pub test_in : List Step → ℕ → Test → Value → Domain → Known
test_in path place test given domain = test_over test given (param_cells path place domain)

-- over the numbers from low to high
abbrev pub test_over_range : ℕ → ℕ → Test → Value → Known
test_over_range low high test given = known_over (map (λ n. passes test (Number n) given) (range_with_len low (high + 1 - low)))

-- over the choices that the path leaves the extension at a place
abbrev pub needs_over : List Step → ℕ → ExtSpace → List Requirement → Known
needs_over path place ext needs = known_over (map (choice_meets ext.versions needs) (ext_cells path place ext))

-- the atom of a parameter of the space
abbrev pub param_atom : Space → List Step → List ℕ → Test → Value → Known
param_atom space path name test given = param_known path 0 space.params name test given

-- the condition has this truth value in every full configuration within the path
abbrev pub HasTruth : Space → List Step → Cond → Bool → Type 0
HasTruth space path cond truth = (full : Full) → Within space path full → holds space full cond ≡ truth
