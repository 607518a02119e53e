-- The places of extensions and parameters in a space, counted from 0, by their names.
use Rattle.std.specs.Prelude.{◌≡◌, ◌<◌, ℕ, List, length, get_or, Option, Some}
use Rattle.std.specs.List.{position}
use Rattle.udb_base.specs.declared.spaces.ExtSpace.{ExtSpace}
use Rattle.udb_base.specs.declared.spaces.ParamSpace.{ParamSpace}
use Rattle.udb_base.specs.declared.spaces.Space.{Space}
use Rattle.udb_spec.specs.Conditions.{same_bytes}
use Rattle.udb_spec.specs.Lawful.{Lawful}

-- the first of the name, where there is one
abbrev pub extension_place : Space → List ℕ → Option ℕ
extension_place space name = position (λ e. same_bytes e.name name) space.extensions

abbrev pub param_place : Space → List ℕ → Option ℕ
param_place space name = position (λ p. same_bytes p.name name) space.params

-- the extension at the place has the name
abbrev pub IsExtensionAt : Space → ℕ → List ℕ → Type 0
IsExtensionAt space k name = (k < length space.extensions) × ((d : ExtSpace) → (get_or space.extensions k d).name ≡ name)

abbrev pub IsParamAt : Space → ℕ → List ℕ → Type 0
IsParamAt space k name = (k < length space.params) × ((d : ParamSpace) → (get_or space.params k d).name ≡ name)

-- in a lawful space no other place has the name
abbrev pub IsOnlyExtension : Space → List ℕ → Option ℕ → Type 0
IsOnlyExtension space name place = Lawful space → (k : ℕ) → IsExtensionAt space k name → place ≡ Some k

abbrev pub IsOnlyParam : Space → List ℕ → Option ℕ → Type 0
IsOnlyParam space name place = Lawful space → (k : ℕ) → IsParamAt space k name → place ≡ Some k
