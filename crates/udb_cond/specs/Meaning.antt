-- What the numbered constraints mean together.
use Rattle.std.specs.Prelude.{◌≡◌, Bool, true, ℕ, All, Option, if◌then◌else◌}
use Rattle.udb_base.specs.declared.conditions.Cond.{Cond}
use Rattle.udb_base.specs.declared.refutations.Partial.{Partial}
use Rattle.udb_base.specs.declared.spaces.ParamSpace.{ParamSpace}
use Rattle.udb_base.specs.declared.spaces.Space.{Space}
use Rattle.udb_base.specs.declared.spaces.Full.{Full}
use Rattle.udb_spec.specs.Conditions.{holds}
use Rattle.udb_spec.specs.Spaces.{Completes}
use Rattle.udb_spec.specs.Lawful.{Lawful}
use Rattle.udb_spec.specs.Constraints.{needs_constraint, first_constraint, constraints, numbered, IsInDomains}

-- the constraint of a number, counted from 1
abbrev pub constraint_of : Space → Partial → Cond → ℕ → Option Cond
constraint_of space part cond number = numbered (constraints space part cond) number

-- the condition holds in every completion that meets the asked one
abbrev pub IsMet : Space → Partial → Cond → Cond → Type 0
IsMet space part cond c = (full : Full) → Lawful space → Completes space part full → holds space full cond ≡ true → holds space full c ≡ true

-- a full configuration of listed versions and values of the domains, in which all constraints hold, is such a completion
abbrev pub IsEnough : Space → Partial → Cond → Type 0
IsEnough space part cond = (full : Full) → Lawful space → IsInDomains space full → All (λ c. holds space full c ≡ true) (constraints space part cond) → Completes space part full × (holds space full cond ≡ true)

-- the first or the second of the two constraints of a parameter
abbrev pub one_of_two : Bool → ParamSpace → Cond
one_of_two second param = if second then first_constraint param else needs_constraint param
