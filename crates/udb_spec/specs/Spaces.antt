-- Valid full configurations, and those that complete a configuration.
use Rattle.std.specs.Prelude.{◌≡◌, ◌≤◌, true, false, IsTrue, ℕ, [], ◌∷◌, Option, None, Some, IfSome, All, Contains, codes}
use Rattle.std.specs.List.{AllZip}
use Rattle.udb_base.specs.declared.versions.Version.{Version}
use Rattle.udb_base.specs.declared.conditions.Value.{Value}
use Rattle.udb_base.specs.declared.conditions.Value.TheVariants.{Flag, Number, Word}
use Rattle.udb_base.specs.declared.spaces.Domain.{Domain}
use Rattle.udb_base.specs.declared.spaces.Domain.TheVariants.{Flags, Numbers, Range, Words}
use Rattle.udb_base.specs.declared.spaces.ExtSpace.{ExtSpace}
use Rattle.udb_base.specs.declared.spaces.ParamSpace.{ParamSpace}
use Rattle.udb_base.specs.declared.spaces.Space.{Space}
use Rattle.udb_base.specs.declared.spaces.Full.{Full}
use Rattle.udb_base.specs.declared.refutations.Partial.{Partial}
use Rattle.udb_spec.specs.Versions.{IsListed}
use Rattle.udb_spec.specs.Conditions.{holds, value_of}

-- the value is one of the domain
abbrev pub InDomain : Domain → Value → Type 0
InDomain Flags (Flag b) = Unit {0}
InDomain (Numbers ns) (Number n) = Contains ns n
InDomain (Range low high) (Number n) = (low ≤ n) × (n ≤ high)
InDomain (Words ws) (Word w) = Contains ws w
InDomain _ _ = ⊥

-- false, the first that is written, or the low end
abbrev pub first_value : Domain → Option Value
first_value Flags = Some (Flag false)
first_value (Numbers []) = None
first_value (Numbers (n ∷ ns)) = Some (Number n)
first_value (Range low high) = Some (Number low)
first_value (Words []) = None
first_value (Words (w ∷ ws)) = Some (Word w)

-- absent, or a listed version under which the requirements hold
abbrev pub IsChoice : Space → Full → ExtSpace → Option Version → Type 0
IsChoice space full ext choice = IfSome choice (λ x. IsListed ext.versions x × IsTrue (holds space full ext.needs))

-- a value of the domain; the requirements hold where the parameter is defined, else it has its first value
pub record IsValue (space : Space) (full : Full) (param : ParamSpace) (x : Value) : Type 0 where
  pub in_domain : InDomain param.domain x
  pub needs : holds space full param.defined ≡ true → holds space full param.needs ≡ true
  pub first : holds space full param.defined ≡ false → first_value param.domain ≡ Some x

-- a choice for each extension and a value for each parameter
pub record Valid (space : Space) (full : Full) : Type 0 where
  pub choices : AllZip (IsChoice space full) space.extensions full.extensions
  pub values : AllZip (IsValue space full) space.params full.params

-- a valid full configuration in which the configuration's own constraints hold
pub record Completes (space : Space) (part : Partial) (full : Full) : Type 0 where
  pub valid : Valid space full
  pub constraints : All (λ c. IsTrue (holds space full c)) part.constraints

abbrev pub number_or : ℕ → Option Value → ℕ
number_or n (Some (Number k)) = k
number_or n _ = n

-- the width of a register: the value of MXLEN, or 32 where the space has none
abbrev pub mxlen : Space → Full → ℕ
mxlen space full = number_or 32 (value_of space full (codes "MXLEN"))
