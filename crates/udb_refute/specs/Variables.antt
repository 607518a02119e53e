-- The variables of a space by their names, each beside a space of it alone.
use Rattle.std.specs.Prelude.{◌≡◌, ◌+◌, ℕ, List, [], ◌∷◌, Option, None, Some, if◌then◌else◌}
use Rattle.std.specs.HashMap.{get_by_text}
use Rattle.udb_base.specs.declared.conditions.Cond.{Cond}
use Rattle.udb_base.specs.declared.conditions.Cond.TheVariants as c
use Rattle.udb_base.specs.declared.refutations.Partial.{Partial}
use Rattle.udb_base.specs.declared.spaces.ExtSpace.{ExtSpace}
use Rattle.udb_base.specs.declared.spaces.ParamSpace.{ParamSpace}
use Rattle.udb_base.specs.declared.spaces.Space.{Space}
use Rattle.udb_spec.specs.Conditions.{same_bytes}
use Rattle.udb_spec.specs.Constraints.{constraints}
use Rattle.udb_refute.specs.declared.variables.Variable.{Variable}
use Rattle.udb_refute.specs.declared.variables.Variables.{Variables}
use Rattle.udb_refute.specs.declared.variables.Table.{Table}

-- a space of one variable, which needs nothing
abbrev pub alone_extension : ExtSpace → Space
alone_extension e = record { extensions = record { name = e.name; versions = e.versions; needs = c.Always } ∷ []; params = [] }

abbrev pub alone_param : ParamSpace → Space
alone_param p = record { extensions = []; params = record { name = p.name; domain = p.domain; defined = c.Always; needs = c.Always } ∷ [] }

-- the first variable of a name, in a list that begins at a place
abbrev pub extension_among : List ExtSpace → List ℕ → ℕ → Option Variable
extension_among [] name place = None
extension_among (e ∷ es) name place = if same_bytes e.name name then Some (record { place = place; alone = alone_extension e }) else extension_among es name (place + 1)

abbrev pub param_among : List ParamSpace → List ℕ → ℕ → Option Variable
param_among [] name place = None
param_among (p ∷ ps) name place = if same_bytes p.name name then Some (record { place = place; alone = alone_param p }) else param_among ps name (place + 1)

-- each name finds its variable
pub record HasVariables (space : Space) (variables : Variables) : Type 0 where
  pub extensions : (name : List ℕ) → get_by_text variables.extensions name ≡ extension_among space.extensions name 0
  pub params : (name : List ℕ) → get_by_text variables.params name ≡ param_among space.params name 0

-- and the constraints stand in their order
pub record IsTable (space : Space) (part : Partial) (cond : Cond) (table : Table) : Type 0 where
  pub variables : HasVariables space table.variables
  pub constraints : table.constraints ≡ constraints space part cond

abbrev pub one_or_none : {X : Type 0} → Option X → List X
one_or_none None = []
one_or_none (Some x) = x ∷ []
