-- The numbered constraints of a space, a configuration and an asked condition.
use Rattle.std.specs.Prelude.{ℕ, zero, suc, List, [], ◌∷◌, ◌++◌, map, Option, None, Some, IfSome, slice_get}
use Rattle.std.specs.List.{AllZip}
use Rattle.udb_base.specs.declared.conditions.Value.{Value}
use Rattle.udb_base.specs.declared.conditions.Test.TheVariants.{Equal}
use Rattle.udb_base.specs.declared.conditions.Cond.{Cond}
use Rattle.udb_base.specs.declared.conditions.Cond.TheVariants as c
use Rattle.udb_base.specs.declared.refutations.Partial.{Partial}
use Rattle.udb_base.specs.declared.spaces.ExtSpace.{ExtSpace}
use Rattle.udb_base.specs.declared.spaces.ParamSpace.{ParamSpace}
use Rattle.udb_base.specs.declared.spaces.Space.{Space}
use Rattle.udb_base.specs.declared.spaces.Full.{Full}
use Rattle.udb_spec.specs.Versions.{IsListed}
use Rattle.udb_spec.specs.Spaces.{first_value, InDomain}

-- the extension is absent, or its requirements hold
abbrev pub ext_constraint : ExtSpace → Cond
ext_constraint e = c.Any (c.Not (c.Ext e.name []) ∷ e.needs ∷ [])

-- the parameter has this value; no domain lacks a first one in a lawful space
abbrev pub has_value : List ℕ → Option Value → Cond
has_value name None = c.Never
has_value name (Some x) = c.Param name Equal x

-- definedBy fails, or the requirements hold
abbrev pub needs_constraint : ParamSpace → Cond
needs_constraint p = c.Any (c.Not p.defined ∷ p.needs ∷ [])

-- definedBy holds, or the parameter has its first value
abbrev pub first_constraint : ParamSpace → Cond
first_constraint p = c.Any (p.defined ∷ has_value p.name (first_value p.domain) ∷ [])

abbrev pub param_constraints : List ParamSpace → List Cond
param_constraints [] = []
param_constraints (p ∷ ps) = needs_constraint p ∷ first_constraint p ∷ param_constraints ps

-- one for each extension, two for each parameter, those of the configuration, and the asked condition
abbrev pub constraints : Space → Partial → Cond → List Cond
constraints space part cond = map ext_constraint space.extensions ++ (param_constraints space.params ++ (part.constraints ++ cond ∷ []))

-- the constraint of a number, counted from 1
abbrev pub numbered : List Cond → ℕ → Option Cond
numbered list zero = None
numbered list (suc n) = slice_get list n

-- each present version is listed, and each value is in its domain
pub record IsInDomains (space : Space) (full : Full) : Type 0 where
  pub choices : AllZip (λ e c. IfSome c (IsListed e.versions)) space.extensions full.extensions
  pub values : AllZip (λ p x. InDomain p.domain x) space.params full.params
