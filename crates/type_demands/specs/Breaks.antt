-- Full configurations in which a demand is broken.
use Rattle.std.specs.Prelude.{◌≡◌, true, false, not, List, Option, None, Some}
use Rattle.udb_base.specs.declared.conditions.Cond.{Cond}
use Rattle.udb_base.specs.declared.spaces.Space.{Space}
use Rattle.udb_base.specs.declared.spaces.Full.{Full}
use Rattle.udb_spec.specs.Conditions.{holds}
use Rattle.udb_spec.specs.Spaces.{Valid}
use Rattle.idl_tree.specs.declared.programs.Variable.{Variable}
use Rattle.idl_tree.specs.declared.programs.Program.{Program}
use Rattle.idl_spec.specs.Fields.{bits_scope}
use Rattle.idl_spec.specs.Demands.{Demand}
use Rattle.idl_spec.specs.Checks.{Under, is_met, context_holds}

-- the full configuration as demands of a body with these variables see it
abbrev pub under_variables : Space → Full → Program → List Variable → Under
under_variables space full program variables =
    record { space = space; full = full; program = program; bits = bits_scope program variables }

-- valid, the context holds and the demand isn't met
pub record Breaks (space : Space) (program : Program) (variables : List Variable) (conds : List Cond) (one : Demand) (full : Full) : Type 0 where
  pub valid : Valid space full
  pub context : context_holds (under_variables space full program variables) conds ≡ true
  pub unmet : is_met (under_variables space full program variables) one ≡ false

-- such a full configuration, where there is one
abbrev pub IsBreaker : Space → Program → List Variable → List Cond → Demand → Option Full → Type 0
IsBreaker space program variables context one (Some full) = Breaks space program variables context one full
IsBreaker space program variables context one None = (full : Full) → Breaks space program variables context one full → ⊥

-- a condition that holds in exactly the valid full configurations that don't meet the demand
pub record HoldsWhereUnmet (space : Space) (program : Program) (variables : List Variable) (one : Demand) (cond : Cond) : Type 0 where
  pub law : (full : Full) → Valid space full → holds space full cond ≡ not (is_met (under_variables space full program variables) one)

-- a valid full configuration that meets a condition, where there is one
abbrev pub IsExample : Space → Cond → Option Full → Type 0
IsExample space cond (Some full) = Valid space full × (holds space full cond ≡ true)
IsExample space cond None = (full : Full) → Valid space full → holds space full cond ≡ false
