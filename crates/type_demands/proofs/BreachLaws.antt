-- Demands that aren't met, and the condition of it.
use Rattle.std.proofs.Common.{◌≡◌, ◌∙◌, ◌&&◌, ◌++◌, Bool, true, false, not, List, [], ◌∷◌, Option, None, Some, map, refl, sym, ap}
use Rattle.std.specs.Prelude.{ℤ}
use Rattle.std.specs.List.{list_all}
use Rattle.std.proofs.lemmas.Bool.{false≢true, and_parts, and_from}
use Rattle.udb_base.specs.declared.names.Name.{Name}
use Rattle.udb_base.specs.declared.conditions.Cond.{Cond}
use Rattle.udb_base.specs.declared.conditions.Cond.TheVariants as c
use Rattle.udb_base.specs.declared.spaces.Space.{Space}
use Rattle.udb_base.specs.declared.spaces.Full.{Full}
use Rattle.udb_spec.specs.Conditions.{holds}
use Rattle.udb_spec.specs.CondLaws.{holds-All, holds-Never, holds-Not}
use Rattle.idl_tree.specs.declared.widths.Width.{Width}
use Rattle.idl_tree.specs.declared.programs.Variable.{Variable}
use Rattle.idl_tree.specs.declared.programs.Program.{Program}
use Rattle.idl_spec.specs.Fields.{bits_scope}
use Rattle.idl_spec.specs.Demands.{Demand, in_range, in_slice, defined, present}
use Rattle.idl_spec.specs.Checks.{is_met}
use Rattle.type_demands.specs.Cases.{HoldsWhereBroken}
use Rattle.type_demands.specs.Presence.{presence}
use Rattle.type_demands.specs.Breaks.{under_variables, IsBreaker, HoldsWhereUnmet, IsExample}
use Rattle.type_demands.proofs.PresenceLaws.{presence-is}

module _ (space : Space) (program : Program) (variables : List Variable) where
  pub range-unmet : (low high : ℤ) (width : Width) (cond : Cond) → HoldsWhereBroken space (bits_scope program variables) (in_range low high width) cond → HoldsWhereUnmet space program variables (in_range low high width) cond
  range-unmet low high width cond h = record { law = h.law }

  pub slice-unmet : (high low of : Width) (cond : Cond) → HoldsWhereBroken space (bits_scope program variables) (in_slice high low of) cond → HoldsWhereUnmet space program variables (in_slice high low of) cond
  slice-unmet high low of cond h = record { law = h.law }

  pub condition-unmet : (x cond : Cond) → cond ≡ c.Not x → HoldsWhereUnmet space program variables (defined x) cond
  condition-unmet x cond e = record { law = λ full valid. ap (holds space full) e ∙ holds-Not space full x }

  pub presence-unmet : (csr field : Name) (cond : Cond) → cond ≡ c.Not (presence program csr field) → HoldsWhereUnmet space program variables (present csr field) cond
  presence-unmet csr field cond e = record {
    law = λ full valid. ap (holds space full) e ∙ (holds-Not space full (presence program csr field) ∙ ap not (presence-is space full field program csr));
  }

  -- ---- under a context

  all-is : (full : Full) (context : List Cond) (cond : Cond) → list_all (λ b. b) (map (holds space full) (context ++ cond ∷ [])) ≡ (list_all (holds space full) context && holds space full cond)
  all-is full [] cond = by (holds space full cond) where
    by : (b : Bool) → (b && true) ≡ b
    by true = refl
    by false = refl
  all-is full (x ∷ xs) cond = ap (λ b. holds space full x && b) (all-is full xs cond) ∙ by (holds space full x) where
    by : (b : Bool) → (b && (list_all (holds space full) xs && holds space full cond)) ≡ ((b && list_all (holds space full) xs) && holds space full cond)
    by true = refl
    by false = refl

  turned : (b : Bool) → not b ≡ true → b ≡ false
  turned true h = absurd (false≢true h)
  turned false h = refl

  pub breaker-from : (context : List Cond) (one : Demand) (cond : Cond) (found : Option Full) → HoldsWhereUnmet space program variables one cond → IsExample space (c.All (context ++ cond ∷ [])) found → IsBreaker space program variables context one found
  breaker-from context one cond (Some full) unmet example =
      let parts : (list_all (holds space full) context ≡ true) × (holds space full cond ≡ true) = and_parts _ _ (sym (holds-All space full (context ++ cond ∷ []) ∙ all-is full context cond) ∙ example.1) in
      record { valid = example.0; context = parts.0; unmet = turned (is_met (under_variables space full program variables) one) (sym (unmet.law full example.0) ∙ parts.1) }
  breaker-from context one cond None unmet none = λ full breaks.
      false≢true (sym (none full breaks.valid) ∙ ((holds-All space full (context ++ cond ∷ []) ∙ all-is full context cond) ∙ and_from (list_all (holds space full) context) (holds space full cond) breaks.context (unmet.law full breaks.valid ∙ ap not breaks.unmet)))

  pub breaker-never : (context : List Cond) (one : Demand) (cond : Cond) → HoldsWhereUnmet space program variables one cond → cond ≡ c.Never → IsBreaker space program variables context one None
  breaker-never context one cond unmet never full breaks =
      false≢true (sym (ap (holds space full) never ∙ holds-Never space full) ∙ (unmet.law full breaks.valid ∙ ap not breaks.unmet))

pub ruleset breach_laws = (range-unmet, slice-unmet, condition-unmet, presence-unmet)
