-- Induction over conditions.
use Rattle.std.specs.Prelude.{ℕ, List, [], ◌∷◌, map}
use Rattle.std.proofs.Common.{sym, subst}
use Rattle.udb_base.specs.declared.versions.Requirement.{Requirement}
use Rattle.udb_base.specs.declared.conditions.Value.{Value}
use Rattle.udb_base.specs.declared.conditions.Test.{Test}
use Rattle.udb_base.specs.declared.conditions.Cond.{Cond}
use Rattle.udb_base.specs.declared.conditions.Cond.TheVariants as c
use Rattle.udb_base.specs.declared.conditions.Cond.TheOpen.{Cond-F}
use Rattle.udb_base.specs.declared.conditions.Cond.TheFolds.{ind-Cond, map-Cond}
use Rattle.udb_base.specs.declared.conditions.Cond.TheViews.{roll-Cond}

-- a fact of each part of a list
abbrev pub Each : (Cond → Type 0) → List Cond → Type 0
Each P [] = Unit {0}
Each P (x ∷ xs) = P x × Each P xs

each : (P : Cond → Type 0) (ys : List ((x : Cond) × P x)) → Each P (map (λ e. e.0) ys)
each P [] = tt
each P (y ∷ ys) = (y.1, each P ys)

-- what is to be shown for a fact of all conditions, form by form
pub record Cases-Cond (P : Cond → Type 0) : Type 0 where
  pub always : P c.Always
  pub never : P c.Never
  pub ext : (name : List ℕ) (needs : List Requirement) → P (c.Ext name needs)
  pub param : (name : List ℕ) (test : Test) (given : Value) → P (c.Param name test given)
  pub all : (parts : List Cond) → Each P parts → P (c.All parts)
  pub any : (parts : List Cond) → Each P parts → P (c.Any parts)
  pub one : (parts : List Cond) → Each P parts → P (c.One parts)
  pub not : (part : Cond) → P part → P (c.Not part)

module _ (P : Cond → Type 0) (cases : Cases-Cond P) where
  layer : (y : Cond-F ((e : Cond) × P e)) → P (roll-Cond (map-Cond ((e : Cond) × P e) Cond (λ e. e.0) y))
  layer Cond-F.Always = subst P (sym c.rolls-Always) cases.always
  layer Cond-F.Never = subst P (sym c.rolls-Never) cases.never
  layer (Cond-F.Ext name needs) = subst P (sym (c.rolls-Ext name needs)) (cases.ext name needs)
  layer (Cond-F.Param name test given) = subst P (sym (c.rolls-Param name test given)) (cases.param name test given)
  layer (Cond-F.All parts) = subst P (sym (c.rolls-All (map (λ e. e.0) parts))) (cases.all (map (λ e. e.0) parts) (each P parts))
  layer (Cond-F.Any parts) = subst P (sym (c.rolls-Any (map (λ e. e.0) parts))) (cases.any (map (λ e. e.0) parts) (each P parts))
  layer (Cond-F.One parts) = subst P (sym (c.rolls-One (map (λ e. e.0) parts))) (cases.one (map (λ e. e.0) parts) (each P parts))
  layer (Cond-F.Not part) = subst P (sym (c.rolls-Not part.0)) (cases.not part.0 part.1)

  pub induct-Cond : (x : Cond) → P x
  induct-Cond = ind-Cond P (λ x y is. subst (λ z. P (roll-Cond z)) is (layer y))
