-- What is known of a condition, case by case: the laws that unfold `known` at one form.
use Rattle.std.specs.Prelude.{◌≡◌, ℕ, List, map}
use Rattle.std.proofs.Common.{sym, ap, ◌∙◌}
use Rattle.udb_base.specs.declared.versions.Requirement.{Requirement}
use Rattle.udb_base.specs.declared.conditions.Value.{Value}
use Rattle.udb_base.specs.declared.conditions.Test.{Test}
use Rattle.udb_base.specs.declared.conditions.Cond.{Cond}
use Rattle.udb_base.specs.declared.conditions.Cond.TheVariants as c
use Rattle.udb_base.specs.declared.conditions.Cond.TheFolds.{fold-Cond, fold-roll-Cond}
use Rattle.udb_base.specs.declared.refutations.Known.{Known}
use Rattle.udb_base.specs.declared.refutations.Known.TheVariants.{Yes, No}
use Rattle.udb_base.specs.declared.spaces.Space.{Space}
use Rattle.udb_spec.specs.Cells.{Step}
use Rattle.udb_spec.specs.Known.{known, known_step, ext_known, param_known, all_known, any_known, one_known, not_known}

module _ (space : Space) (path : List Step) where
  pub known-Always : known space path c.Always ≡ Yes
  unfolding known
  known-Always = ap (fold-Cond Known (known_step space path)) (sym c.rolls-Always) ∙ fold-roll-Cond Known (known_step space path) _

  pub known-Never : known space path c.Never ≡ No
  unfolding known
  known-Never = ap (fold-Cond Known (known_step space path)) (sym c.rolls-Never) ∙ fold-roll-Cond Known (known_step space path) _

  pub known-Ext : (name : List ℕ) (needs : List Requirement) → known space path (c.Ext name needs) ≡ ext_known path 0 space.extensions name needs
  unfolding known
  known-Ext name needs = ap (fold-Cond Known (known_step space path)) (sym (c.rolls-Ext name needs)) ∙ fold-roll-Cond Known (known_step space path) _

  pub known-Param : (name : List ℕ) (test : Test) (given : Value) → known space path (c.Param name test given) ≡ param_known path 0 space.params name test given
  unfolding known
  known-Param name test given = ap (fold-Cond Known (known_step space path)) (sym (c.rolls-Param name test given)) ∙ fold-roll-Cond Known (known_step space path) _

  pub known-All : (parts : List Cond) → known space path (c.All parts) ≡ all_known (map (known space path) parts)
  unfolding known
  known-All parts = ap (fold-Cond Known (known_step space path)) (sym (c.rolls-All parts)) ∙ fold-roll-Cond Known (known_step space path) _

  pub known-Any : (parts : List Cond) → known space path (c.Any parts) ≡ any_known (map (known space path) parts)
  unfolding known
  known-Any parts = ap (fold-Cond Known (known_step space path)) (sym (c.rolls-Any parts)) ∙ fold-roll-Cond Known (known_step space path) _

  pub known-One : (parts : List Cond) → known space path (c.One parts) ≡ one_known (map (known space path) parts)
  unfolding known
  known-One parts = ap (fold-Cond Known (known_step space path)) (sym (c.rolls-One parts)) ∙ fold-roll-Cond Known (known_step space path) _

  pub known-Not : (part : Cond) → known space path (c.Not part) ≡ not_known (known space path part)
  unfolding known
  known-Not part = ap (fold-Cond Known (known_step space path)) (sym (c.rolls-Not part)) ∙ fold-roll-Cond Known (known_step space path) _
