-- What a condition says, case by case: the laws that unfold `holds` at one form.
use Rattle.std.specs.Prelude.{◌≡◌, Bool, true, false, not, ℕ, List, map}
use Rattle.std.specs.List.{list_all, list_any}
use Rattle.std.proofs.Common.{sym, ap, ◌∙◌}
use Rattle.udb_base.specs.declared.versions.Requirement.{Requirement}
use Rattle.udb_base.specs.declared.conditions.Value.{Value}
use Rattle.udb_base.specs.declared.conditions.Test.{Test}
use Rattle.udb_base.specs.declared.conditions.Cond.{Cond}
use Rattle.udb_base.specs.declared.conditions.Cond.TheVariants as c
use Rattle.udb_base.specs.declared.conditions.Cond.TheFolds.{fold-Cond, fold-roll-Cond}
use Rattle.udb_base.specs.declared.spaces.Space.{Space}
use Rattle.udb_base.specs.declared.spaces.Full.{Full}
use Rattle.udb_spec.specs.Conditions.{holds, holds_step, present_among, option_passes, value_of, exactly_one}

pub holds-Always : (space : Space) (full : Full) → holds space full c.Always ≡ true
unfolding holds
holds-Always space full = ap (fold-Cond Bool (holds_step space full)) (sym c.rolls-Always) ∙ fold-roll-Cond Bool (holds_step space full) _

pub holds-Never : (space : Space) (full : Full) → holds space full c.Never ≡ false
unfolding holds
holds-Never space full = ap (fold-Cond Bool (holds_step space full)) (sym c.rolls-Never) ∙ fold-roll-Cond Bool (holds_step space full) _

pub holds-Ext : (space : Space) (full : Full) (name : List ℕ) (needs : List Requirement) → holds space full (c.Ext name needs) ≡ present_among space.extensions full.extensions name needs
unfolding holds
holds-Ext space full name needs = ap (fold-Cond Bool (holds_step space full)) (sym (c.rolls-Ext name needs)) ∙ fold-roll-Cond Bool (holds_step space full) _

pub holds-Param : (space : Space) (full : Full) (name : List ℕ) (test : Test) (given : Value) → holds space full (c.Param name test given) ≡ option_passes test (value_of space full name) given
unfolding holds
holds-Param space full name test given = ap (fold-Cond Bool (holds_step space full)) (sym (c.rolls-Param name test given)) ∙ fold-roll-Cond Bool (holds_step space full) _

pub holds-All : (space : Space) (full : Full) (parts : List Cond) → holds space full (c.All parts) ≡ list_all (λ b. b) (map (holds space full) parts)
unfolding holds
holds-All space full parts = ap (fold-Cond Bool (holds_step space full)) (sym (c.rolls-All parts)) ∙ fold-roll-Cond Bool (holds_step space full) _

pub holds-Any : (space : Space) (full : Full) (parts : List Cond) → holds space full (c.Any parts) ≡ list_any (λ b. b) (map (holds space full) parts)
unfolding holds
holds-Any space full parts = ap (fold-Cond Bool (holds_step space full)) (sym (c.rolls-Any parts)) ∙ fold-roll-Cond Bool (holds_step space full) _

pub holds-One : (space : Space) (full : Full) (parts : List Cond) → holds space full (c.One parts) ≡ exactly_one (map (holds space full) parts)
unfolding holds
holds-One space full parts = ap (fold-Cond Bool (holds_step space full)) (sym (c.rolls-One parts)) ∙ fold-roll-Cond Bool (holds_step space full) _

pub holds-Not : (space : Space) (full : Full) (part : Cond) → holds space full (c.Not part) ≡ not (holds space full part)
unfolding holds
holds-Not space full part = ap (fold-Cond Bool (holds_step space full)) (sym (c.rolls-Not part)) ∙ fold-roll-Cond Bool (holds_step space full) _
