-- Cases that are small enough for the search.
use Rattle.std.specs.Prelude.{◌<◌, ◌-◌, ◌^◌, length}
use Rattle.udb_base.specs.declared.conditions.Cond.{Cond}
use Rattle.udb_base.specs.declared.refutations.Partial.{Partial}
use Rattle.udb_base.specs.declared.spaces.Space.{Space}
use Rattle.udb_spec.specs.Constraints.{constraints}
use Rattle.udb_spec.specs.ProofText.{HasShortPlaces}
use Rattle.udb_refute.specs.Search.{HasShortLists}

pub record IsShort (space : Space) (part : Partial) : Type 0 where
  pub extensions : length space.extensions < 2 ^ 28
  pub params : length space.params < 2 ^ 28
  pub constraints : length part.constraints < 2 ^ 28

pub record IsSmall (space : Space) (part : Partial) : Type 0 where
  pub short : IsShort space part
  pub lists : HasShortLists space
  pub places : HasShortPlaces space
  pub few : (asked : Cond) → length (constraints space part asked) < 2 ^ 32 - 1
