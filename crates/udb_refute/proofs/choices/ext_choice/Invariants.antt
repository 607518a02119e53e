use Rattle.std.proofs.Common.{◌≡◌, List, drop}
use Rattle.udb_base.specs.declared.versions.Requirement.{Requirement}
use Rattle.udb_spec.specs.Cells.{Step}
use Rattle.udb_spec.specs.Known.{ext_known}
use Rattle.udb_refute.proofs.choices.ext_choice.Given as goal

abbrev pub invariant-loop-place : goal.invariant-loop-place
invariant-loop-place l = (path : List Step) (needs : List Requirement) → ext_known path l.place (drop l.place l.extensions) l.name needs ≡ ext_known path 0 l.extensions l.name needs
