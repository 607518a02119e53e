use Rattle.std.proofs.Common.{◌≡◌, drop}
use Rattle.udb_spec.specs.Known.{ext_known}
use Rattle.udb_cond.specs.Steps.{steps_of}
use Rattle.udb_cond.proofs.partial_truth.ext_known.Given as goal

abbrev pub invariant-loop-place : goal.invariant-loop-place
invariant-loop-place l = ext_known (steps_of l.cells) l.place (drop l.place l.extensions) l.name l.needs ≡ ext_known (steps_of l.cells) 0 l.extensions l.name l.needs
