use Rattle.std.proofs.Common.{take}
use Rattle.udb_spec.specs.Cells.{ExtsWithin}
use Rattle.udb_cond.specs.Steps.{steps_of}
use Rattle.udb_refute.proofs.completions.first_versions.Given as goal

abbrev pub invariant-loop-place : goal.invariant-loop-place
invariant-loop-place l = ExtsWithin (steps_of l.cells) 0 (take l.place l.extensions) l.choices
