use Rattle.std.proofs.Common.{◌≡◌, ◌+◌, false, map, drop, Some}
use Rattle.udb_spec.specs.Conditions.{choice_meets}
use Rattle.udb_spec.specs.Cells.{kept, choices_of}
use Rattle.udb_cond.specs.Steps.{steps_of}
use Rattle.udb_cond.specs.Tally.{tally}
use Rattle.udb_cond.proofs.partial_truth.choices_known.Given as goal

-- the choices counted so far, with those that are left, are all of them
abbrev pub invariant-loop-at : goal.invariant-loop-at
invariant-loop-at l = tally l.tally.holds l.tally.fails (map (choice_meets l.versions l.needs) (kept (steps_of l.cells) false l.place (l.at + 1) (map (λ v. Some v.version) (drop l.at l.versions)))) ≡ tally false false (map (choice_meets l.versions l.needs) (kept (steps_of l.cells) false l.place 0 (choices_of l.fn.ext)))
