use Rattle.std.proofs.Common.{◌≡◌, false, true, map, drop}
use Rattle.udb_base.specs.declared.conditions.Value.TheVariants.{Word}
use Rattle.udb_spec.specs.Conditions.{passes}
use Rattle.udb_spec.specs.Cells.{kept}
use Rattle.udb_cond.specs.Steps.{steps_of}
use Rattle.udb_cond.specs.Tally.{tally}
use Rattle.udb_cond.proofs.partial_truth.words_known.Given as goal

-- the values counted so far, with those that are left, are all of them
abbrev pub invariant-loop-at : goal.invariant-loop-at
invariant-loop-at l = tally l.tally.holds l.tally.fails (map (λ x. passes l.test x l.given) (kept (steps_of l.cells) true l.place l.at (map Word (drop l.at l.words)))) ≡ tally false false (map (λ x. passes l.test x l.given) (kept (steps_of l.cells) true l.place 0 (map Word l.words)))
