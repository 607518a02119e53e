use Rattle.std.proofs.Common.{◌≡◌, ◌+◌, ◌||◌, drop, map, count_by}
use Rattle.std.specs.List.{list_any}
use Rattle.udb_spec.specs.Known.{known, is_yes, all_known, any_known}
use Rattle.udb_cond.specs.Steps.{steps_of}
use Rattle.udb_cond.specs.Tally.{is_unknown}
use Rattle.udb_cond.proofs.KnownLemmas.{all_from, any_from}
use Rattle.udb_refute.proofs.truth.+truth.Given as goal

abbrev pub invariant-all_truth-loop-cond : goal.invariant-all_truth-loop-cond
invariant-all_truth-loop-cond l = all_from l.undecided (map (known l.space (steps_of l.cells)) (drop l.cond-index l.conds)) ≡ all_known (map (known l.space (steps_of l.cells)) l.conds)

abbrev pub invariant-any_truth-loop-cond : goal.invariant-any_truth-loop-cond
invariant-any_truth-loop-cond l = any_from l.undecided (map (known l.space (steps_of l.cells)) (drop l.cond-index l.conds)) ≡ any_known (map (known l.space (steps_of l.cells)) l.conds)

abbrev pub invariant-one_truth-loop-cond : goal.invariant-one_truth-loop-cond
invariant-one_truth-loop-cond l =
    (l.holding + count_by is_yes (map (known l.space (steps_of l.cells)) (drop l.cond-index l.conds)) ≡ count_by is_yes (map (known l.space (steps_of l.cells)) l.conds))
    × ((l.undecided || list_any is_unknown (map (known l.space (steps_of l.cells)) (drop l.cond-index l.conds))) ≡ list_any is_unknown (map (known l.space (steps_of l.cells)) l.conds))
