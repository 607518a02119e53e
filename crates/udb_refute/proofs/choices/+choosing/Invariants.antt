use Rattle.std.proofs.Common.{◌≡◌, drop, map}
use Rattle.std.specs.List.{list_any}
use Rattle.udb_spec.specs.Known.{known}
use Rattle.udb_cond.specs.Steps.{steps_of}
use Rattle.udb_cond.specs.Tally.{is_unknown}
use Rattle.udb_refute.proofs.choices.+choosing.Given as goal

abbrev pub invariant-choice_among-loop-cond : goal.invariant-choice_among-loop-cond
invariant-choice_among-loop-cond l = list_any is_unknown (map (known l.space (steps_of l.cells)) (drop l.cond-index l.conds)) ≡ list_any is_unknown (map (known l.space (steps_of l.cells)) l.conds)
