use Rattle.std.proofs.Common.{◌≡◌, ◌++◌, drop}
use Rattle.udb_spec.specs.ProofText.{choice_lines}
use Rattle.udb_full.proofs.printing.push_choices.Given as goal

abbrev pub invariant-loop-at : goal.invariant-loop-at
invariant-loop-at l = l.out ++ choice_lines (drop l.at l.exts) (drop l.at l.choices) ≡ l.fn.out ++ choice_lines l.exts l.choices
