use Rattle.std.proofs.Common.{◌≡◌, ◌++◌, drop}
use Rattle.udb_spec.specs.ProofText.{value_lines}
use Rattle.udb_full.proofs.printing.push_values.Given as goal

abbrev pub invariant-loop-at : goal.invariant-loop-at
invariant-loop-at l = l.out ++ value_lines (drop l.at l.params) (drop l.at l.values) ≡ l.fn.out ++ value_lines l.params l.values
