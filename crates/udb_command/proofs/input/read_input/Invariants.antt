use Rattle.std.proofs.Common.{◌≡◌, ◌≤◌, ◌-◌, ◌++◌, ℕ, List, Some, vec_len}
use Rattle.udb_command.proofs.input.read_input.Given as goal

abbrev pub invariant-reading : goal.invariant-reading
invariant-reading g l =
    (g.S.Source.faults l.initial.input ≤ g.S.Source.faults l.input)
    × ((xs : List ℕ) → g.S.Source.left l.initial.input ≡ Some xs → (rest : List ℕ) × ((g.S.Source.left l.input ≡ Some rest) × (xs ≡ l.bytes.items ++ rest)))

abbrev pub decreases-reading : goal.decreases-reading
decreases-reading g l = 16777217 - vec_len l.bytes
