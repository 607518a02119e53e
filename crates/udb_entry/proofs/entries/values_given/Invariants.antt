use Rattle.std.proofs.Common.{◌≡◌, ◌++◌, drop, map}
use Rattle.udb_entry.specs.Entries as spec
use Rattle.udb_entry.proofs.entries.values_given.Given as goal

abbrev pub invariant-loop-pair : goal.invariant-loop-pair
invariant-loop-pair l = l.givens ++ map spec.given_of (drop l.pair-index l.pairs) ≡ map spec.given_of l.pairs
