use Rattle.udb_csr.specs.Steps.{AreApart}
use Rattle.udb_csr.proofs.faults.first_overlap.Given as goal

abbrev pub invariant-loop-at : goal.invariant-loop-at
invariant-loop-at l = AreApart l.space l.csr l.at
