use Rattle.udb_csr.specs.Steps.{ArePassingNone}
use Rattle.udb_csr.proofs.faults.first_past.Given as goal

abbrev pub invariant-loop-at : goal.invariant-loop-at
invariant-loop-at l = ArePassingNone l.space l.csr l.at
