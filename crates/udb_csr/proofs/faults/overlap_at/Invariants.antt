use Rattle.udb_csr.specs.Steps.{IsApart}
use Rattle.udb_csr.proofs.faults.overlap_at.Given as goal

abbrev pub invariant-loop-earlier : goal.invariant-loop-earlier
invariant-loop-earlier l = IsApart l.space l.csr l.at l.earlier
