use Rattle.std.proofs.Common.{◌≡◌, drop, map}
use Rattle.udb_spec.specs.Refutes.{refutes_under, each_refutes}
use Rattle.udb_cond.specs.Steps.{steps_of}
use Rattle.udb_check.proofs.checker.+checking.Given as goal

abbrev pub invariant-each_refutes-loop-at : goal.invariant-each_refutes-loop-at
invariant-each_refutes-loop-at l = each_refutes (map (refutes_under l.space l.part l.cond) (drop l.at l.parts)) l.param l.place l.at (steps_of l.cells) ≡ each_refutes (map (refutes_under l.space l.part l.cond) l.parts) l.param l.place 0 (steps_of l.cells)
