use Rattle.std.proofs.Common.{◌≡◌, drop, map}
use Rattle.udb_spec.specs.Refutes.{first_wrong_under, first_in_parts}
use Rattle.udb_cond.specs.Steps.{steps_of}
use Rattle.udb_check.proofs.checker.+flaws.Given as goal

abbrev pub invariant-flaw_in_parts-loop-at : goal.invariant-flaw_in_parts-loop-at
invariant-flaw_in_parts-loop-at l = first_in_parts (map (first_wrong_under l.space l.part l.cond) (drop l.at l.parts)) l.param l.place l.at (steps_of l.cells) ≡ first_in_parts (map (first_wrong_under l.space l.part l.cond) l.parts) l.param l.place 0 (steps_of l.cells)
