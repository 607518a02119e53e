use Rattle.std.proofs.Common.{◌≡◌, ◌+◌, ◌*◌, true, map, length}
use Rattle.udb_spec.specs.Refutes.{refutes_under, each_refutes}
use Rattle.udb_cond.specs.Steps.{steps_of}
use Rattle.udb_refute.specs.Search.{weight}
use Rattle.udb_refute.proofs.search.+searching.Given as goal

abbrev pub decreases-search : goal.decreases-search
decreases-search l = 2 * weight l.space.now (steps_of l.cells.now) + 1

abbrev pub decreases-search_split : goal.decreases-search_split
decreases-search_split l = 2 * weight l.space.now (steps_of l.cells.now)

abbrev pub decreases-search_cut : goal.decreases-search_cut
decreases-search_cut l = 2 * weight l.space.now (steps_of l.cells.now)

abbrev pub invariant-search_split-loop-child : goal.invariant-search_split-loop-child
invariant-search_split-loop-child l = record {
  right : each_refutes (map (refutes_under l.space l.part l.cond) l.parts) l.param l.place 0 (steps_of l.cells) ≡ true;
  count : length l.parts ≡ l.child;
}
