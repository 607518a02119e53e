use Rattle.std.proofs.Common.{◌≡◌, drop}
use Rattle.std.specs.List.{list_any}
use Rattle.idl_reach.specs.Asked.{chosen, does, passes}
use Rattle.idl_reach.proofs.reaching.any_marked.Given as goal

abbrev pub invariant-loop-place : goal.invariant-loop-place
invariant-loop-place l =
    list_any (does (passes l.asked)) (chosen (drop l.place l.functions) (drop l.place l.marks)) ≡ list_any (does (passes l.asked)) (chosen l.functions l.marks)
