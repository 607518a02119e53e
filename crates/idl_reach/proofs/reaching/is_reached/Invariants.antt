use Rattle.std.proofs.Common.{◌≡◌, drop}
use Rattle.std.specs.List.{list_any}
use Rattle.idl_reach.specs.Asked.{chosen, is_met}
use Rattle.idl_reach.proofs.reaching.is_reached.Given as goal

abbrev pub invariant-loop-place : goal.invariant-loop-place
invariant-loop-place l =
    list_any (is_met l.name) (chosen (drop l.place l.functions) (drop l.place l.marks)) ≡ list_any (is_met l.name) (chosen l.functions l.marks)
