use Rattle.std.proofs.Common.{◌≡◌, ◌++◌, drop, map}
use Rattle.idl_reach.specs.Asked.{chosen}
use Rattle.idl_reach.proofs.fields.marked_names.Given as goal

abbrev pub invariant-loop-place : goal.invariant-loop-place
invariant-loop-place l =
    l.names ++ map (λ f. f.name) (chosen (drop l.place l.functions) (drop l.place l.marks)) ≡ map (λ f. f.name) (chosen l.functions l.marks)
