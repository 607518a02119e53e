use Rattle.std.proofs.Common.{◌≡◌, take}
use Rattle.std.specs.Prelude.{map}
use Rattle.std.specs.List.{list_any}
use Rattle.idl_reach.specs.Asked.{chosen, is_met}
use Rattle.idl_reach.proofs.reaching.mark_called.Given as goal

abbrev pub invariant-loop-f : goal.invariant-loop-f
invariant-loop-f l = l.more ≡ map (λ f. list_any (is_met f.name) (chosen l.functions l.marks)) (take l.f-index l.functions)
