use Rattle.std.proofs.Common.{◌≡◌, drop}
use Rattle.idl_spec.specs.Deeds.{repeated_for}
use Rattle.idl_reach.specs.Asked.{chosen}
use Rattle.idl_reach.proofs.reaching.mark_reached.Given as goal

abbrev pub invariant-loop-turn : goal.invariant-loop-turn
invariant-loop-turn l =
    repeated_for (drop l._turn-index l.functions) l.functions (chosen l.functions l.marks) ≡ repeated_for l.functions l.functions (chosen l.functions l.initial.marks)
