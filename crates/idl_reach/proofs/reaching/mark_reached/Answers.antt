use Rattle.std.proofs.Common.{drop, ap, ◌+◌, ◌∙◌}
use Rattle.idl_spec.specs.Deeds.{repeated_for, with_called}
use Rattle.idl_reach.specs.Asked.{chosen}
use Rattle.idl_reach.proofs.MarkedFunctions.{turn-next}
use Rattle.idl_reach.proofs.reaching.mark_reached.Goals as goal

pub loop-turn-preserved : goal.loop-turn-preserved
loop-turn-preserved c =
    let fs = c.args.functions.now in
    ap (repeated_for (drop (c.loop-turn._turn-index + 1) fs) fs) (c.in_ok-marks.ensures ∙ ap (λ ms. with_called fs (chosen fs ms)) c.as_slice.ensures)
    ∙ (turn-next fs (chosen fs c.loop-turn.marks) c.loop-turn._turn-index c.loop-turn-test.true ∙ c.loop-turn.invariant)
