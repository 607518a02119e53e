use Rattle.idl_reach.specs.Asked.{is_met}
use Rattle.idl_reach.proofs.MarkedFunctions.{met-here, met-later}
use Rattle.idl_reach.proofs.reaching.is_reached.Goals as goal

pub returns-then-marked_meets : goal.returns-then-marked_meets
returns-then-marked_meets c =
    met-here (is_met c.args.name.now) c.args.functions.now c.args.marks.now c.loop-place.place c.index-functions-place.result c.marked_meets.result c.loop-place-test.true c.index-functions-place.is c.loop-place.invariant c.marked_meets.ensures c.if-marked_meets.true

pub loop-place-preserved : goal.loop-place-preserved
loop-place-preserved c =
    met-later (is_met c.args.name.now) c.args.functions.now c.args.marks.now c.loop-place.place c.index-functions-place.result c.marked_meets.result c.loop-place-test.true c.index-functions-place.is c.loop-place.invariant c.marked_meets.ensures c.if-marked_meets.false
