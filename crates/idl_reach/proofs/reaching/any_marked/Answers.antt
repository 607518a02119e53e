use Rattle.idl_reach.specs.Asked.{does, passes}
use Rattle.idl_reach.proofs.MarkedFunctions.{met-here, met-later}
use Rattle.idl_reach.proofs.reaching.any_marked.Goals as goal

pub returns-then-marked_does : goal.returns-then-marked_does
returns-then-marked_does c =
    met-here (does (passes c.args.asked)) c.args.functions.now c.args.marks.now c.loop-place.place c.index-functions-place.result c.marked_does.result c.loop-place-test.true c.index-functions-place.is c.loop-place.invariant c.marked_does.ensures c.if-marked_does.true

pub loop-place-preserved : goal.loop-place-preserved
loop-place-preserved c =
    met-later (does (passes c.args.asked)) c.args.functions.now c.args.marks.now c.loop-place.place c.index-functions-place.result c.marked_does.result c.loop-place-test.true c.index-functions-place.is c.loop-place.invariant c.marked_does.ensures c.if-marked_does.false
