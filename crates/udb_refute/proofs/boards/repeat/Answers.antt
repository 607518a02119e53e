use Rattle.std.proofs.Common.{arith}
use Rattle.udb_refute.proofs.BoardLaws.{same-push, same-at}
use Rattle.udb_refute.proofs.boards.repeat.Goals as goal

pub loop-preserved : goal.loop-preserved
loop-preserved g c = same-push c.args.item c.loop.items c.push.new.self c.loop.counter c.in_ok-push.ensures.ok c.loop.invariant

pub returns : goal.returns
returns g c = λ i lt. same-at c.args.item c.loop.items i c.loop.invariant.1 (omega (arith, lt, c.loop.invariant.0))
