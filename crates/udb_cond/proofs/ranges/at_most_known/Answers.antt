use Rattle.std.proofs.Common.{arith}
use Rattle.udb_cond.proofs.RangeLemmas.{at_most-yes, at_most-no, at_most-unknown}
use Rattle.udb_cond.proofs.ranges.at_most_known.Goals as goal

pub returns-then-high-given : goal.returns-then-high-given
returns-then-high-given c = at_most-yes c.args.low c.args.high c.args.given (omega arith) (omega arith)

pub returns-then-given-low : goal.returns-then-given-low
returns-then-given-low c = at_most-no c.args.low c.args.high c.args.given (omega arith) (omega arith)

pub returns-else-given-low : goal.returns-else-given-low
returns-else-given-low c = at_most-unknown c.args.low c.args.high c.args.given (omega arith) (omega arith) (omega arith)
