use Rattle.std.proofs.Common.{arith}
use Rattle.udb_cond.proofs.RangeLemmas.{below-yes, below-no, below-unknown}
use Rattle.udb_cond.proofs.ranges.below_known.Goals as goal

pub returns-then-high-given : goal.returns-then-high-given
returns-then-high-given c = below-yes c.args.low c.args.high c.args.given (omega arith) (omega arith)

pub returns-then-given-low : goal.returns-then-given-low
returns-then-given-low c = below-no c.args.low c.args.high c.args.given (omega arith) (omega arith)

pub returns-else-given-low : goal.returns-else-given-low
returns-else-given-low c = below-unknown c.args.low c.args.high c.args.given (omega arith) (omega arith) (omega arith)
