use Rattle.std.proofs.Common.{inl, inr, arith}
use Rattle.udb_cond.proofs.RangeLemmas.{equal-no, equal-yes, equal-unknown}
use Rattle.udb_cond.proofs.ranges.equal_known.Goals as goal

pub returns-then-given-low : goal.returns-then-given-low
returns-then-given-low c = equal-no c.args.low c.args.high c.args.given (omega arith) (inl (omega arith))

pub returns-then-high-given : goal.returns-then-high-given
returns-then-high-given c = equal-no c.args.low c.args.high c.args.given (omega arith) (inr (omega arith))

pub returns-then-low-high : goal.returns-then-low-high
returns-then-low-high c = equal-yes c.args.low c.args.high c.args.given (omega arith) (omega arith) (omega arith) (omega arith)

pub returns-else-low-high : goal.returns-else-low-high
returns-else-low-high c = equal-unknown c.args.low c.args.high c.args.given (omega arith) (omega arith) (omega arith) (omega arith)
