use Rattle.std.proofs.Common.{arith}
use Rattle.udb_cond.proofs.RangeLemmas.{not_below}
use Rattle.udb_cond.proofs.ranges.at_least_known.Goals as goal

pub returns : goal.returns
returns c = let e = not_below c.args.low c.args.high c.args.given (omega arith) in cc
