use Rattle.std.proofs.Common.{arith}
use Rattle.udb_cond.proofs.RangeLemmas.{not_at_most}
use Rattle.udb_cond.proofs.ranges.above_known.Goals as goal

pub returns : goal.returns
returns c = let e = not_at_most c.args.low c.args.high c.args.given (omega arith) in cc
