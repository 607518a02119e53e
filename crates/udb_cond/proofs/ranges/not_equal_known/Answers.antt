use Rattle.std.proofs.Common.{arith}
use Rattle.udb_cond.proofs.RangeLemmas.{not_equal}
use Rattle.udb_cond.proofs.ranges.not_equal_known.Goals as goal

pub returns : goal.returns
returns c = let e = not_equal c.args.low c.args.high c.args.given (omega arith) in cc
