use Rattle.std.proofs.Common.{arith}
use Rattle.udb_cond.proofs.RangeLemmas.{same-yes, same-no}
use Rattle.udb_cond.proofs.ranges.other_known.Goals as goal

pub returns-then-equality : goal.returns-then-equality
returns-then-equality c = same-yes c.args.low c.args.high 0 (omega arith) _ cc

pub returns-else-equality : goal.returns-else-equality
returns-else-equality c = same-no c.args.low c.args.high 0 (omega arith) _ cc
