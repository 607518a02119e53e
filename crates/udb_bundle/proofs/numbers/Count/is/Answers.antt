use Rattle.std.proofs.Common.{arith}
use Rattle.udb_bundle.proofs.Numerals.{count_other}
use Rattle.udb_bundle.proofs.numbers.Count.is.Goals as goal

pub returns-in-Err : goal.returns-in-Err
returns-in-Err c = count_other c.args.self.now c.self.inside.digits c.as_str.result.now c.args.number c.in-Err.field-0 (cc) c.as_str.ensures c.in-Err.ensures.value.0 c.self.invariant (omega arith)
