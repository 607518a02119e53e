use Rattle.std.proofs.Common.{sym, arith}
use Rattle.udb_bundle.proofs.Numerals.{count_past}
use Rattle.udb_bundle.proofs.numbers.count_within.Goals as goal

pub returns-in_default-2 : goal.returns-in_default-2
returns-in_default-2 c = sym (count_past c.args.most c.args.digits.now c.in_default.field-0 c.in_default.ensures.value.0 (cc) (omega arith))
