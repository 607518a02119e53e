use Rattle.udb_yaml.proofs.FlowLemmas.{sign_more}
use Rattle.std.proofs.Common.{arith}
use Rattle.udb_yaml.proofs.flow.find_sign.Goals as goal

pub returns : goal.returns
returns c = sign_more c.args.group c.args.bytes.now c.after.result.now c.args.at c.front.result c.closing.result (omega arith) c.if-bytes-at.false c.closing.ensures c.if-bytes-at-ne44.false c.after.ensures c.front.ensures.count
