use Rattle.idl_bits.proofs.Patterns.{cut-is}
use Rattle.idl_bits.proofs.number.extend.Goals as goal

pub returns : goal.returns
returns c = cut-is c.args.width c.ones.result c.whole.result _ c.requires.limit c.ones.ensures c.whole.ensures
