use Rattle.idl_bits.proofs.Patterns.{ones-is}
use Rattle.idl_bits.proofs.number.ones.Goals as goal

pub returns : goal.returns
returns c = ones-is c.args.width c.requires.limit
