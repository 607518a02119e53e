use Rattle.idl_bits.proofs.Fields.{with_field-is}
use Rattle.idl_bits.proofs.parts.with_field.Goals as goal

pub returns : goal.returns
returns c = with_field-is c.args.pattern c.args.low c.args.count c.ones.result c.args.part c.ones.ensures c.requires.limit c.ranges.pattern.fits c.requires.in_width
