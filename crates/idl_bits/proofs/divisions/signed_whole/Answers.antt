use Rattle.std.proofs.Common.{sym, pos}
use Rattle.idl_bits.proofs.Patterns.{negation-whole}
use Rattle.idl_bits.proofs.Modulo.{pattern_of-small}
use Rattle.idl_bits.proofs.divisions.signed_whole.Goals as goal

pub returns-then-negative : goal.returns-then-negative
returns-then-negative c =
    rw c.if-negative.true (negation-whole c.args.size (pos c.args.size) (sym (pattern_of-small 128 c.args.size c.ranges.size.fits)))

pub returns-else-negative : goal.returns-else-negative
returns-else-negative c = rw c.if-negative.false (sym (pattern_of-small 128 c.args.size c.ranges.size.fits))
