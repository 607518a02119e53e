use Rattle.std.proofs.Common.{refl}
use Rattle.idl_bits.proofs.Patterns.{wrap-as, difference-whole}
use Rattle.idl_bits.proofs.arithmetic.difference_at.Goals as goal

pub returns : goal.returns
returns c =
    wrap-as c.wrap.result c.args.width c.args.width _ _ _ _ c.wrap.ensures c.requires.limit refl c.both_signed.ensures
    (difference-whole _ _ _ _ c.whole.ensures c.whole-2.ensures)
