use Rattle.std.proofs.Common.{bit_or}
use Rattle.std.proofs.lemmas.Nat.{or_mod}
use Rattle.idl_bits.proofs.Patterns.{bits-as}
use Rattle.idl_bits.specs.Operators.{or_of}
use Rattle.idl_bits.proofs.bitwise.or.Goals as goal

pub returns : goal.returns
unfolding or_of
returns c =
    bits-as bit_or or_mod c.wrap.result _ _ _ _ _ _ _ _ c.wrap.ensures c.larger_width.ensures.limit c.larger_width.ensures.value c.both_signed.ensures
    c.whole.ensures c.whole-2.ensures
