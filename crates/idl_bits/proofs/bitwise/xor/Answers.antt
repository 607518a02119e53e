use Rattle.std.proofs.Common.{bit_xor}
use Rattle.std.proofs.lemmas.Nat.{xor_mod}
use Rattle.idl_bits.proofs.Patterns.{bits-as}
use Rattle.idl_bits.specs.Operators.{xor_of}
use Rattle.idl_bits.proofs.bitwise.xor.Goals as goal

pub returns : goal.returns
unfolding xor_of
returns c =
    bits-as bit_xor xor_mod c.wrap.result _ _ _ _ _ _ _ _ c.wrap.ensures c.larger_width.ensures.limit c.larger_width.ensures.value c.both_signed.ensures
    c.whole.ensures c.whole-2.ensures
