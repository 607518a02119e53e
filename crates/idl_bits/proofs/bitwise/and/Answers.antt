use Rattle.std.proofs.Common.{bit_and}
use Rattle.std.proofs.lemmas.Nat.{and_mod}
use Rattle.idl_bits.proofs.Patterns.{bits-as}
use Rattle.idl_bits.specs.Operators.{and_of}
use Rattle.idl_bits.proofs.bitwise.and.Goals as goal

pub returns : goal.returns
unfolding and_of
returns c =
    bits-as bit_and and_mod c.wrap.result _ _ _ _ _ _ _ _ c.wrap.ensures c.larger_width.ensures.limit c.larger_width.ensures.value c.both_signed.ensures
    c.whole.ensures c.whole-2.ensures
