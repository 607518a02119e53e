use Rattle.idl_bits.proofs.Patterns.{same-parts, complement-is}
use Rattle.idl_bits.specs.Operators.{complement_of}
use Rattle.idl_bits.proofs.bitwise.not.Goals as goal

pub returns : goal.returns
unfolding complement_of
returns c =
    same-parts _ _ _ _ _ _ c.new.result c.new.ensures c.width.ensures.value c.signed.ensures
    (complement-is _ _ _ _ _ c.ones.ensures c.width-2.ensures.value c.pattern.ensures.value)
