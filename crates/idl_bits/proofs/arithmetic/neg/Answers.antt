use Rattle.idl_bits.proofs.Patterns.{wrap-as, negation-whole}
use Rattle.idl_bits.specs.Operators.{negation_of}
use Rattle.idl_bits.proofs.arithmetic.neg.Goals as goal

pub returns : goal.returns
unfolding negation_of
returns c =
    wrap-as c.wrap.result _ _ _ _ _ _ c.wrap.ensures c.width.ensures.limit c.width.ensures.value c.signed.ensures
    (negation-whole _ _ c.whole.ensures)
