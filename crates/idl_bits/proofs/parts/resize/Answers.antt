use Rattle.std.proofs.Common.{refl}
use Rattle.idl_bits.proofs.Patterns.{wrap-as}
use Rattle.idl_bits.specs.Operators.{resized_to}
use Rattle.idl_bits.proofs.parts.resize.Goals as goal

pub returns : goal.returns
unfolding resized_to
returns c = wrap-as c.wrap.result _ _ _ _ _ _ c.wrap.ensures c.requires.limit refl c.signed.ensures c.whole.ensures
