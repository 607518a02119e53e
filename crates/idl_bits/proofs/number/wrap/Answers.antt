use Rattle.std.proofs.Common.{sym, ap, ◌∙◌}
use Rattle.idl_bits.proofs.Patterns.{and-ones}
use Rattle.idl_bits.proofs.Modulo.{pattern_of-pos}
use Rattle.idl_bits.proofs.number.wrap.Goals as goal

pub returns : goal.returns
returns c = c.new.ensures ∙ ap (λ x. record { width = c.args.width; signed = c.args.signed; pattern = x }) (and-ones c.args.width c.ones.result c.args.whole c.ones.ensures ∙ sym (pattern_of-pos c.args.width c.args.whole))
