use Rattle.std.proofs.Common.{◌∙◌}
use Rattle.idl_bits.proofs.Patterns.{same-parts, wrap-as, all-ones}
use Rattle.idl_bits.proofs.Signs.{quotient-none, quotient-some}
use Rattle.idl_bits.proofs.divisions.div.Goals as goal

pub returns-then-divisor-eq0 : goal.returns-then-divisor-eq0
returns-then-divisor-eq0 c =
    same-parts _ _ _ _ _ _ c.new.result c.new.ensures c.larger_width-width.ensures.value c.both_signed-signed.ensures
    (all-ones _ _ _ c.ones.ensures c.larger_width-width.ensures.value)
    ∙ quotient-none c.args.a c.args.b _ _ c.operand-divisor.ensures.number c.if-divisor-eq0.true

pub returns : goal.returns
returns c =
    wrap-as c.wrap.result _ _ _ _ _ _ c.wrap.ensures c.larger_width-width.ensures.limit c.larger_width-width.ensures.value c.both_signed-signed.ensures c.signed_whole.ensures
    ∙ quotient-some c.args.a c.args.b _ _ c.operand-divisor.ensures.number _ _ c.operand-dividend.ensures.number c.if-divisor-eq0.false
