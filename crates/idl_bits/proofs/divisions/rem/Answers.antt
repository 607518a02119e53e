use Rattle.std.proofs.Common.{◌∙◌}
use Rattle.idl_bits.proofs.Patterns.{wrap-as}
use Rattle.idl_bits.proofs.Signs.{remainder-none, remainder-some}
use Rattle.idl_bits.proofs.divisions.rem.Goals as goal

pub returns-then-divisor-eq0 : goal.returns-then-divisor-eq0
returns-then-divisor-eq0 c =
    wrap-as c.wrap.result _ _ _ _ _ _ c.wrap.ensures c.larger_width-width.ensures.limit c.larger_width-width.ensures.value c.both_signed-signed.ensures c.whole.ensures
    ∙ remainder-none c.args.a c.args.b _ _ c.operand-divisor.ensures.number c.if-divisor-eq0.true

pub returns : goal.returns
returns c =
    wrap-as c.wrap-2.result _ _ _ _ _ _ c.wrap-2.ensures c.larger_width-width.ensures.limit c.larger_width-width.ensures.value c.both_signed-signed.ensures c.signed_whole.ensures
    ∙ remainder-some c.args.a c.args.b _ _ c.operand-divisor.ensures.number _ _ c.operand-dividend.ensures.number c.if-divisor-eq0.false
