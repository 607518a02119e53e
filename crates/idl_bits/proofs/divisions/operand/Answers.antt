use Rattle.std.proofs.Common.{sym, ap, ◌∙◌}
use Rattle.std.proofs.Common.{pos}
use Rattle.idl_bits.specs.Number.{extension}
use Rattle.idl_bits.proofs.Signs.{beside-signed, beside-unsigned}
use Rattle.idl_bits.proofs.divisions.operand.Goals as goal

pub returns-then-both_signed-clause-number : goal.returns-then-both_signed-clause-number
returns-then-both_signed-clause-number c = c.magnitude_of.ensures.number ∙ sym (beside-signed c.args.a c.args.b (sym c.if-both_signed.ensures))

pub returns-else-both_signed-clause-number : goal.returns-else-both_signed-clause-number
returns-else-both_signed-clause-number c =
    ap pos (c.extend.ensures ∙ ap (λ w. extension w c.args.a) c.larger_width.ensures.value) ∙ sym (beside-unsigned c.args.a c.args.b (sym c.if-both_signed.ensures))
