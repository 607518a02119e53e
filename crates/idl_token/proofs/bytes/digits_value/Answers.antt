use Rattle.std.proofs.Common.{◌+◌, ◌*◌, ◌^◌, ◌∙◌, ap, arith}
use Rattle.idl_token.proofs.DigitLemmas.{too_much, one_more, all_of_them}
use Rattle.idl_token.proofs.bytes.digits_value.Goals as goal

pub returns-in_err-value : goal.returns-in_err-value
returns-in_err-value c =
    rw c.from_residual.ensures (too_much c.args.base c.args.digits.now c.loop-digit.digit-index c.loop-digit.value (2 ^ 128) c.requires c.loop-digit-test.true c.loop-digit.invariant.0
    (rw c.digit_value.ensures at c.in_err-value.ensures))

pub loop-digit-preserved : goal.loop-digit-preserved
loop-digit-preserved c =
    let e = c.in_ok-value.ensures in
    let d = ap (λ n. c.loop-digit.value * c.args.base + n) c.digit_value.ensures in
    (e.1 ∙ d ∙ one_more c.args.base c.args.digits.now c.loop-digit.digit-index c.loop-digit.value c.loop-digit-test.true c.loop-digit.invariant.0, omega (arith, e.0, e.1))

pub returns : goal.returns
returns c = all_of_them c.args.base c.args.digits.now c.loop-digit.digit-index c.loop-digit.value (2 ^ 128) c.loop-digit-test.false c.loop-digit.invariant.0 c.loop-digit.invariant.1
