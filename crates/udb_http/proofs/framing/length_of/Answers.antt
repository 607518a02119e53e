use Rattle.std.proofs.Common.{refl, arith}
use Rattle.udb_http.proofs.LengthLemmas.{step}
use Rattle.udb_http.proofs.framing.length_of.Goals as goal

pub overflow_mul-number : goal.overflow_mul-number
overflow_mul-number c =
    let s = step c.args.digits.now c.loop-digit.digit-index c.loop-digit.number _ c.requires c.loop-digit-test.true
    c.loop-digit.invariant.value c.loop-digit.invariant.below refl in
    record { fits = omega (arith, s.fits) }

pub overflow_add-number : goal.overflow_add-number
overflow_add-number c =
    let s = step c.args.digits.now c.loop-digit.digit-index c.loop-digit.number _ c.requires c.loop-digit-test.true
    c.loop-digit.invariant.value c.loop-digit.invariant.below refl in
    let d = c.from.ensures in
    record { fits = omega (arith, s.fits, d) }

pub loop-digit-preserved : goal.loop-digit-preserved
loop-digit-preserved c =
    let s = step c.args.digits.now c.loop-digit.digit-index c.loop-digit.number _ c.requires c.loop-digit-test.true
    c.loop-digit.invariant.value c.loop-digit.invariant.below refl in
    let d = c.from.ensures in
    record { value = omega (arith, s.value, d); below = omega (arith, s.below, d) }
