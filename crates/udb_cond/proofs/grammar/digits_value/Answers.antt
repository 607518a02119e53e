use Rattle.std.proofs.Common.{arith}
use Rattle.udb_cond.proofs.GrammarLemmas.{digit-at, digit-fits, value-more, number-digits}
use Rattle.udb_cond.proofs.grammar.digits_value.Goals as goal

pub overflow_mul-value : goal.overflow_mul-value
overflow_mul-value c =
    let n = number-digits c.args.text.now c.requires in
    let fits = digit-fits c.loop-digit.digit-index c.loop-digit.value 0 (omega (arith, n.1)) c.loop-digit.invariant.1 (omega arith) in
    omega (arith, fits)

pub overflow_sub-digit : goal.overflow_sub-digit
overflow_sub-digit c = (digit-at c.args.text.now c.loop-digit.digit-index (number-digits c.args.text.now c.requires).0 (omega arith)).0

pub overflow_add-value : goal.overflow_add-value
overflow_add-value c =
    let n = number-digits c.args.text.now c.requires in
    let d = digit-at c.args.text.now c.loop-digit.digit-index n.0 (omega arith) in
    let fits = digit-fits c.loop-digit.digit-index c.loop-digit.value c.from.result (omega (arith, n.1)) c.loop-digit.invariant.1 (omega (arith, c.from.ensures, d.1)) in
    omega (arith, fits)

pub loop-digit-preserved : goal.loop-digit-preserved
loop-digit-preserved c =
    let n = number-digits c.args.text.now c.requires in
    rw c.from.ensures (value-more c.args.text.now c.loop-digit.digit-index c.loop-digit.value n.0 (omega arith) n.1 c.loop-digit.invariant.0 c.loop-digit.invariant.1)
