use Rattle.std.proofs.Common.{◌≡◌, ◌≤◌, length, sym, ap, ◌∙◌, arith, rules, Some, None}
use Rattle.std.proofs.lemmas.Result.{err_from_is_err_and}
use Rattle.idl_grammar.specs.Outcome as o
use Rattle.idl_grammar.specs.WidthReader as wr
use Rattle.idl_grammar.proofs.WidthAgain.{sums_stop}
use Rattle.idl_token.specs.Seen.{symbols}
use Rattle.idl_exprs.specs.Gives.{triple, widths_below}
use Rattle.idl_exprs.specs.Widths.{part_of, sum_sign_at}
use Rattle.idl_exprs.proofs.WidthSteps.{below_is, part_atom, part_term, part_whole, part_factor, part_product, below_small, term_read, sum_sign_none, fails_on, sums_refused, sums_fails, sums_turned, after_less, reads_by}
use Rattle.idl_exprs.proofs.widths.+widths.Goals as goal

pub below-returns : goal.below-returns
below-returns t c = rw (below_is c.args.depth (part_of c.args.part) (symbols c.args.tokens.now.rest.now) (omega arith)) c.width_part.ensures

pub width_part-returns-in-Atom : goal.width_part-returns-in-Atom
width_part-returns-in-Atom t c = rw c.in-Atom.is (rw (part_atom c.args.depth (symbols c.args.tokens.now.rest.now)) (search rules))

pub width_part-returns-in-Term : goal.width_part-returns-in-Term
width_part-returns-in-Term t c = rw c.in-Term.is (rw (part_term c.args.depth (symbols c.args.tokens.now.rest.now)) (search rules))

pub width_part-returns-in_err-first-in-Whole : goal.width_part-returns-in_err-first-in-Whole
width_part-returns-in_err-first-in-Whole t c = rw c.in-Whole.is (rw (part_whole c.args.depth (symbols c.args.tokens.now.rest.now)) (search rules))

pub width_part-returns-in_ok-first-in-Whole : goal.width_part-returns-in_ok-first-in-Whole
width_part-returns-in_ok-first-in-Whole t c = rw c.in-Whole.is (rw (part_whole c.args.depth (symbols c.args.tokens.now.rest.now)) (search rules))

pub width_part-returns-in-Factor : goal.width_part-returns-in-Factor
width_part-returns-in-Factor t c = rw c.in-Factor.is (rw (part_factor c.args.depth (symbols c.args.tokens.now.rest.now)) (search rules))

pub width_part-returns-in-Product : goal.width_part-returns-in-Product
width_part-returns-in-Product t c = rw c.in-Product.is (rw (part_product c.args.depth (symbols c.args.tokens.now.rest.now)) (search rules))

pub after_number-overflow_add-result : goal.after_number-overflow_add-result
after_number-overflow_add-result t c = let small = below_small c.args.depth wr.factor _ _ _ _ _ (omega arith) c.in_ok-right.ensures in omega arith

pub factor_parens-overflow_add-result : goal.factor_parens-overflow_add-result
factor_parens-overflow_add-result t c = let small = below_small c.args.depth wr.product _ _ _ _ _ (omega arith) c.in_ok-inner.ensures in omega arith

pub greatest-overflow_add-result : goal.greatest-overflow_add-result
greatest-overflow_add-result t c =
    let one = below_small c.args.depth wr.whole _ _ _ _ _ (omega arith) c.in_ok-left.ensures in
    let two = below_small c.args.depth wr.whole _ _ _ _ _ (omega arith) (reads_by triple _ _ _ _ c.below-2.ensures c.in_ok-left-3.ensures.both.1) in
    omega arith

pub parens-overflow_add-low : goal.parens-overflow_add-low
parens-overflow_add-low t c = let small = below_small c.args.depth wr.term _ _ _ _ _ (omega arith) c.in_ok-first.ensures in omega arith

pub sums-overflow_add-nesting : goal.sums-overflow_add-nesting
sums-overflow_add-nesting t c = let small = below_small c.args.depth wr.term _ _ _ _ _ (omega arith) c.in_ok-right.ensures in omega arith

pub sums-returns : goal.sums-returns
sums-returns t c =
    let seen : sum_sign_at (o.head (symbols c.loop-sign.tokens.rest.now)) ≡ None = sym c.next_sum_sign.ensures ∙ c.in_default.is in
    sym c.loop-sign.invariant ∙ sums_stop c.args.depth (widths_below c.args.depth) c.args.depth (c.loop-sign.left, c.loop-sign.may, c.loop-sign.nesting) (symbols c.loop-sign.tokens.rest.now) (sum_sign_none (symbols c.loop-sign.tokens.rest.now) seen)

pub sums-returns-then-nesting-from : goal.sums-returns-then-nesting-from
sums-returns-then-nesting-from t c =
    let seen : sum_sign_at (o.head (symbols c.loop-sign.tokens.rest.now)) ≡ Some c.in-Some.sign = sym c.next_sum_sign.ensures ∙ c.in-Some.is in
    sym c.loop-sign.invariant ∙ sums_refused c.args.depth (widths_below c.args.depth) c.args.depth (c.loop-sign.left, c.loop-sign.may, c.loop-sign.nesting) (symbols c.loop-sign.tokens.rest.now) c.in-Some.sign seen (omega arith)

pub sums-returns-in_err-right : goal.sums-returns-in_err-right
sums-returns-in_err-right t c =
    let seen : sum_sign_at (o.head (symbols c.loop-sign.tokens.rest.now)) ≡ Some c.in-Some.sign = sym c.next_sum_sign.ensures ∙ c.in-Some.is in
    let p = err_from_is_err_and c.from_residual.result c.from_residual.ensures.1 in
    rw (p.1, p.2) (fails_on _ _ c.in_err-right.field-0.0 _ (λ e. sym c.loop-sign.invariant ∙ sums_fails c.args.depth (widths_below c.args.depth) c.args.depth (c.loop-sign.left, c.loop-sign.may, c.loop-sign.nesting) (symbols c.loop-sign.tokens.rest.now) _ c.in-Some.sign seen (omega arith)
    (ap (widths_below c.args.depth wr.term) (sym c.skip.ensures) ∙ e)) c.in_err-right.ensures)

pub sums-loop-sign-smaller : goal.sums-loop-sign-smaller
sums-loop-sign-smaller t c =
    let one = term_read c.args.depth _ _ _ _ _ (omega arith) c.in_ok-right.ensures in
    let shorter = one.shorter in
    let two : length (o.after (symbols c.loop-sign.tokens.rest.now)) ≤ length (symbols c.loop-sign.tokens.rest.now) = after_less (symbols c.loop-sign.tokens.rest.now) in
    omega (arith, ap length c.skip.ensures)

pub sums-loop-sign-preserved : goal.sums-loop-sign-preserved
sums-loop-sign-preserved t c =
    let seen : sum_sign_at (o.head (symbols c.loop-sign.tokens.rest.now)) ≡ Some c.in-Some.sign = sym c.next_sum_sign.ensures ∙ c.in-Some.is in
    sums_turned c.args.depth (widths_below c.args.depth) c.loop-sign.left c.in_ok-right.right c.in_ok-left.left c.loop-sign.may _ c.loop-sign.nesting c.in_ok-right.inner _ (symbols c.loop-sign.tokens.rest.now) (symbols c.below.new.tokens.rest.now) c.in-Some.sign seen (omega arith)
    (ap (widths_below c.args.depth wr.term) (sym c.skip.ensures) ∙ c.in_ok-right.ensures) (c.in_ok-left.ensures ∙ c.sum.ensures) (omega arith)
    ∙ c.loop-sign.invariant
