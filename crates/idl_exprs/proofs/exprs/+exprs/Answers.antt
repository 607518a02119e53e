use Rattle.std.proofs.Common.{◌≡◌, ◌≤◌, ◌+◌, ◌-◌, List, [], ◌∷◌, ◌++◌, length, true, Ok, sym, ap, ◌∙◌, arith}
use Rattle.std.proofs.lemmas.Result.{err_from_is_err_and}
use Rattle.idl_token.specs.declared.kinds.Sign.TheVariants as s
use Rattle.idl_tree.specs.declared.expressions.Expr.{Expr}
use Rattle.idl_grammar.specs.Outcome as o
use Rattle.idl_grammar.specs.ExprReader as er
use Rattle.idl_token.specs.Seen.{symbols}
use Rattle.idl_exprs.specs.Exprs.{part_of}
use Rattle.idl_exprs.specs.Steps as step
use Rattle.idl_exprs.specs.declared.progress.Step.{Step}
use Rattle.idl_exprs.proofs.WidthSteps.{fails_on, stops_by, reads_by}
use Rattle.idl_exprs.specs.Gives.{pair}
use Rattle.idl_exprs.specs.Lists.{more_parts}
use Rattle.idl_exprs.proofs.RowSteps.{commas_fails, commas_first, more_fails, more_turned}
use Rattle.idl_exprs.proofs.ExprSteps.{part_none, part_is, part_read, expr_takes, braced_reads, braced_fails, seen_less}
use Rattle.idl_exprs.proofs.exprs.+exprs.Goals as goal

pub args-returns-in_err-first-clause-read : goal.args-returns-in_err-first-clause-read
args-returns-in_err-first-clause-read t c =
    let p = err_from_is_err_and c.from_residual.result c.from_residual.ensures.1 in
    rw (p.1, p.2) (fails_on _ _ c.in_err-first.field-0.0 _ (λ e. commas_fails (er.expr c.args.depth) (symbols c.args.tokens.now.rest.now) _ e) c.in_err-first.ensures.read)

pub args-loop-alloc-init : goal.args-loop-alloc-init
args-loop-alloc-init t c =
    let us = symbols c.expr_part.new.tokens.rest.now in
    let all : c.in_ok-found.found ≡ c.in_ok-first.first ∷ [] = c.in_ok-found.ensures ∙ ap (λ (x : Expr). x ∷ []) c.into_inner.ensures in (
      ap (λ (xs : List Expr). more_parts (er.expr c.args.depth) xs c.in_ok-first.low us) all
          ∙ sym (commas_first (er.expr c.args.depth) (expr_takes c.args.depth) (c.in_ok-first.first, c.in_ok-first.low) (symbols c.args.tokens.now.rest.now) us c.in_ok-first.ensures.read),
      c.in_ok-first.ensures.small,
    )

pub args-returns-in_err-all-clause-read : goal.args-returns-in_err-all-clause-read
args-returns-in_err-all-clause-read t c =
    let comma : o.sees (o.is_sign s.Comma) (symbols c.loop-alloc.tokens.rest.now) ≡ true = cc in
    let p = err_from_is_err_and c.from_residual-in_err-all.result c.from_residual-in_err-all.ensures.1 in
    rw (p.1, p.2) (fails_on _ _ c.in_err-all.field-0.0 _ (λ e. sym c.loop-alloc.invariant.0 ∙ more_fails (er.expr c.args.depth) c.loop-alloc.found c.loop-alloc.nesting (symbols c.loop-alloc.tokens.rest.now) _ comma
    (ap (er.expr c.args.depth) (sym c.skip.ensures) ∙ e)) (stops_by pair _ _ _ _ c.expr_part-in-loop-alloc.ensures.read c.in_err-all.ensures.none))

pub args-loop-alloc-smaller : goal.args-loop-alloc-smaller
args-loop-alloc-smaller t c =
    let comma : o.sees (o.is_sign s.Comma) (symbols c.loop-alloc.tokens.rest.now) ≡ true = cc in
    let read = part_read c.args.depth er.any (symbols c.skip.new.self.rest.now) _ (c.in_ok-all.next, c.in_ok-all.high) (reads_by pair _ _ _ _ c.expr_part-in-loop-alloc.ensures.read c.in_ok-all.ensures.both.1) in
    let shorter = read.shorter in
    let less = seen_less s.Comma (symbols c.loop-alloc.tokens.rest.now) comma in
    omega (arith, ap length c.skip.ensures)

pub args-loop-alloc-preserved : goal.args-loop-alloc-preserved
args-loop-alloc-preserved t c =
    let comma : o.sees (o.is_sign s.Comma) (symbols c.loop-alloc.tokens.rest.now) ≡ true = cc in
    let reads : er.expr c.args.depth (symbols c.skip.new.self.rest.now) ≡ Ok ((c.in_ok-all.next, c.in_ok-all.high), symbols c.expr_part-in-loop-alloc.new.tokens.rest.now) = reads_by pair _ _ _ _ c.expr_part-in-loop-alloc.ensures.read c.in_ok-all.ensures.both.1 in
    let read = part_read c.args.depth er.any (symbols c.skip.new.self.rest.now) _ (c.in_ok-all.next, c.in_ok-all.high) reads in
    let all = c.in_ok-found-2.ensures ∙ (ap (λ (xs : List Expr). xs ++ c.into_inner-in-loop-alloc.result ∷ []) c.in_ok-all.ensures.both.0 ∙ ap (λ (x : Expr). c.loop-alloc.found ++ x ∷ []) c.into_inner-in-loop-alloc.ensures) in
    let low : c.loop-alloc.nesting ≤ c.args.depth = c.loop-alloc.invariant.1 in
    let high : c.in_ok-all.high ≤ c.args.depth = read.small in (
      more_turned (er.expr c.args.depth) (expr_takes c.args.depth) c.loop-alloc.found _ c.in_ok-all.next c.loop-alloc.nesting c.in_ok-all.high _ (symbols c.loop-alloc.tokens.rest.now) (symbols c.expr_part-in-loop-alloc.new.tokens.rest.now)
          comma (ap (er.expr c.args.depth) (sym c.skip.ensures) ∙ reads) all c.max-nesting.ensures
          ∙ c.loop-alloc.invariant.0,
      omega (arith, c.max-nesting.ensures),
    )

pub braced-returns-in_err-found-clause-read : goal.braced-returns-in_err-found-clause-read
braced-returns-in_err-found-clause-read t c =
    let p = err_from_is_err_and c.from_residual.result c.from_residual.ensures.1 in
    rw (p.1, p.2) (fails_on _ _ c.in_err-found.field-0.0 _ (λ e. braced_fails c.args.depth (er.expr_part c.args.depth) (symbols c.args.tokens.now.rest.now) _ e)
    (c.in_err-found.ensures.read (er.joined c.args.depth (er.expr_part c.args.depth) (symbols c.args.tokens.now.rest.now)) (er.repeated c.args.depth (er.expr_part c.args.depth) (symbols c.args.tokens.now.rest.now)) c.join-first.ensures.read c.repeat-second.ensures.read))

pub braced-overflow_add-result : goal.braced-overflow_add-result
braced-overflow_add-result t c =
    let small : c.in_ok-found.nesting ≤ c.args.depth = c.in_ok-found.ensures.small c.args.depth c.join-first.ensures.small c.repeat-second.ensures.small in omega arith

pub braced-returns-clause-read : goal.braced-returns-clause-read
braced-returns-clause-read t c =
    braced_reads c.args.depth (er.expr_part c.args.depth) (symbols c.args.tokens.now.rest.now) (symbols c.farther.new.tokens.rest.now) c.in_ok-found.found c.in_ok-found.nesting (c.in_ok-found.nesting + 1)
    (c.in_ok-found.ensures.read (er.joined c.args.depth (er.expr_part c.args.depth) (symbols c.args.tokens.now.rest.now)) (er.repeated c.args.depth (er.expr_part c.args.depth) (symbols c.args.tokens.now.rest.now)) c.join-first.ensures.read c.repeat-second.ensures.read) (omega arith)

pub braced-returns-clause-small : goal.braced-returns-clause-small
braced-returns-clause-small t c =
    let small : c.in_ok-found.nesting ≤ c.args.depth = c.in_ok-found.ensures.small c.args.depth c.join-first.ensures.small c.repeat-second.ensures.small in omega arith

pub expr_part-returns-then-depth-eq0-clause-read : goal.expr_part-returns-then-depth-eq0-clause-read
expr_part-returns-then-depth-eq0-clause-read t c = part_none c.args.depth (part_of c.args.what) (symbols c.args.tokens.now.rest.now) c.if-depth-eq0.true

pub expr_part-returns-in_err-step-clause-read : goal.expr_part-returns-in_err-step-clause-read
expr_part-returns-in_err-step-clause-read t c =
    let p = err_from_is_err_and c.from_residual.result c.from_residual.ensures.1 in
    rw (p.1, p.2) (fails_on _ _ c.in_err-step.field-0.0 _ (λ e. part_is c.args.depth (part_of c.args.what) (symbols c.args.tokens.now.rest.now) (omega arith) ∙ e) c.in_err-step.ensures.leads)

pub expr_part-loop-step-init : goal.expr_part-loop-step-init
expr_part-loop-step-init t c = (part_is c.args.depth (part_of c.args.what) (symbols c.args.tokens.now.rest.now) (omega arith) ∙ c.in_ok-step.ensures.leads, c.in_ok-step.ensures.fits)

pub expr_part-returns-in-Done-clause-small : goal.expr_part-returns-in-Done-clause-small
expr_part-returns-in-Done-clause-small t c =
    let read = part_read c.args.depth (part_of c.args.what) (symbols c.args.tokens.now.rest.now) (symbols c.loop-step.tokens.rest.now) (c.in-Done.found, c.in-Done.nesting)
    (c.loop-step.invariant.0 ∙ ap (λ (x : Step). step.awaits (c.args.depth - 1) (part_of c.args.what) x (symbols c.loop-step.tokens.rest.now)) c.in-Done.is) in
    read.small
