use Rattle.std.proofs.Common.{◌≡◌, ◌<◌, ◌≤◌, List, [], ◌∷◌, ◌++◌, length, true, sym, ap, ◌∙◌, arith}
use Rattle.std.proofs.lemmas.Result.{err_from_is_err_and}
use Rattle.idl_token.specs.declared.kinds.Sign.TheVariants as s
use Rattle.idl_tree.specs.declared.programs.Argument.{Argument}
use Rattle.idl_grammar.specs.Outcome as o
use Rattle.idl_grammar.specs.StmtReader as sr
use Rattle.idl_token.specs.Seen.{symbols}
use Rattle.idl_exprs.specs.Gives.{pair}
use Rattle.idl_exprs.specs.Lists.{more_parts}
use Rattle.idl_exprs.proofs.RowSteps.{commas_fails, commas_first, after_less, shortens, more_fails, more_turned}
use Rattle.idl_exprs.proofs.WidthSteps.{fails_on, stops_by, reads_by}
use Rattle.idl_parse.proofs.StmtSteps.{argument_takes}
use Rattle.idl_parse.proofs.functions.argument_list.Goals as goal

pub returns-in_err-first : goal.returns-in_err-first
returns-in_err-first c =
    let p = err_from_is_err_and c.from_residual.result c.from_residual.ensures.1 in
    rw (p.1, p.2) (fails_on _ _ c.in_err-first.field-0.0 _ (λ e. commas_fails (sr.argument c.args.depth) (symbols c.args.tokens.now.rest.now) _ e) c.in_err-first.ensures)

pub rows-init : goal.rows-init
rows-init c =
    let us = symbols c.argument.new.tokens.rest.now in
    ap (λ (xs : List Argument). more_parts (sr.argument c.args.depth) xs c.in_ok-first.low us) c.in_ok-found.ensures
    ∙ sym (commas_first (sr.argument c.args.depth) (argument_takes c.args.depth) (c.in_ok-first.first, c.in_ok-first.low) (symbols c.args.tokens.now.rest.now) us c.in_ok-first.ensures)

pub returns-in_err-all : goal.returns-in_err-all
returns-in_err-all c =
    let some : o.sees (o.is_sign s.Comma) (symbols c.rows.tokens.rest.now) ≡ true = cc in
    let p = err_from_is_err_and c.from_residual-in_err-all.result c.from_residual-in_err-all.ensures.1 in
    rw (p.1, p.2) (fails_on _ _ c.in_err-all.field-0.0 _ (λ e. sym c.rows.invariant ∙ more_fails (sr.argument c.args.depth) c.rows.found c.rows.nesting (symbols c.rows.tokens.rest.now) _ some
    (ap (sr.argument c.args.depth) (sym c.skip.ensures) ∙ e)) (stops_by pair _ _ _ _ c.argument-in-rows.ensures c.in_err-all.ensures.none))

pub rows-smaller : goal.rows-smaller
rows-smaller c =
    let shorter = shortens (sr.argument c.args.depth) (argument_takes c.args.depth) _ _ _ (reads_by pair _ _ _ _ c.argument-in-rows.ensures c.in_ok-all.ensures.both.1) in
    let two : length (o.after (symbols c.rows.tokens.rest.now)) ≤ length (symbols c.rows.tokens.rest.now) = after_less (symbols c.rows.tokens.rest.now) in
    omega (arith, ap length c.skip.ensures)

pub rows-preserved : goal.rows-preserved
rows-preserved c =
    let some : o.sees (o.is_sign s.Comma) (symbols c.rows.tokens.rest.now) ≡ true = cc in
    let all = c.in_ok-found-2.ensures ∙ ap (λ (xs : List Argument). xs ++ c.in_ok-all.next ∷ []) c.in_ok-all.ensures.both.0 in
    more_turned (sr.argument c.args.depth) (argument_takes c.args.depth) c.rows.found _ c.in_ok-all.next c.rows.nesting c.in_ok-all.high _ (symbols c.rows.tokens.rest.now) (symbols c.argument-in-rows.new.tokens.rest.now) some
    (ap (sr.argument c.args.depth) (sym c.skip.ensures) ∙ reads_by pair _ _ _ _ c.argument-in-rows.ensures c.in_ok-all.ensures.both.1) all (omega arith)
    ∙ c.rows.invariant
