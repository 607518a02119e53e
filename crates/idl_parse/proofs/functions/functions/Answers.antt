use Rattle.std.proofs.Common.{◌≡◌, ◌<◌, ◌≤◌, List, [], ◌∷◌, ◌++◌, length, true, false, sym, ap, ◌∙◌, arith}
use Rattle.std.proofs.lemmas.Result.{err_from_is_err_and}
use Rattle.idl_token.specs.declared.kinds.Reserved.TheVariants as r
use Rattle.idl_tree.specs.declared.programs.Function.{Function}
use Rattle.idl_grammar.specs.Outcome as o
use Rattle.idl_grammar.specs.StmtReader as sr
use Rattle.idl_token.specs.Seen.{symbols}
use Rattle.idl_exprs.specs.Gives.{pair}
use Rattle.idl_exprs.proofs.RowSteps.{shortens, rows_stop, rows_fails, rows_turned, joined_none}
use Rattle.idl_exprs.proofs.WidthSteps.{fails_on, stops_by, reads_by}
use Rattle.idl_parse.proofs.StmtSteps.{function_takes}
use Rattle.idl_parse.proofs.functions.functions.Goals as goal

pub rows-init : goal.rows-init
rows-init c = rw c.new-found.ensures (joined_none _)

pub returns : goal.returns
unfolding sr.functions
returns c =
    let none : o.sees (o.is_reserved r.Function) (symbols c.rows.tokens.rest.now) ≡ false = cc in
    sym c.rows.invariant ∙ rows_stop (o.is_reserved r.Function) (sr.function c.args.depth) c.rows.found c.rows.nesting (symbols c.rows.tokens.rest.now) none

pub returns-in_err-all : goal.returns-in_err-all
unfolding sr.functions
returns-in_err-all c =
    let some : o.sees (o.is_reserved r.Function) (symbols c.rows.tokens.rest.now) ≡ true = cc in
    let p = err_from_is_err_and c.from_residual.result c.from_residual.ensures.1 in
    rw (p.1, p.2) (fails_on _ _ c.in_err-all.field-0.0 _ (λ e. sym c.rows.invariant ∙ rows_fails (o.is_reserved r.Function) (sr.function c.args.depth) c.rows.found c.rows.nesting (symbols c.rows.tokens.rest.now) _ some e)
    (stops_by pair _ _ _ _ c.function.ensures c.in_err-all.ensures.none))

pub rows-smaller : goal.rows-smaller
rows-smaller c = omega (arith, shortens (sr.function c.args.depth) (function_takes c.args.depth) (symbols c.rows.tokens.rest.now) _ _ (reads_by pair _ _ _ _ c.function.ensures c.in_ok-all.ensures.both.1))

pub rows-preserved : goal.rows-preserved
rows-preserved c =
    let some : o.sees (o.is_reserved r.Function) (symbols c.rows.tokens.rest.now) ≡ true = cc in
    let all = c.in_ok-found.ensures ∙ ap (λ (xs : List Function). xs ++ c.in_ok-all.next ∷ []) c.in_ok-all.ensures.both.0 in
    rows_turned (o.is_reserved r.Function) (sr.function c.args.depth) (function_takes c.args.depth) c.rows.found _ c.in_ok-all.next c.rows.nesting c.in_ok-all.high _ (symbols c.rows.tokens.rest.now) (symbols c.function.new.tokens.rest.now) some
    (reads_by pair _ _ _ _ c.function.ensures c.in_ok-all.ensures.both.1) all (omega arith)
    ∙ c.rows.invariant
