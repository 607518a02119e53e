use Rattle.std.proofs.Common.{◌≡◌, ◌<◌, ◌≤◌, List, [], ◌∷◌, ◌++◌, length, true, false, sym, ap, ◌∙◌, arith}
use Rattle.std.proofs.lemmas.Result.{err_from_is_err_and}
use Rattle.idl_tree.specs.declared.statements.Stmt.{Stmt}
use Rattle.idl_grammar.specs.Outcome as o
use Rattle.idl_grammar.specs.StmtReader as sr
use Rattle.idl_token.specs.Seen.{symbols}
use Rattle.idl_exprs.specs.Gives.{pair}
use Rattle.idl_exprs.proofs.RowSteps.{shortens, rows_stop, rows_fails, rows_turned, joined_none}
use Rattle.idl_exprs.proofs.WidthSteps.{fails_on, stops_by, reads_by}
use Rattle.idl_parse.specs.Statements.{any_stmt, begins_at}
use Rattle.idl_parse.proofs.StmtSteps.{stmts_within, one_takes, stmts_is, one_is, begins_is, else_if_fails, else_if_reads}
use Rattle.idl_parse.proofs.stmts.+stmts.Goals as goal

pub stmts-rows-init : goal.stmts-rows-init
stmts-rows-init t c = rw c.new-found.ensures (joined_none _)

pub stmts-returns-clause-read : goal.stmts-returns-clause-read
stmts-returns-clause-read t c =
    let none : begins_at (o.head (symbols c.rows.tokens.rest.now)) ≡ false = cc in
    stmts_is c.args.depth (symbols c.args.tokens.now.rest.now) ∙ (sym c.rows.invariant ∙ rows_stop sr.begins (any_stmt c.args.depth) c.rows.found c.rows.nesting (symbols c.rows.tokens.rest.now) (begins_is (symbols c.rows.tokens.rest.now) ∙ none))

pub stmts-returns-clause-small : goal.stmts-returns-clause-small
stmts-returns-clause-small t c =
    let none : begins_at (o.head (symbols c.rows.tokens.rest.now)) ≡ false = cc in
    stmts_within c.args.depth (symbols c.args.tokens.now.rest.now) (symbols c.rows.tokens.rest.now) c.rows.found c.rows.nesting
    (stmts_is c.args.depth (symbols c.args.tokens.now.rest.now) ∙ (sym c.rows.invariant ∙ rows_stop sr.begins (any_stmt c.args.depth) c.rows.found c.rows.nesting (symbols c.rows.tokens.rest.now) (begins_is (symbols c.rows.tokens.rest.now) ∙ none)))

pub stmts-returns-in_err-all-clause-read : goal.stmts-returns-in_err-all-clause-read
stmts-returns-in_err-all-clause-read t c =
    let some : begins_at (o.head (symbols c.rows.tokens.rest.now)) ≡ true = cc in
    let p = err_from_is_err_and c.from_residual.result c.from_residual.ensures.1 in
    rw (p.1, p.2) (fails_on _ _ c.in_err-all.field-0.0 _ (λ e. stmts_is c.args.depth (symbols c.args.tokens.now.rest.now) ∙ (sym c.rows.invariant ∙ rows_fails sr.begins (any_stmt c.args.depth) c.rows.found c.rows.nesting (symbols c.rows.tokens.rest.now) _
    (begins_is (symbols c.rows.tokens.rest.now) ∙ some) e)) (stops_by pair _ _ _ _ c.one.ensures c.in_err-all.ensures.none))

pub stmts-rows-smaller : goal.stmts-rows-smaller
stmts-rows-smaller t c = omega (arith, shortens (any_stmt c.args.depth) (one_takes c.args.depth) _ _ _ (reads_by pair _ _ _ _ c.one.ensures c.in_ok-all.ensures.both.1))

pub stmts-rows-preserved : goal.stmts-rows-preserved
stmts-rows-preserved t c =
    let some : begins_at (o.head (symbols c.rows.tokens.rest.now)) ≡ true = cc in
    let all = c.in_ok-found.ensures ∙ ap (λ (xs : List Stmt). xs ++ c.in_ok-all.next ∷ []) c.in_ok-all.ensures.both.0 in
    rows_turned sr.begins (any_stmt c.args.depth) (one_takes c.args.depth) c.rows.found _ c.in_ok-all.next c.rows.nesting c.in_ok-all.high _ (symbols c.rows.tokens.rest.now) (symbols c.one.new.tokens.rest.now)
    (begins_is (symbols c.rows.tokens.rest.now) ∙ some) (reads_by pair _ _ _ _ c.one.ensures c.in_ok-all.ensures.both.1) all (omega arith)
    ∙ c.rows.invariant

pub one-returns : goal.one-returns
one-returns t c = rw (one_is c.args.depth (symbols c.args.tokens.now.rest.now) (omega arith)) c.stmt.ensures

pub else_if-returns-in_err-found-clause-read : goal.else_if-returns-in_err-found-clause-read
else_if-returns-in_err-found-clause-read t c =
    let p = err_from_is_err_and c.from_residual.result c.from_residual.ensures.1 in
    rw (p.1, p.2) (fails_on _ _ c.in_err-found.field-0.0 _ (λ e. else_if_fails c.args.below (symbols c.args.tokens.now.rest.now) _ (omega arith) e) c.in_err-found.ensures.read)

pub else_if-returns-clause-read : goal.else_if-returns-clause-read
else_if-returns-clause-read t c =
    else_if_reads c.args.below (symbols c.args.tokens.now.rest.now) (symbols c.if_stmt.new.tokens.rest.now) c.in_ok-found.found c.in_ok-only.field-0 c.in_ok-found.nesting (omega arith) c.in_ok-found.ensures.read c.in_ok-only.ensures
