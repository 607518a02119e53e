use Rattle.type_issues.specs.Issues.{checks_of}
use Rattle.std.proofs.lemmas.Result.{IfOk-weaker, IfErr-weaker, err_from_is_err_and}
use Rattle.idl_types.proofs.OrderLaws.{refused-name, refused-kinds, refused-width, refused-slice, refused-absence, refused-cost, refused-order, without-fault}
use Rattle.idl_types.proofs.bodies.check_passes.Goals as goal

pub returns-in_err-check_names-clause-first : goal.returns-in_err-check_names-clause-first
returns-in_err-check_names-clause-first c =
    let p = err_from_is_err_and c.from_residual.result c.from_residual.ensures.1 in
    rw (p.1, p.2)
    (refused-name c.args.space.now c.args.program.now c.args.scope c.args.body.now (checks_of c.args.checks.now) c.in_err-check_names.field-0.0 c.in_err-check_names.ensures.first)

pub returns-in_err-check_kinds-clause-first : goal.returns-in_err-check_kinds-clause-first
returns-in_err-check_kinds-clause-first c =
    let p = err_from_is_err_and c.from_residual-in_err-check_kinds.result c.from_residual-in_err-check_kinds.ensures.1 in
    rw (p.1, p.2)
    (refused-kinds c.args.space.now c.args.program.now c.args.scope c.args.body.now (checks_of c.args.checks.now) c.in_ok-check_names.ensures.none c.in_err-check_kinds.field-0.0 c.in_err-check_kinds.ensures.first)

pub returns-in_err-check_demands-clause-first : goal.returns-in_err-check_demands-clause-first
returns-in_err-check_demands-clause-first c =
    let p = err_from_is_err_and c.from_residual-in_err-check_demands.result c.from_residual-in_err-check_demands.ensures.1 in
    rw (p.1, p.2)
    (refused-width c.args.space.now c.args.program.now c.args.scope c.args.body.now (checks_of c.args.checks.now) c.in_ok-check_names.ensures.none c.in_ok-check_kinds.ensures.none c.as_slice-variables.result.now c.as_slice-variables.ensures c.in_err-check_demands.field-0.0 c.in_err-check_demands.ensures.first)

pub returns-in_err-check_demands-2-clause-first : goal.returns-in_err-check_demands-2-clause-first
returns-in_err-check_demands-2-clause-first c =
    let p = err_from_is_err_and c.from_residual-in_err-check_demands-2.result c.from_residual-in_err-check_demands-2.ensures.1 in
    rw (p.1, p.2)
    (refused-slice c.args.space.now c.args.program.now c.args.scope c.args.body.now (checks_of c.args.checks.now) c.in_ok-check_names.ensures.none c.in_ok-check_kinds.ensures.none c.as_slice-variables.result.now c.as_slice-variables.ensures c.in_ok-check_demands.ensures.none c.in_err-check_demands-2.field-0.0 c.in_err-check_demands-2.ensures.first)

pub returns-in_err-check_demands-3-clause-first : goal.returns-in_err-check_demands-3-clause-first
returns-in_err-check_demands-3-clause-first c =
    let p = err_from_is_err_and c.from_residual-in_err-check_demands-3.result c.from_residual-in_err-check_demands-3.ensures.1 in
    rw (p.1, p.2)
    (refused-absence c.args.space.now c.args.program.now c.args.scope c.args.body.now (checks_of c.args.checks.now) c.in_ok-check_names.ensures.none c.in_ok-check_kinds.ensures.none c.as_slice-variables.result.now c.as_slice-variables.ensures c.in_ok-check_demands.ensures.none c.in_ok-check_demands-2.ensures.none c.in_err-check_demands-3.field-0.0 c.in_err-check_demands-3.ensures.first)

pub returns-in_err-check_cost-clause-first : goal.returns-in_err-check_cost-clause-first
returns-in_err-check_cost-clause-first c =
    let p = err_from_is_err_and c.from_residual-in_err-check_cost.result c.from_residual-in_err-check_cost.ensures.1 in
    rw (p.1, p.2)
    (refused-cost c.args.space.now c.args.program.now c.args.scope c.args.body.now (checks_of c.args.checks.now) c.in_ok-check_names.ensures.none c.in_ok-check_kinds.ensures.none c.as_slice-variables.result.now c.as_slice-variables.ensures c.in_ok-check_demands.ensures.none c.in_ok-check_demands-2.ensures.none c.in_ok-check_demands-3.ensures.none c.in_err-check_cost.field-0.0 c.in_err-check_cost.ensures.first)

pub returns-clause-none : goal.returns-clause-none
returns-clause-none c =
    IfOk-weaker c.check_order.result _ _ (λ _ none. without-fault c.args.space.now c.args.program.now c.args.scope c.args.body.now (checks_of c.args.checks.now) c.in_ok-check_names.ensures.none c.in_ok-check_kinds.ensures.none c.as_slice-variables.result.now c.as_slice-variables.ensures c.in_ok-check_demands.ensures.none c.in_ok-check_demands-2.ensures.none c.in_ok-check_demands-3.ensures.none c.in_ok-check_cost.ensures.none none)
    c.check_order.ensures.none

pub returns-clause-first : goal.returns-clause-first
returns-clause-first c =
    IfErr-weaker c.check_order.result _ _ (λ r told. refused-order c.args.space.now c.args.program.now c.args.scope c.args.body.now (checks_of c.args.checks.now) c.in_ok-check_names.ensures.none c.in_ok-check_kinds.ensures.none c.as_slice-variables.result.now c.as_slice-variables.ensures c.in_ok-check_demands.ensures.none c.in_ok-check_demands-2.ensures.none c.in_ok-check_demands-3.ensures.none c.in_ok-check_cost.ensures.none r told)
    c.check_order.ensures.first
