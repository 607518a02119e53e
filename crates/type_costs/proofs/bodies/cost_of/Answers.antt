use Rattle.std.proofs.Common.{◌≡◌, IfOk, map, subst, ap, ◌∙◌}
use Rattle.type_costs.specs.Prices.{priced, capped_prices}
use Rattle.type_costs.specs.Bodies.{before_of, soft_in}
use Rattle.type_costs.proofs.PlacedCosts.{cost-is}
use Rattle.type_costs.proofs.bodies.cost_of.Goals as goal

pub returns : goal.returns
returns c =
    let scope = c.args.scope in
    let reached = c.as_slice-names.result.now in
    let fields = c.in_ok-fields.fields in
    subst (λ m. IfOk c.own_cost.result (λ n. n ≡ m))
    (cost-is c.args.space.now c.args.program.now scope c.args.body.now reached fields c.before-called.result.now (map priced c.as_slice.result.now) c.soft_in-soft.result
    (c.as_slice-names.ensures ∙ c.in_ok-reached.ensures)
    c.in_ok-fields.ensures
    (c.before-called.ensures ∙ ap (λ fs. before_of fs scope) c.as_slice-functions.ensures)
    (ap (λ ps. capped_prices (map priced ps)) c.as_slice.ensures ∙ c.in_ok-prices.ensures)
    (c.soft_in-soft.ensures ∙ ap (λ fs. soft_in fs reached fields scope) c.as_slice-functions.ensures))
    c.own_cost.ensures
