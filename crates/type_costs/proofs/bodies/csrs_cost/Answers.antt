use Rattle.std.proofs.Common.{ap, ◌∙◌}
use Rattle.std.specs.Prelude.{flat_map}
use Rattle.type_costs.specs.Prices.{prices_of}
use Rattle.type_costs.specs.Bodies.{bodies_cost, bodies_of}
use Rattle.type_costs.proofs.BodyCosts.{bodies-more}
use Rattle.type_costs.proofs.bodies.csrs_cost.Goals as goal

pub loop-csr-preserved : goal.loop-csr-preserved
loop-csr-preserved c =
    let prices = prices_of c.args.prices.now in
    c.sum-cost.ensures
    ∙ bodies-more prices (λ one. flat_map bodies_of one.fields) c.args.csrs.now c.loop-csr.csr-index c.csr-item.result c.loop-csr.cost c.in_ok-fields_cost.field-0 c.loop-csr-test.true c.csr-item.is c.loop-csr.invariant
    (c.in_ok-fields_cost.ensures ∙ ap (λ fs. bodies_cost prices (flat_map bodies_of fs)) c.as_slice.ensures)
