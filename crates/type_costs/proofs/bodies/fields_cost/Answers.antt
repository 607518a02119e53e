use Rattle.std.proofs.Common.{◌∙◌}
use Rattle.type_costs.specs.Prices.{prices_of}
use Rattle.type_costs.specs.Bodies.{bodies_of}
use Rattle.type_costs.proofs.BodyCosts.{bodies-more}
use Rattle.type_costs.proofs.bodies.fields_cost.Goals as goal

pub loop-field-preserved : goal.loop-field-preserved
loop-field-preserved c =
    c.sum-cost.ensures
    ∙ bodies-more (prices_of c.args.prices.now) bodies_of c.args.fields.now c.loop-field.field-index c.field-item.result c.loop-field.cost c.in_ok-field_cost.field-0 c.loop-field-test.true c.field-item.is c.loop-field.invariant
    c.in_ok-field_cost.ensures
