use Rattle.std.proofs.Common.{◌≡◌, take}
use Rattle.std.specs.Prelude.{flat_map}
use Rattle.type_costs.specs.Prices.{prices_of}
use Rattle.type_costs.specs.Bodies.{bodies_cost, bodies_of}
use Rattle.type_costs.proofs.bodies.fields_cost.Given as goal

abbrev pub invariant-loop-field : goal.invariant-loop-field
invariant-loop-field l = l.cost ≡ bodies_cost (prices_of l.prices) (flat_map bodies_of (take l.field-index l.fields))
