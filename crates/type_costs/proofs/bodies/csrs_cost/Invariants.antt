use Rattle.std.proofs.Common.{◌≡◌, take}
use Rattle.std.specs.Prelude.{flat_map}
use Rattle.type_costs.specs.Prices.{prices_of}
use Rattle.type_costs.specs.Bodies.{bodies_cost, bodies_of}
use Rattle.type_costs.proofs.bodies.csrs_cost.Given as goal

abbrev pub invariant-loop-csr : goal.invariant-loop-csr
invariant-loop-csr l = l.cost ≡ bodies_cost (prices_of l.prices) (flat_map (λ one. flat_map bodies_of one.fields) (take l.csr-index l.csrs))
