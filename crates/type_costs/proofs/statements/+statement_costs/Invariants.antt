use Rattle.std.proofs.Common.{◌≡◌, take}
use Rattle.idl_spec.specs.Costs.{cost_under}
use Rattle.type_costs.specs.Capped.{capped}
use Rattle.type_costs.specs.Prices.{prices_of}
use Rattle.type_costs.proofs.statements.+statement_costs.Given as goal

abbrev pub invariant-block_cost-loop-s : goal.invariant-block_cost-loop-s
invariant-block_cost-loop-s l = l.cost ≡ capped (cost_under (prices_of l.prices) (take l.s-index l.block))
