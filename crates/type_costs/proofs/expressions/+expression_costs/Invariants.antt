use Rattle.std.proofs.Common.{◌≡◌, take}
use Rattle.std.specs.Prelude.{sum_by}
use Rattle.idl_spec.specs.Costs.{expr_cost}
use Rattle.type_costs.specs.Capped.{capped}
use Rattle.type_costs.specs.Prices.{prices_of}
use Rattle.type_costs.proofs.expressions.+expression_costs.Given as goal

abbrev pub invariant-expression_costs-loop-one : goal.invariant-expression_costs-loop-one
invariant-expression_costs-loop-one l = l.cost ≡ capped (sum_by (expr_cost (prices_of l.prices)) (take l.one-index l.all))
