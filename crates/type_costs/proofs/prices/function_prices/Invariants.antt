use Rattle.std.proofs.Common.{◌≡◌, [], drop, map}
use Rattle.idl_spec.specs.Costs.{function_prices}
use Rattle.type_costs.specs.Prices.{priced, capped_prices, soft_of}
use Rattle.type_costs.proofs.prices.function_prices.Given as goal

abbrev pub invariant-loop-f : goal.invariant-loop-f
invariant-loop-f l =
    capped_prices (function_prices l.space l.program (soft_of l.reached l.soft) (map priced l.prices) (drop l.f-index l.functions))
    ≡ capped_prices (function_prices l.space l.program (soft_of l.reached l.soft) [] l.functions)
