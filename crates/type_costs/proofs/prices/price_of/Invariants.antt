use Rattle.std.proofs.Common.{◌≡◌, drop, map}
use Rattle.type_costs.specs.Prices.{priced, price_among}
use Rattle.type_costs.proofs.prices.price_of.Given as goal

abbrev pub invariant-loop-one : goal.invariant-loop-one
invariant-loop-one l = price_among (map priced (drop l.one-index l.functions)) l.name ≡ price_among (map priced l.functions) l.name
