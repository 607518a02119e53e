use Rattle.std.proofs.Common.{◌++◌, ◌∷◌, [], map, ap, ◌∙◌}
use Rattle.idl_spec.specs.Costs.{cost_under}
use Rattle.type_costs.specs.Capped.{capped}
use Rattle.type_costs.specs.Prices.{priced, bare_prices, soft_of}
use Rattle.type_costs.proofs.SameCosts.{prices-next}
use Rattle.type_costs.proofs.prices.function_prices.Goals as goal

pub loop-f-preserved : goal.loop-f-preserved
loop-f-preserved c =
    let space = c.args.space.now in
    let program = c.args.program.now in
    let f = c.f-item.result in
    let before = map priced c.loop-f.prices in
    prices-next space program (soft_of c.args.reached.now c.args.soft) c.args.functions.now c.loop-f.f-index f before (map priced c.push_price.new.prices) c.loop-f-test.true c.f-item.is
    (c.in_ok-push_price.ensures ∙ ap (λ n. before ++ (f.name, capped (cost_under (bare_prices space program before n) f.body.statements)) ∷ []) c.soft_of-own.ensures)
    ∙ c.loop-f.invariant
