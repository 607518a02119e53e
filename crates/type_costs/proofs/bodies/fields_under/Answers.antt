use Rattle.std.proofs.Common.{◌≡◌, IfOk, map, subst, ap, ◌∙◌}
use Rattle.std.specs.Prelude.{flat_map}
use Rattle.type_costs.specs.Prices.{priced, bare_prices}
use Rattle.type_costs.specs.Bodies.{bodies_cost, bodies_of}
use Rattle.type_costs.proofs.PlacedCosts.{fields-are}
use Rattle.type_costs.proofs.bodies.fields_under.Goals as goal

pub returns : goal.returns
returns c =
    let space = c.args.space.now in
    let program = c.args.program.now in
    let prices = bare_prices space program (map priced c.args.functions.now) 0 in
    subst (λ m. IfOk c.csrs_cost.result (λ n. n ≡ m))
    (ap (λ cs. bodies_cost prices (flat_map (λ one. flat_map bodies_of one.fields) cs)) c.as_slice.ensures ∙ fields-are space program (map priced c.args.functions.now) c.requires.functions)
    c.csrs_cost.ensures
