use Rattle.std.proofs.Common.{None, map, ap, ◌∙◌}
use Rattle.type_costs.proofs.Listings.{turns-are}
use Rattle.type_costs.proofs.turns.greatest_turns.Goals as goal

pub returns : goal.returns
returns c =
    c.min.ensures
    ∙ turns-are c.args.bounds.now c.in_ok-no_choices.field-0 c.new.result c.as_slice-params.result.now c.in_ok-greatest.greatest c.requires.scope
    (c.in_ok-no_choices.ensures ∙ ap (map (λ x. None)) c.as_slice.ensures) c.new.ensures c.as_slice-params.ensures c.in_ok-greatest.ensures.value
