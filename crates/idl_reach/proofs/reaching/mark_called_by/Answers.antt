use Rattle.std.proofs.Common.{map, ap, ◌∙◌}
use Rattle.std.proofs.lemmas.List.{take_all}
use Rattle.std.specs.List.{list_any}
use Rattle.idl_spec.specs.Deeds.{expr_deeds}
use Rattle.idl_reach.specs.Asked.{chosen, is_call}
use Rattle.idl_reach.proofs.MarkedFunctions.{marked-by, map-more}
use Rattle.idl_reach.proofs.reaching.mark_called_by.Goals as goal

pub returns : goal.returns
returns c =
    ap (chosen c.args.functions.now) (c.loop-f.invariant ∙ ap (map (λ f. list_any (is_call f.name) (expr_deeds c.args.e.now))) (take_all c.loop-f.f-index c.args.functions.now c.loop-f-test.false))
    ∙ marked-by c.args.e.now c.args.functions.now

pub loop-f-preserved : goal.loop-f-preserved
loop-f-preserved c =
    c.in_ok-push.ensures.ok
    ∙ map-more (λ f. list_any (is_call f.name) (expr_deeds c.args.e.now)) c.args.functions.now c.loop-f.f-index c.f-item.result c.loop-f.marks c.calls.result c.loop-f-test.true c.f-item.is c.loop-f.invariant c.calls.ensures
