use Rattle.std.proofs.Common.{map, ap, ◌∙◌}
use Rattle.std.proofs.lemmas.List.{take_all}
use Rattle.std.specs.List.{list_any}
use Rattle.idl_reach.specs.Asked.{chosen, is_met}
use Rattle.idl_reach.proofs.MarkedFunctions.{marked-called}
use Rattle.idl_reach.proofs.reaching.mark_called.Goals as goal

pub returns : goal.returns
returns c =
    ap (chosen c.args.functions.now) (c.loop-f.invariant ∙ ap (map (λ f. list_any (is_met f.name) (chosen c.args.functions.now c.args.marks.now))) (take_all c.loop-f.f-index c.args.functions.now c.loop-f-test.false))
    ∙ marked-called c.args.functions.now (chosen c.args.functions.now c.args.marks.now)
