use Rattle.std.proofs.Common.{map, ap, ◌∙◌}
use Rattle.std.proofs.lemmas.List.{take_all}
use Rattle.udb_spec.specs.Conditions.{same_bytes}
use Rattle.idl_reach.specs.Asked.{chosen}
use Rattle.idl_reach.proofs.MarkedFunctions.{marked-named}
use Rattle.idl_reach.proofs.reaching.mark_named.Goals as goal

pub returns : goal.returns
returns c =
    ap (chosen c.args.functions.now) (c.loop-f.invariant ∙ ap (map (λ f. same_bytes f.name c.args.name.now)) (take_all c.loop-f.f-index c.args.functions.now c.loop-f-test.false))
    ∙ marked-named c.args.name.now c.args.functions.now
