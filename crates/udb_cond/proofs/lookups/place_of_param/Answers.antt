use Rattle.std.proofs.Common.{rules, tests}
use Rattle.std.proofs.lemmas.Iterator.{YieldsList-from_slice}
use Rattle.std.proofs.lemmas.Iterator.Search.{position_from_yields_List}
use Rattle.udb_spec.specs.Conditions.{same_bytes}
use Rattle.udb_cond.proofs.lookups.place_of_param.Goals as goal

pub returns : goal.returns
returns c =
    let name = c.args.name.now in
    position_from_yields_List (λ x. same_bytes x.name name) _ _ _ c.position.ensures.ran (YieldsList-from_slice c.args.params.now cc) (λ x b q k. search (rules, tests))
