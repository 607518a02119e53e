use Rattle.std.proofs.Common.{rules, tests}
use Rattle.std.proofs.lemmas.Iterator.{YieldsList-from_slice}
use Rattle.std.proofs.lemmas.Iterator.Search.{all_from_yields_List}
use Rattle.udb_spec.specs.Versions.{meets}
use Rattle.udb_cond.proofs.atoms.meets_all.Goals as goal

pub returns : goal.returns
returns c =
    let list = c.args.list.now in
    let version = c.args.version.now in
    all_from_yields_List (λ need. meets list need version) _ _ _ c.all.ensures.ran (YieldsList-from_slice c.args.needs.now cc) (λ x b q k. search (rules, tests))
