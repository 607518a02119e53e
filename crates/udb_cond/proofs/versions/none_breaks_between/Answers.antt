use Rattle.std.proofs.Common.{◌&&◌, not, ap, rules, tests}
use Rattle.std.proofs.lemmas.Iterator.{YieldsList-from_slice}
use Rattle.std.proofs.lemmas.Iterator.Search.{any_from_yields_List}
use Rattle.udb_spec.specs.Versions.{is_between}
use Rattle.udb_cond.proofs.versions.none_breaks_between.Goals as goal

pub returns : goal.returns
returns c =
    let after = c.args.after.now in
    let last = c.args.last.now in
    ap not (any_from_yields_List (λ u. u.breaking && is_between after last u.version) _ _ _ c.any.ensures.ran (YieldsList-from_slice c.args.list.now cc) (λ x b q k. search (rules, tests)))
