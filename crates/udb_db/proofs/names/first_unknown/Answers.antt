use Rattle.std.proofs.Common.{◌≡◌, None, get_or, arith, subst}
use Rattle.std.proofs.lemmas.List.Elements.{All-more}
use Rattle.udb_lawful.proofs.Lists.{all-of}
use Rattle.udb_db.specs.Phases.{KnowsNames, IsNamed}
use Rattle.udb_db.proofs.names.first_unknown.Goals as goal

pub loop-place-preserved : goal.loop-place-preserved
loop-place-preserved c =
    let none : c.in_ok-named.named ≡ None = cc in
    let here : KnowsNames c.args.space.now c.index-entries-place.result = subst (IsNamed c.args.space.now c.index-entries-place.result) none c.in_ok-named.ensures in
    let is : c.index-entries-place.result ≡ get_or c.args.entries.now c.loop-place.place c.index-entries-place.result = cc in
    All-more (KnowsNames c.args.space.now) c.args.entries.now c.loop-place.place c.index-entries-place.result (omega arith) c.loop-place.invariant (subst (KnowsNames c.args.space.now) is here)

pub returns : goal.returns
returns c = all-of (KnowsNames c.args.space.now) c.args.entries.now c.loop-place.place (omega arith) c.loop-place.invariant
