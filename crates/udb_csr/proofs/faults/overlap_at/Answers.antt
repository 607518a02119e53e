use Rattle.std.proofs.Common.{◌∙◌, get_or, sym, ap, subst}
use Rattle.udb_csr.specs.Faults.{SharesBit, IsFieldAt}
use Rattle.udb_csr.specs.Steps.{IsShown, IsOverlap}
use Rattle.udb_csr.proofs.ListLaws.{apart-more, overlap-is, field-at}
use Rattle.udb_csr.proofs.faults.overlap_at.Goals as goal

pub returns-in-Some : goal.returns-in-Some
returns-in-Some c =
    let one : IsFieldAt c.args.csr.now.fields c.loop-earlier.earlier c.index-fields-earlier.result = field-at c.args.csr.now.fields c.as_slice-fields.result.now c.loop-earlier.earlier c.args.at c.index-fields-earlier.result c.as_slice-fields.ensures c.loop-earlier-test.true c.requires.within c.index-fields-earlier.is in
    let other : IsFieldAt c.args.csr.now.fields c.args.at c.index-fields-at.result = record { within = c.requires.within; is = c.index-fields-at.is ∙ ap (λ fs. get_or fs c.args.at c.index-fields-at.result) c.as_slice-fields.ensures } in
    subst (IsOverlap c.args.space.now c.args.csr.now) (sym c.in_ok-told_overlap.ensures)
    (overlap-is c.args.space.now c.args.csr.now c.loop-earlier.earlier c.args.at c.index-fields-earlier.result c.index-fields-at.result c.in-Some.shows c.loop-earlier-test.true one other
    (subst (IsShown (SharesBit c.args.space.now c.args.csr.now c.index-fields-earlier.result c.index-fields-at.result)) c.in-Some.is c.in_ok-shows.ensures))

pub loop-earlier-preserved : goal.loop-earlier-preserved
loop-earlier-preserved c =
    let one : IsFieldAt c.args.csr.now.fields c.loop-earlier.earlier c.index-fields-earlier.result = field-at c.args.csr.now.fields c.as_slice-fields.result.now c.loop-earlier.earlier c.args.at c.index-fields-earlier.result c.as_slice-fields.ensures c.loop-earlier-test.true c.requires.within c.index-fields-earlier.is in
    let other : IsFieldAt c.args.csr.now.fields c.args.at c.index-fields-at.result = record { within = c.requires.within; is = c.index-fields-at.is ∙ ap (λ fs. get_or fs c.args.at c.index-fields-at.result) c.as_slice-fields.ensures } in
    apart-more c.args.space.now c.args.csr.now c.args.at c.loop-earlier.earlier c.index-fields-earlier.result c.index-fields-at.result one other
    (subst (IsShown (SharesBit c.args.space.now c.args.csr.now c.index-fields-earlier.result c.index-fields-at.result)) c.in_default.is c.in_ok-shows.ensures) c.loop-earlier.invariant
