use Rattle.std.proofs.Common.{length, arith, sym, ap, subst}
use Rattle.udb_csr.specs.Faults.{PassesLength}
use Rattle.udb_csr.specs.Steps.{IsShown, IsPassing}
use Rattle.udb_csr.proofs.ListLaws.{past-is, passing-more, no-past, slice-field}
use Rattle.udb_csr.proofs.faults.first_past.Goals as goal

pub returns-in-Some : goal.returns-in-Some
returns-in-Some c =
    subst (IsPassing c.args.space.now c.args.csr.now) (sym c.in_ok-told_past.ensures)
    (past-is c.args.space.now c.args.csr.now c.loop-at.at c.index-fields-at.result c.in-Some.shows (slice-field c.args.csr.now.fields c.as_slice-fields.result.now c.loop-at.at c.index-fields-at.result c.as_slice-fields.ensures c.loop-at-test.true c.index-fields-at.is)
    (subst (IsShown (PassesLength c.args.space.now c.args.csr.now c.index-fields-at.result)) c.in-Some.is c.in_ok-shows.ensures))

pub loop-at-preserved : goal.loop-at-preserved
loop-at-preserved c =
    passing-more c.args.space.now c.args.csr.now c.loop-at.at c.index-fields-at.result (slice-field c.args.csr.now.fields c.as_slice-fields.result.now c.loop-at.at c.index-fields-at.result c.as_slice-fields.ensures c.loop-at-test.true c.index-fields-at.is)
    (subst (IsShown (PassesLength c.args.space.now c.args.csr.now c.index-fields-at.result)) c.in_default.is c.in_ok-shows.ensures) c.loop-at.invariant

pub returns : goal.returns
returns c = no-past c.args.space.now c.args.csr.now c.loop-at.at (omega (arith, ap length c.as_slice-fields.ensures, c.loop-at-test.false)) c.loop-at.invariant
