use Rattle.std.proofs.Common.{Some, Err, refl, ap}
use Rattle.udb_bundle.proofs.NameLemmas.{is_name-true, is_name-false}
use Rattle.udb_bundle.proofs.headings.name_of.Goals as goal

pub returns-in-Ok : goal.returns-in-Ok
returns-in-Ok c = rw (is_name-true c.args.text.now c.in-Ok.ensures.ok.1) (ap Some c.in-Ok.ensures.ok.0)

pub returns-in-Err-BadName : goal.returns-in-Err-BadName
returns-in-Err-BadName c = rw (is_name-false c.args.text.now (c.in-Err-BadName.ensures.bad.0 (ap Err c.in-Err-BadName.field-0-is))) refl
