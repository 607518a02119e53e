use Rattle.udb_db.proofs.Steps.{searched_none}
use Rattle.udb_db.proofs.completing.answer_of.Goals as goal

pub returns-in_ok-lines-in-Refuted : goal.returns-in_ok-lines-in-Refuted
returns-in_ok-lines-in-Refuted c = searched_none c.args.space.now c.args.part.now c.args.found.now _ c.in_ok-lines-in-Refuted.lines c.requires c.in-Refuted.is c.in_ok-lines-in-Refuted.ensures
