use Rattle.udb_db.proofs.NameSteps.{named_by}
use Rattle.udb_db.proofs.names.unknown_name.Goals as goal

pub returns : goal.returns
returns c = named_by c.args.space.now c.args.entry.now c.args.widths c.lacks_width-lacks.result _ c.in_ok-shows.shows c.requires.0 c.requires.1 c.lacks_width-lacks.ensures c.in_ok-misfit.ensures c.in_ok-shows.ensures
