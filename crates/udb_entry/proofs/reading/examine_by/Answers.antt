use Rattle.udb_entry.proofs.AnswerLemmas.{fit_at, unfit_at}
use Rattle.udb_entry.proofs.reading.examine_by.Goals as goal

pub returns-in-Ok : goal.returns-in-Ok
returns-in-Ok c = fit_at c.args.kind c.args.tree.now c.args.schema.now c.validate.result tt c.requires c.in-Ok.is c.validate.ensures.met

pub returns-in-Err : goal.returns-in-Err
returns-in-Err c = unfit_at c.args.kind c.args.tree.now c.args.schema.now c.validate.result c.in-Err.fault c.schema_fault.result c.requires c.in-Err.is c.validate.ensures.fault c.schema_fault.ensures
