use Rattle.udb_search.proofs.Replied.{broken_check, checked_by}
use Rattle.udb_search.proofs.commands.check_in.Goals as goal

pub returns-in-Err-Broken : goal.returns-in-Err-Broken
returns-in-Err-Broken c =
    let told = c.open.ensures.broken c.in-Err-Broken.first c.in-Err-Broken.field-0-1 cc in
    broken_check c.args.config.now c.args.kind c.args.name.now c.args.tables c.args.proof.now c.in-Err-Broken.first told.0 told.1 c.broken.result (rw (← c.in-Err-Broken.first-is) c.broken.ensures)

pub returns-in-Ok : goal.returns-in-Ok
returns-in-Ok c =
    let told = c.open.ensures.named c.in-Ok.draft cc in
    checked_by c.args.config.now c.args.kind c.args.name.now c.args.proof.now c.in-Ok.draft c.args.tables told.0 told.1 c.check_by.result c.check_by.ensures
