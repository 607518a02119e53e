use Rattle.std.proofs.Common.{◌∙◌}
use Rattle.udb_search.proofs.Replied.{broken_refute, refuted_by}
use Rattle.udb_search.proofs.commands.refute_in.Goals as goal

pub returns-in-Err-Broken : goal.returns-in-Err-Broken
returns-in-Err-Broken c =
    let told = c.accept.ensures.broken c.in-Err-Broken.first c.in-Err-Broken.field-0-1 cc in
    broken_refute c.args.config.now c.args.kind c.args.name.now c.args.tables c.in-Err-Broken.first told.0 c.broken.result (rw (← c.in-Err-Broken.first-is) c.broken.ensures)

pub returns-in-Ok : goal.returns-in-Ok
returns-in-Ok c =
    let told = c.accept.ensures.accepted c.in-Ok.database cc in
    refuted_by c.args.config.now c.args.kind c.args.name.now c.into_draft-draft.result c.args.tables (c.into_draft-draft.ensures ∙ told.0) told.1 c.refute_by.result c.refute_by.ensures
