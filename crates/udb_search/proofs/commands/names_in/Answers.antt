use Rattle.udb_search.proofs.Replied.{lacks_entry}
use Rattle.udb_search.proofs.commands.names_in.Goals as goal

pub returns-in-None-entry : goal.returns-in-None-entry
returns-in-None-entry c = lacks_entry c.args.draft.now c.args.config.now c.args.kind c.args.name.now c.in_ok-config.field-0 c.in-Some.part c.in_ok-config.ensures c.in-Some.is c.in-None-entry.ensures c.lacking-in-None-entry.result c.lacking-in-None-entry.ensures
