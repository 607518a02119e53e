use Rattle.udb_search.specs.Replies.{IsFoundText}
use Rattle.udb_search.proofs.Replied.{lacking_reply, asked_reply}
use Rattle.udb_search.proofs.commands.refute_by.Goals as goal

pub returns-in-Lacking : goal.returns-in-Lacking
returns-in-Lacking c = lacking_reply IsFoundText c.args.draft.now c.args.config.now c.args.kind c.args.name.now c.in_ok-reply.field-0 c.in-Lacking.reply c.in_ok-reply.ensures c.in-Lacking.is

pub returns-in-Asked : goal.returns-in-Asked
returns-in-Asked c = asked_reply IsFoundText c.args.draft.now c.args.config.now c.args.kind c.args.name.now c.in_ok-reply.field-0 c.in-Asked.part c.in-Asked.cond c.space.result.now c.in_ok-reply.ensures c.in-Asked.is c.space.ensures.value c.found_reply.result c.found_reply.ensures
