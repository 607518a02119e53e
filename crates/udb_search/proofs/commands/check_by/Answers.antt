use Rattle.udb_search.specs.Replies.{IsVerdict}
use Rattle.udb_search.proofs.Replied.{lacking_reply, asked_reply}
use Rattle.udb_search.proofs.commands.check_by.Goals as goal

pub returns-in-Lacking : goal.returns-in-Lacking
returns-in-Lacking c = lacking_reply (IsVerdict c.args.proof.now) c.args.draft.now c.args.config.now c.args.kind c.args.name.now c.in_ok-reply.field-0 c.in-Lacking.reply c.in_ok-reply.ensures c.in-Lacking.is

pub returns-in-Asked : goal.returns-in-Asked
returns-in-Asked c = asked_reply (IsVerdict c.args.proof.now) c.args.draft.now c.args.config.now c.args.kind c.args.name.now c.in_ok-reply.field-0 c.in-Asked.part c.in-Asked.cond c.space.result.now c.in_ok-reply.ensures c.in-Asked.is c.space.ensures.value c.verdict_reply.result c.verdict_reply.ensures
