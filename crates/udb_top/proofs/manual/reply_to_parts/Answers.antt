use Rattle.udb_top.proofs.OneReply.{result_not_built}
use Rattle.udb_top.proofs.manual.reply_to_parts.Goals as goal

pub returns-in-Ok-None : goal.returns-in-Ok-None
returns-in-Ok-None c = result_not_built c.args.config.now c.args.input.now (c.in-Ok-None.ensures.none c.in-Ok-None.field-0-is) c.not_built.result c.not_built.ensures
