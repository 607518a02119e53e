use Rattle.udb_top.proofs.OneReply.{result_no_bundle}
use Rattle.udb_top.proofs.manual.manual_reply.Goals as goal

pub returns-in-Ok-Some : goal.returns-in-Ok-Some
returns-in-Ok-Some c =
    result_no_bundle c.args.config.now c.args.input.now c.in-Ok-Some.number (rw c.in-Ok-Some.field-0-is at c.in-Ok-Some.ensures) c.no_bundle.result c.no_bundle.ensures
