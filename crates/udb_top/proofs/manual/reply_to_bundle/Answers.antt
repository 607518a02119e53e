use Rattle.std.proofs.Common.{rules}
use Rattle.udb_top.proofs.OneReply.{other_reply, named_reply}
use Rattle.udb_top.proofs.manual.reply_to_bundle.Goals as goal

pub returns-then-ne : goal.returns-then-ne
returns-then-ne c = other_reply c.args.config.now c.args.bundle.now c.in_ok-text.text c.in_ok-text.ensures (search rules)

pub returns : goal.returns
returns c = named_reply c.args.config.now c.args.bundle.now c.in_ok-text-2.text c.in_ok-text-2.ensures (search rules)
