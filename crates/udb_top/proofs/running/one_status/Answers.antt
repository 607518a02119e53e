use Rattle.udb_top.proofs.OneReply as laws
use Rattle.udb_top.proofs.running.one_status.Goals as goal

pub returns : goal.returns
returns c = laws.one_status
