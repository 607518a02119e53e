use Rattle.udb_top.proofs.OneReply as laws
use Rattle.udb_top.proofs.manual.manual_statuses.Goals as goal

pub returns : goal.returns
returns c = laws.manual_statuses
