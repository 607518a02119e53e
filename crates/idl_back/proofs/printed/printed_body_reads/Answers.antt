use Rattle.idl_back.proofs.PrintedStmts.{body_reads}
use Rattle.idl_back.proofs.printed.printed_body_reads.Goals as goal

pub returns : goal.returns
returns c = body_reads
