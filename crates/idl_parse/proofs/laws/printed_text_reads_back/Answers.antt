use Rattle.idl_parse.proofs.ReadBack.{body_back, functions_back}
use Rattle.idl_parse.proofs.laws.printed_text_reads_back.Goals as goal

pub returns-clause-body : goal.returns-clause-body
returns-clause-body c = body_back

pub returns-clause-functions : goal.returns-clause-functions
returns-clause-functions c = functions_back
