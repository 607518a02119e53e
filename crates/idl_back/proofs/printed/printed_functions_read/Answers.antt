use Rattle.idl_back.proofs.PrintedFunctions.{functions_read}
use Rattle.idl_back.proofs.printed.printed_functions_read.Goals as goal

pub returns : goal.returns
returns c = functions_read
