use Rattle.idl_grammar.specs.Faults.{OfFunctions}
use Rattle.idl_grammar.specs.StmtReader.{whole_functions}
use Rattle.idl_grammar.proofs.Whole.{functions_exact, read_within}
use Rattle.idl_grammar.proofs.laws.function_readings.Goals as goal

pub returns-clause-told : goal.returns-clause-told
returns-clause-told c = read_within OfFunctions whole_functions functions_exact

pub returns-clause-again : goal.returns-clause-again
returns-clause-again c = functions_exact.reads
