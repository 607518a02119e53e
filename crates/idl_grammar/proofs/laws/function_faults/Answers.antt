use Rattle.idl_grammar.specs.Faults.{OfFunctions}
use Rattle.idl_grammar.specs.StmtReader.{whole_functions}
use Rattle.idl_grammar.proofs.Whole.{functions_exact, fault_within, fault_free, deep_at_token}
use Rattle.idl_grammar.proofs.laws.function_faults.Goals as goal

pub returns-clause-within : goal.returns-clause-within
returns-clause-within c = fault_within OfFunctions whole_functions functions_exact

pub returns-clause-free : goal.returns-clause-free
returns-clause-free c = fault_free OfFunctions whole_functions functions_exact

pub returns-clause-deep : goal.returns-clause-deep
returns-clause-deep c = deep_at_token OfFunctions whole_functions functions_exact
