use Rattle.idl_grammar.specs.Faults.{OfBody, OfFunctions}
use Rattle.idl_grammar.specs.StmtReader.{whole_body, whole_functions}
use Rattle.idl_grammar.proofs.Whole.{body_exact, functions_exact, reads_one}
use Rattle.idl_grammar.proofs.laws.one_tree.Goals as goal

pub returns-clause-body : goal.returns-clause-body
returns-clause-body c = reads_one OfBody whole_body body_exact

pub returns-clause-functions : goal.returns-clause-functions
returns-clause-functions c = reads_one OfFunctions whole_functions functions_exact
