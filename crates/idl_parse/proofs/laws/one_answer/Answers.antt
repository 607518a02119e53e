use Rattle.idl_grammar.specs.Faults.{OfBody, OfFunctions}
use Rattle.idl_grammar.specs.StmtReader.{whole_body, whole_functions}
use Rattle.idl_grammar.proofs.Whole.{body_exact, functions_exact}
use Rattle.idl_parse.proofs.Causes.{spelled_one, answer_one, answer_some}
use Rattle.idl_parse.proofs.laws.one_answer.Goals as goal

pub returns-clause-body : goal.returns-clause-body
returns-clause-body c = spelled_one OfBody whole_body body_exact

pub returns-clause-body_one : goal.returns-clause-body_one
returns-clause-body_one c = answer_one OfBody whole_body body_exact

pub returns-clause-body_some : goal.returns-clause-body_some
returns-clause-body_some c = answer_some OfBody whole_body body_exact

pub returns-clause-functions : goal.returns-clause-functions
returns-clause-functions c = spelled_one OfFunctions whole_functions functions_exact

pub returns-clause-functions_one : goal.returns-clause-functions_one
returns-clause-functions_one c = answer_one OfFunctions whole_functions functions_exact

pub returns-clause-functions_some : goal.returns-clause-functions_some
returns-clause-functions_some c = answer_some OfFunctions whole_functions functions_exact
