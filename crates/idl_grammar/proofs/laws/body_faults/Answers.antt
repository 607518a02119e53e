use Rattle.idl_grammar.specs.Faults.{OfBody}
use Rattle.idl_grammar.specs.StmtReader.{whole_body}
use Rattle.idl_grammar.proofs.Whole.{body_exact, fault_within, fault_free, deep_at_token}
use Rattle.idl_grammar.proofs.laws.body_faults.Goals as goal

pub returns-clause-within : goal.returns-clause-within
returns-clause-within c = fault_within OfBody whole_body body_exact

pub returns-clause-free : goal.returns-clause-free
returns-clause-free c = fault_free OfBody whole_body body_exact

pub returns-clause-deep : goal.returns-clause-deep
returns-clause-deep c = deep_at_token OfBody whole_body body_exact
