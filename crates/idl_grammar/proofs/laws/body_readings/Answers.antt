use Rattle.idl_grammar.specs.Faults.{OfBody}
use Rattle.idl_grammar.specs.StmtReader.{whole_body}
use Rattle.idl_grammar.proofs.Whole.{body_exact, read_within}
use Rattle.idl_grammar.proofs.laws.body_readings.Goals as goal

pub returns-clause-told : goal.returns-clause-told
returns-clause-told c = read_within OfBody whole_body body_exact

pub returns-clause-again : goal.returns-clause-again
returns-clause-again c = body_exact.reads
