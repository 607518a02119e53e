use Rattle.udb_http.proofs.UniqueLemmas.{one_answer}
use Rattle.udb_http.proofs.laws.one_answer.Goals as goal

pub returns : goal.returns
returns c = one_answer
