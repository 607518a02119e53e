use Rattle.udb_http.proofs.NextLemmas as next
use Rattle.udb_http.proofs.laws.gives_next.Goals as goal

pub returns : goal.returns
returns c = next.gives_next
