use Rattle.udb_http.proofs.RouteLemmas.{other_proof}
use Rattle.udb_http.proofs.routing.proof_route.Goals as goal

pub returns-in-None : goal.returns-in-None
returns-in-None c =
    let pair = rw c.in-Some-2.is at c.in_ok-config.ensures in
    other_proof _ _ _ _ c.in-Some.ensures pair.0 pair.1 (rw c.in-None.is at c.in_ok-kind.ensures)
