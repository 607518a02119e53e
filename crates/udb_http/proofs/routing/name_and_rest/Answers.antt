use Rattle.udb_http.proofs.RouteLemmas.{other_first}
use Rattle.udb_http.proofs.routing.name_and_rest.Goals as goal

pub returns-in-None : goal.returns-in-None
returns-in-None c =
    let cut = c.in-Some.ensures in
    let refused = rw c.in-None.is at c.in_ok-name.ensures in
    other_first _ _ _ cut.0 cut.1 refused
