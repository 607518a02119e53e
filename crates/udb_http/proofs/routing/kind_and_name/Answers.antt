use Rattle.udb_http.proofs.RouteLemmas.{other_kind}
use Rattle.udb_http.proofs.routing.kind_and_name.Goals as goal

pub returns-in_default-kind_of : goal.returns-in_default-kind_of
returns-in_default-kind_of c =
    let cut = c.in-Some.ensures in
    let unknown = rw c.in_default-kind_of.is at c.kind_of.ensures in
    other_kind _ _ _ cut.0 cut.1 unknown
