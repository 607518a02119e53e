use Rattle.std.proofs.Common.{arith}
use Rattle.std.proofs.lemmas.Str.Pattern.{split_parts}
use Rattle.udb_http.proofs.RouteLemmas.{cut_answer}
use Rattle.udb_http.proofs.routing.cut.Goals as goal

pub returns : goal.returns
returns c =
    let path = c.args.path.now in
    cut_answer path c.split_once.result (split_parts 47 path c.split_once.result c.split_once.ensures.cases (omega arith))
