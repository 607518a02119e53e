use Rattle.std.proofs.Common.{arith}
use Rattle.udb_db.specs.Phases.{IsShort}
use Rattle.udb_db.proofs.Steps.{constraints_long}
use Rattle.udb_db.proofs.searching.search.Goals as goal

pub find-requires-clause-few : goal.find-requires-clause-few
find-requires-clause-few c =
    let short : IsShort c.args.space.now c.args.part.now = c.is_short.ensures (cc) in
    omega (arith, short.few, constraints_long c.args.space.now c.args.part.now c.args.cond.now)
