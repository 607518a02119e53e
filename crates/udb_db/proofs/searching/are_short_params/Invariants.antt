use Rattle.std.proofs.Common.{take}
use Rattle.std.specs.List.{All}
use Rattle.udb_refute.specs.Search.{IsShortDomain}
use Rattle.udb_db.proofs.searching.are_short_params.Given as goal

abbrev pub invariant-loop-param : goal.invariant-loop-param
invariant-loop-param l = All (λ p. IsShortDomain p.domain) (take l.param-index l.params)
