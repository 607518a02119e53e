use Rattle.std.proofs.Common.{All, take}
use Rattle.udb_refute.specs.Search.{IsShortDomain}
use Rattle.case_space.proofs.limits.has_short_domains.Given as goal

abbrev pub invariant-loop-param : goal.invariant-loop-param
invariant-loop-param l = All (λ p. IsShortDomain p.domain) (take l.param-index l.space.params)
