use Rattle.std.proofs.Common.{◌≡◌, [], map, drop}
use Rattle.first_bundle.specs.Checks.{rises_from}
use Rattle.first_bundle.proofs.checking.rises.Given as goal

abbrev pub invariant-loop-param : goal.invariant-loop-param
invariant-loop-param l = rises_from l.before (map (λ p. p.name) (drop l.param-index l.params)) ≡ rises_from [] (map (λ p. p.name) l.params)
