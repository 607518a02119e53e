use Rattle.std.proofs.Common.{◌≡◌, [], map, drop}
use Rattle.first_bundle.specs.Checks.{rises_from}
use Rattle.first_bundle.proofs.checking.givens_rise.Given as goal

abbrev pub invariant-loop-given : goal.invariant-loop-given
invariant-loop-given l = rises_from l.before (map (λ g. g.name) (drop l.given-index l.givens)) ≡ rises_from [] (map (λ g. g.name) l.givens)
