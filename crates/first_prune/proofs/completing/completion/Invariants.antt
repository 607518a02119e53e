use Rattle.std.proofs.Common.{◌≡◌, take, map}
use Rattle.first_prune.specs.Known.{known_of, value_with}
use Rattle.first_prune.proofs.completing.completion.Given as goal

abbrev pub invariant-loop-param : goal.invariant-loop-param
invariant-loop-param l = l.values ≡ map (λ p. value_with (known_of l.givens) p.name p.domain) (take l.param-index l.params)
