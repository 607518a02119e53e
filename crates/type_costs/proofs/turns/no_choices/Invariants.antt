use Rattle.std.proofs.Common.{◌≡◌, None, take, map}
use Rattle.type_costs.proofs.turns.no_choices.Given as goal

abbrev pub invariant-loop-extension : goal.invariant-loop-extension
invariant-loop-extension l = l.choices ≡ map (λ x. None) (take l._extension-index l.extensions)
