use Rattle.first_prune.proofs.FactLemmas.{other_truth}
use Rattle.first_prune.proofs.facts.+known_truth.Goals as goal

pub returns-in_default : goal.returns-in_default
returns-in_default t c = other_truth _ _ c.in_default.not-Word c.in_default.not-Unary
