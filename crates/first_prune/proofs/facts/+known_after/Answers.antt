use Rattle.first_prune.proofs.FactLemmas.{other_after}
use Rattle.first_prune.proofs.facts.+known_after.Goals as goal

pub returns-in_default : goal.returns-in_default
returns-in_default t c = other_after _ _ _ c.in_default.not-Word c.in_default.not-Unary
