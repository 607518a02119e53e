use Rattle.std.proofs.Common.{◌≡◌, ◌++◌, drop}
use Rattle.first_prune.specs.Facts.{facts_of}
use Rattle.first_prune.specs.Pruning.{pruned}
use Rattle.first_prune.proofs.pruning.+pruning.Given as goal

abbrev pub invariant-prune_all-loop-statement : goal.invariant-prune_all-loop-statement
invariant-prune_all-loop-statement l = l.shown ++ pruned (facts_of l.facts) (drop l.statement-index l.statements) ≡ pruned (facts_of l.facts) l.statements
