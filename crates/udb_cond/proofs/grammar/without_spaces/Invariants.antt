use Rattle.std.proofs.Common.{◌≡◌, drop}
use Rattle.udb_cond.specs.Requirements.{without_spaces}
use Rattle.udb_cond.proofs.grammar.without_spaces.Given as goal

abbrev pub invariant-loop-at : goal.invariant-loop-at
invariant-loop-at l = without_spaces (drop l.at l.text) ≡ without_spaces l.text
