use Rattle.std.proofs.Common.{◌≡◌, drop}
use Rattle.first_prune.specs.Known.{look, known_of}
use Rattle.first_prune.proofs.facts.look_given.Given as goal

abbrev pub invariant-loop-given : goal.invariant-loop-given
invariant-loop-given l = look (known_of (drop l.given-index l.givens)) l.name ≡ look (known_of l.givens) l.name
