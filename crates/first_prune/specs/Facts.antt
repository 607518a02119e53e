-- What a path of facts tells of names.
use Rattle.std.specs.Prelude.{◌∷◌}
use Rattle.first_prune.specs.declared.facts.Facts.{Facts, Given, Tested'}
use Rattle.first_prune.specs.Known.{Known, known_of}

abbrev pub facts_of : Facts → Known
facts_of (Given givens) = known_of givens.now
facts_of (Tested' name truth at rest) = (name.now, truth) ∷ facts_of rest
