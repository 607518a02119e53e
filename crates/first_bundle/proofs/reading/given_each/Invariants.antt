use Rattle.std.proofs.Common.{◌≡◌, map, take}
use Rattle.first_bundle.specs.Reading.{given_of}
use Rattle.first_bundle.proofs.reading.given_each.Given as goal

abbrev pub invariant-loop-line : goal.invariant-loop-line
invariant-loop-line l = l.givens ≡ map given_of (take l.line-index l.lines)
