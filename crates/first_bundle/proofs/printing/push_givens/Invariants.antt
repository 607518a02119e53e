use Rattle.std.proofs.Common.{◌≡◌, ◌++◌, take, map}
use Rattle.first_spec.specs.Bundle.{given_line}
use Rattle.first_bundle.proofs.printing.push_givens.Given as goal

abbrev pub invariant-loop-given : goal.invariant-loop-given
invariant-loop-given l = l.lines ≡ l.fn.lines ++ map given_line (take l.given-index l.givens)
