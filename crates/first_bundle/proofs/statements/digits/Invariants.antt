use Rattle.std.proofs.Common.{◌≡◌, drop}
use Rattle.first_bundle.specs.Statements.{read_digits}
use Rattle.first_bundle.proofs.statements.digits.Given as goal

abbrev pub invariant-loop-at : goal.invariant-loop-at
invariant-loop-at l = read_digits l.number (drop l.at l.text) ≡ read_digits 0 l.text
