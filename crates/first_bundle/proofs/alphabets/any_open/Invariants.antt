use Rattle.std.proofs.Common.{◌≡◌, ◌==◌, drop}
use Rattle.std.specs.List.{list_any}
use Rattle.first_bundle.proofs.alphabets.any_open.Given as goal

abbrev pub invariant-loop-digit : goal.invariant-loop-digit
invariant-loop-digit l = list_any (λ b. b == 45) (drop l.digit-index l.digits) ≡ list_any (λ b. b == 45) l.digits
