use Rattle.std.proofs.Common.{◌≡◌, drop}
use Rattle.std.specs.List.{list_all}
use Rattle.first_spec.specs.Alphabets.{is_match_digit}
use Rattle.first_bundle.proofs.alphabets.all_digits.Given as goal

abbrev pub invariant-loop-digit : goal.invariant-loop-digit
invariant-loop-digit l = list_all is_match_digit (drop l.digit-index l.digits) ≡ list_all is_match_digit l.digits
