use Rattle.std.proofs.Common.{◌≡◌, drop}
use Rattle.std.specs.List.{list_all}
use Rattle.first_spec.specs.Alphabets.{is_fixed_digit}
use Rattle.first_bundle.proofs.alphabets.all_fixed.Given as goal

abbrev pub invariant-loop-digit : goal.invariant-loop-digit
invariant-loop-digit l = list_all is_fixed_digit (drop l.digit-index l.digits) ≡ list_all is_fixed_digit l.digits
