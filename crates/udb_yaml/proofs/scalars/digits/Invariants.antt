use Rattle.std.proofs.Common.{◌≡◌, ◌≤◌, drop}
use Rattle.yaml_spec.specs.Line.{at_most, digits}
use Rattle.udb_yaml.specs.Places.{digit_in, base_of}
use Rattle.udb_yaml.proofs.scalars.digits.Given as goal

abbrev pub invariant-digits : goal.invariant-digits
invariant-digits l = (at_most l.limit (digits (digit_in l.hex) (base_of l.hex) l.value (drop l.byte-index l.text)) ≡ at_most l.limit (digits (digit_in l.hex) (base_of l.hex) 0 l.fn.text)) × (l.value ≤ l.limit) × (l.base ≡ base_of l.hex)
