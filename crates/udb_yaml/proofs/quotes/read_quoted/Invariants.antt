use Rattle.std.proofs.Common.{◌≡◌, drop}
use Rattle.yaml_spec.specs.Reading as spec
use Rattle.udb_yaml.proofs.quotes.read_quoted.Given as goal

abbrev pub invariant-bytes : goal.invariant-bytes
invariant-bytes l = spec.prefixed l.bytes.items (spec.quoted l.place (drop l.at l.fn.text)) ≡ spec.quoted l.fn.first l.fn.text
