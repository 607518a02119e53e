use Rattle.std.proofs.Common.{◌≡◌, drop}
use Rattle.yaml_spec.specs.Line.{has}
use Rattle.udb_yaml.proofs.keys.has.Given as goal

abbrev pub invariant-bytes : goal.invariant-bytes
invariant-bytes l = has l.byte (drop l.other-index l.text) ≡ has l.byte l.fn.text
