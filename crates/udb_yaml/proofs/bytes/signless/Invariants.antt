use Rattle.std.proofs.Common.{length, ◌-◌, ◌≡◌, ◌+◌, ◌≤◌, drop}
use Rattle.yaml_spec.specs.Line.{has_flow}
use Rattle.yaml_spec.specs.Reading as spec
use Rattle.udb_yaml.proofs.bytes.signless.Given as goal

abbrev pub invariant-bytes : goal.invariant-bytes
invariant-bytes l = (l.at + length (spec.signless (drop l.at l.text)) ≡ length (spec.signless l.fn.text)) × (l.at ≤ length l.text) × (has_flow (drop l.at l.text) ≡ has_flow l.fn.text)

abbrev pub decreases-bytes : goal.decreases-bytes
decreases-bytes l = length l.text - l.at
