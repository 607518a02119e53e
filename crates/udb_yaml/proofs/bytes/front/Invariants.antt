use Rattle.std.proofs.Common.{length, ◌-◌, ◌≡◌, ◌+◌, ◌≤◌, drop}
use Rattle.yaml_spec.specs.Reading as spec
use Rattle.udb_yaml.proofs.bytes.front.Given as goal

abbrev pub invariant-spaces : goal.invariant-spaces
invariant-spaces l = (l.at + spec.front (drop l.at l.text) ≡ spec.front l.fn.text) × (l.at ≤ length l.text)

abbrev pub decreases-spaces : goal.decreases-spaces
decreases-spaces l = length l.text - l.at
