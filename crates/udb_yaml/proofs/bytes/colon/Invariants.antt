use Rattle.std.proofs.Common.{length, ◌-◌, ◌≡◌, ◌≤◌, drop, take}
use Rattle.yaml_spec.specs.Reading as spec
use Rattle.udb_yaml.proofs.PlaceLemmas.{fronted}
use Rattle.udb_yaml.proofs.bytes.colon.Given as goal

abbrev pub invariant-bytes : goal.invariant-bytes
invariant-bytes l = (fronted (take l.at l.text) (spec.to_colon (drop l.at l.text)) ≡ spec.to_colon l.fn.text) × (l.at ≤ length l.text)

abbrev pub decreases-bytes : goal.decreases-bytes
decreases-bytes l = length l.text - l.at
