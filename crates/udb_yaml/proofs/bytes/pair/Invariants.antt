use Rattle.std.proofs.Common.{length, ◌-◌, ◌≡◌, ◌+◌, ◌≤◌, drop}
use Rattle.udb_yaml.specs.Places.{pair_place}
use Rattle.udb_yaml.proofs.bytes.pair.Given as goal

abbrev pub invariant-bytes : goal.invariant-bytes
invariant-bytes l = (l.at + pair_place l.first l.second (drop l.at l.text) ≡ pair_place l.first l.second l.fn.text) × (l.at ≤ length l.text)

abbrev pub decreases-bytes : goal.decreases-bytes
decreases-bytes l = length l.text - l.at
