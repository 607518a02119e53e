use Rattle.std.proofs.Common.{length, ◌≡◌, ◌<◌, ◌≤◌, take, get_or}
use Rattle.yaml_spec.specs.Reading as spec
use Rattle.udb_yaml.proofs.bytes.trim.Given as goal

abbrev pub invariant-spaces : goal.invariant-spaces
invariant-spaces l = (spec.trim (take l.end l.text) ≡ spec.trim l.fn.text) × (l.end ≤ length l.text) × (l.end < length l.text → get_or l.text l.end 0 ≡ 32)

abbrev pub decreases-spaces : goal.decreases-spaces
decreases-spaces l = l.end
