use Rattle.std.proofs.Common.{◌≡◌, ◌≤◌, length, drop, false}
use Rattle.std.specs.Str.{IsCharBoundary}
use Rattle.yaml_spec.specs.Marks.{undashed}
use Rattle.udb_yaml.proofs.marks.dashes.Given as goal

abbrev pub invariant-marks : goal.invariant-marks
invariant-marks l = (undashed l.spaced l.rest ≡ undashed false l.fn.text) × (l.rest ≡ drop l.at l.fn.text) × (l.at ≤ length l.fn.text) × IsCharBoundary l.fn.text l.at

abbrev pub decreases-marks : goal.decreases-marks
decreases-marks l = length l.rest
