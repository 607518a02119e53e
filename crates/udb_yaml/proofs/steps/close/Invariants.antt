use Rattle.std.proofs.Common.{◌≡◌, ◌≤◌, length, take, drop}
use Rattle.yaml_spec.specs.declared.state.Leaf.TheVariants as leaf
use Rattle.yaml_spec.specs.Machine as spec
use Rattle.udb_yaml.proofs.steps.close.Given as goal

abbrev pub invariant-closing : goal.invariant-closing
invariant-closing l = (spec.close (drop l.keep l.frames) (leaf.Done l.value) ≡ spec.close (drop l.keep l.fn.frames) l.fn.leaf) × (take l.keep l.frames ≡ take l.keep l.fn.frames) × (l.keep ≤ length l.frames)

abbrev pub decreases-closing : goal.decreases-closing
decreases-closing l = length l.frames
