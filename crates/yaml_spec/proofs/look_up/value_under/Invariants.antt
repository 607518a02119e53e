use Rattle.std.proofs.Common.{◌≡◌, drop}
use Rattle.yaml_spec.specs.Trees as spec
use Rattle.yaml_spec.proofs.look_up.value_under.Given as goal

abbrev pub invariant-loop-entry : goal.invariant-loop-entry
invariant-loop-entry l = spec.value_under (drop l.entry-index l.entries) l.key ≡ spec.value_under l.entries l.key
