use Rattle.std.proofs.Common.{◌≡◌, drop}
use Rattle.first_spec.specs.Bundle.{is_switch_name}
use Rattle.first_bundle.proofs.blocks.is_switch_name.Given as goal

abbrev pub invariant-loop-param : goal.invariant-loop-param
invariant-loop-param l = is_switch_name (drop l.param-index l.params) l.name ≡ is_switch_name l.params l.name
