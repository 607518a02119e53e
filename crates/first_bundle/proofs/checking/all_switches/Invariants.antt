use Rattle.std.proofs.Common.{◌≡◌, drop}
use Rattle.std.specs.List.{list_all}
use Rattle.first_spec.specs.Bundle.{is_switch_name}
use Rattle.first_bundle.proofs.checking.all_switches.Given as goal

abbrev pub invariant-loop-given : goal.invariant-loop-given
invariant-loop-given l = list_all (λ g. is_switch_name l.params g.name) (drop l.given-index l.givens) ≡ list_all (λ g. is_switch_name l.params g.name) l.givens
