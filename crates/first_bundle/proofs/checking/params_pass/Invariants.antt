use Rattle.std.proofs.Common.{◌≡◌, drop}
use Rattle.std.specs.List.{list_all}
use Rattle.first_bundle.specs.Checks.{param_passes}
use Rattle.first_bundle.proofs.checking.params_pass.Given as goal

abbrev pub invariant-loop-param : goal.invariant-loop-param
invariant-loop-param l = list_all param_passes (drop l.param-index l.params) ≡ list_all param_passes l.params
