use Rattle.std.proofs.Common.{◌≡◌, take, map}
use Rattle.manual_spec.specs.Entries.{param_space}
use Rattle.udb_top.proofs.spaces.spaces_of_params.Given as goal

abbrev pub invariant-loop-param : goal.invariant-loop-param
invariant-loop-param l = l.spaces ≡ map param_space (take l.param-index l.params)
