use Rattle.std.proofs.Common.{◌≡◌, take, map}
use Rattle.udb_top.specs.Making.{param_part}
use Rattle.udb_top.proofs.making.parts_of_params.Given as goal

abbrev pub invariant-loop-param : goal.invariant-loop-param
invariant-loop-param l = l.parts ≡ map (param_part l.full) (take l.param-index l.params)
