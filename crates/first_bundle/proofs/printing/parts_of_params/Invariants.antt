use Rattle.std.proofs.Common.{◌≡◌, take}
use Rattle.first_spec.specs.Bundle.{params_lines}
use Rattle.first_bundle.proofs.printing.parts_of_params.Given as goal

abbrev pub invariant-loop-param : goal.invariant-loop-param
invariant-loop-param l = l.lines ≡ params_lines (take l.param-index l.params)
