use Rattle.std.proofs.Common.{◌≡◌, drop}
use Rattle.idl_lawful.specs.Readings.{is_parameter}
use Rattle.idl_lawful.proofs.bodies.is_parameter.Given as goal

abbrev pub invariant-loop-param : goal.invariant-loop-param
invariant-loop-param l = is_parameter (drop l.param-index l.params) l.variable ≡ is_parameter l.params l.variable
