use Rattle.std.proofs.Common.{All, take}
use Rattle.udb_spec.specs.Lawful.{IsLawfulParam}
use Rattle.udb_lawful.proofs.spaces.params_are_lawful.Given as goal

abbrev pub invariant-loop-param : goal.invariant-loop-param
invariant-loop-param l = All (IsLawfulParam l.space) (take l.param-index l.space.params)
