use Rattle.type_issues.specs.Issues.{checks_of}
use Rattle.idl_types.specs.Passes.{IsBroken, NoneBefore}
use Rattle.idl_types.proofs.demands.check_demands.Given as goal

abbrev pub invariant-loop-node : goal.invariant-loop-node
invariant-loop-node l = NoneBefore (IsBroken l.space l.program l.variables l.sort) (checks_of l.checks) l.node
