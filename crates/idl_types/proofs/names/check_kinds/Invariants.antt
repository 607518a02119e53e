use Rattle.type_issues.specs.Issues.{checks_of}
use Rattle.idl_types.specs.Passes.{IsMismatch, NoneBefore}
use Rattle.idl_types.proofs.names.check_kinds.Given as goal

abbrev pub invariant-loop-node : goal.invariant-loop-node
invariant-loop-node l = NoneBefore IsMismatch (checks_of l.checks) l.node
