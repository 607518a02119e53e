use Rattle.type_issues.specs.Issues.{issues_of}
use Rattle.idl_types.proofs.BreakLaws.{NoIssueBroken}
use Rattle.idl_types.proofs.demands.node_breaker.Given as goal

abbrev pub invariant-loop-issue : goal.invariant-loop-issue
invariant-loop-issue l = NoIssueBroken l.space l.program l.variables l.sort l.context (issues_of l.issue-items) l.issue-index
