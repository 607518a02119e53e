use Rattle.std.proofs.Common.{◌≡◌, drop}
use Rattle.std.specs.List.{list_any}
use Rattle.type_issues.specs.Issues.{issues_of}
use Rattle.idl_types.specs.Passes.{is_issue_costly}
use Rattle.idl_types.proofs.costs.is_check_costly.Given as goal

abbrev pub invariant-loop-issue : goal.invariant-loop-issue
invariant-loop-issue l = list_any (is_issue_costly l.program l.variables) (issues_of (drop l.issue-index l.issue-items)) ≡ list_any (is_issue_costly l.program l.variables) (issues_of l.issue-items)
