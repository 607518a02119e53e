use Rattle.std.proofs.Common.{◌≡◌, drop}
use Rattle.idl_spec.specs.Faults.{first_unknown}
use Rattle.type_issues.specs.Issues.{issues_of}
use Rattle.idl_types.proofs.names.first_unknown.Given as goal

abbrev pub invariant-loop-issue : goal.invariant-loop-issue
invariant-loop-issue l = first_unknown (issues_of (drop l.issue-index l.issues)) ≡ first_unknown (issues_of l.issues)
