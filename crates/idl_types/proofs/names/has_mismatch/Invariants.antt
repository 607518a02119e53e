use Rattle.std.proofs.Common.{◌≡◌, drop}
use Rattle.std.specs.List.{list_any}
use Rattle.type_issues.specs.Issues.{issues_of}
use Rattle.idl_types.specs.Passes.{is_mismatch}
use Rattle.idl_types.proofs.names.has_mismatch.Given as goal

abbrev pub invariant-loop-issue : goal.invariant-loop-issue
invariant-loop-issue l = list_any is_mismatch (issues_of (drop l.issue-index l.issues)) ≡ list_any is_mismatch (issues_of l.issues)
