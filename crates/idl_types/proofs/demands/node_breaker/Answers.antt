use Rattle.std.proofs.Common.{◌≤◌, length, subst}
use Rattle.type_issues.specs.Issues.{issue_of, issues_of, check_of}
use Rattle.idl_types.specs.Passes.{IsShown, BreaksIssue}
use Rattle.idl_types.proofs.BreakLaws.{NoIssueBroken, one-issue-more, no-issue-left}
use Rattle.idl_types.proofs.TellLaws.{issue-at, all-issues}
use Rattle.idl_types.proofs.demands.node_breaker.Goals as goal

pub loop-issue-preserved : goal.loop-issue-preserved
loop-issue-preserved c =
    let conditions = c.as_slice-context.result.now in
    let issues = c.as_slice-issue-items.result.now in
    let issue = c.issue-item.result in
    let at = issue-at issues c.loop-issue.issue-index issue c.loop-issue-test.true c.issue-item.is in
    let none = subst (IsShown (BreaksIssue c.args.space.now c.args.program.now c.args.variables.now c.args.sort conditions (issue_of issue))) c.in_default.is c.in_ok-full.ensures in
    one-issue-more c.args.space.now c.args.program.now c.args.variables.now c.args.sort conditions (issues_of issues) c.loop-issue.issue-index (issue_of issue) at none c.loop-issue.invariant

pub returns : goal.returns
returns c =
    let space = c.args.space.now in
    let program = c.args.program.now in
    let variables = c.args.variables.now in
    let sort = c.args.sort in
    let one = c.args.check.now in
    let k = c.loop-issue.issue-index in
    let here = subst (λ cs. NoIssueBroken space program variables sort cs (issues_of c.as_slice-issue-items.result.now) k) c.as_slice-context.ensures c.loop-issue.invariant in
    let there = subst (λ is. NoIssueBroken space program variables sort one.context (issues_of is) k) c.as_slice-issue-items.ensures here in
    let long = subst (λ is. length is ≤ k) c.as_slice-issue-items.ensures c.loop-issue-test.false in
    no-issue-left space program variables sort (check_of one) k (all-issues one.issues k long) there
