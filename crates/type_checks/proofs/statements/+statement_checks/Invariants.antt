use Rattle.std.proofs.Common.{◌≡◌, ◌++◌, drop, map}
use Rattle.type_kinds.specs.Views.{view_of, visible_of}
use Rattle.type_issues.specs.Issues.{checks_of}
use Rattle.type_checks.specs.Nodes.{block_at}
use Rattle.type_checks.proofs.statements.+statement_checks.Given as goal

abbrev pub invariant-push_block-loop-s : goal.invariant-push_block-loop-s
invariant-push_block-loop-s l =
    checks_of l.checks ++ block_at (view_of l.view) (drop l.s-index l.block) (map visible_of l.names) l.context
    ≡ checks_of l.initial.checks ++ block_at (view_of l.view) l.block (map visible_of l.initial.names) l.context
