use Rattle.std.proofs.Common.{◌++◌, ◌+◌, drop, map, ap, ◌∙◌}
use Rattle.type_kinds.specs.Views.{view_of, visible_of, seeing}
use Rattle.type_issues.specs.Issues.{checks_of}
use Rattle.type_checks.specs.Nodes.{block_at}
use Rattle.type_checks.proofs.StepForms.{block-next}
use Rattle.type_checks.proofs.statements.+statement_checks.Goals as goal

pub push_block-loop-s-preserved : goal.push_block-loop-s-preserved
push_block-loop-s-preserved t c =
    let view = view_of c.args.view.now in
    let block = c.args.block.now in
    let context = c.args.context.now in
    ap (λ cs. cs ++ block_at view (drop (c.loop-s.s-index + 1) block) (map visible_of c.declare.new.names) context) c.in_ok-push_statement.ensures
    ∙ block-next view (view_of c.seeing-here.result) block c.loop-s.s-index c.s-item.result (map visible_of c.loop-s.names) (map visible_of c.declare.new.names) context (checks_of c.loop-s.checks) c.loop-s-test.true c.s-item.is
    (c.seeing-here.ensures ∙ ap (λ ns. seeing view (map visible_of ns)) c.as_slice.ensures) c.in_ok-declare.ensures
    ∙ c.loop-s.invariant
