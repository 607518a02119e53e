use Rattle.std.proofs.Common.{◌≡◌, ◌++◌, drop}
use Rattle.std.specs.Prelude.{flat_map}
use Rattle.idl_spec.specs.Checks.{expr_checks}
use Rattle.type_kinds.specs.Views.{view_of}
use Rattle.type_issues.specs.Issues.{checks_of}
use Rattle.type_checks.proofs.expressions.+expression_checks.Given as goal

abbrev pub invariant-push_all-loop-one : goal.invariant-push_all-loop-one
invariant-push_all-loop-one l =
    checks_of l.checks ++ flat_map (λ x. expr_checks (view_of l.view) x l.context) (drop l.one-index l.all)
    ≡ checks_of l.initial.checks ++ flat_map (λ x. expr_checks (view_of l.view) x l.context) l.all
