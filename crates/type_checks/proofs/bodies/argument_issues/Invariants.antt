use Rattle.std.proofs.Common.{◌≡◌, ◌++◌, drop}
use Rattle.std.specs.Prelude.{flat_map}
use Rattle.idl_spec.specs.Demands.{shape_issues}
use Rattle.type_kinds.specs.Views.{view_of}
use Rattle.type_issues.specs.Issues.{issues_of}
use Rattle.type_checks.proofs.bodies.argument_issues.Given as goal

abbrev pub invariant-loop-argument : goal.invariant-loop-argument
invariant-loop-argument l =
    issues_of l.issues ++ flat_map (λ a. shape_issues (view_of l.view) a.shape) (drop l.argument-index l.arguments)
    ≡ issues_of l.initial.issues ++ flat_map (λ a. shape_issues (view_of l.view) a.shape) l.arguments
