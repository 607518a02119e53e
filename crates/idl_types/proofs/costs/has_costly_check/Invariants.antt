use Rattle.std.proofs.Common.{◌≡◌, drop}
use Rattle.std.specs.List.{list_any}
use Rattle.type_issues.specs.Issues.{checks_of}
use Rattle.idl_types.specs.Passes.{is_check_costly}
use Rattle.idl_types.proofs.costs.has_costly_check.Given as goal

abbrev pub invariant-loop-check : goal.invariant-loop-check
invariant-loop-check l = list_any (is_check_costly l.program l.variables) (checks_of (drop l.check-index l.checks)) ≡ list_any (is_check_costly l.program l.variables) (checks_of l.checks)
