use Rattle.std.proofs.Common.{◌≡◌, ◌∙◌, true, false, sym, ap}
use Rattle.std.specs.List.{list_any}
use Rattle.idl_spec.specs.Faults.{node_number}
use Rattle.type_issues.specs.Issues.{issues_of, check_of, checks_of}
use Rattle.idl_types.specs.Passes.{is_mismatch, IsMismatch, IsFirstOf}
use Rattle.idl_types.proofs.PassLaws.{first-here, one-more, none-left}
use Rattle.idl_types.proofs.TellLaws.{told-so, check-at, all-checks, mismatch-shown, not-mismatch}
use Rattle.idl_types.proofs.names.check_kinds.Goals as goal

pub returns-then-has_mismatch-clause-first : goal.returns-then-has_mismatch-clause-first
returns-then-has_mismatch-clause-first c =
    let checks = checks_of c.args.checks.now in
    let node = c.loop-node.node in
    let one = c.index-checks-node.result in
    let at = check-at c.args.checks.now node one c.loop-node-test.true c.index-checks-node.is in
    let has : list_any is_mismatch (issues_of one.issues) ≡ true =
    ap (λ is. list_any is_mismatch (issues_of is)) (sym c.as_slice.ensures) ∙ (sym c.has_mismatch.ensures ∙ c.if-has_mismatch.true) in
    told-so _ (IsFirstOf IsMismatch checks)
    (λ f is. first-here IsMismatch checks node (check_of one) f (ap node_number is) at (mismatch-shown node (check_of one) f has is) c.loop-node.invariant)
    c.mismatch.result c.mismatch.ensures

pub loop-node-preserved : goal.loop-node-preserved
loop-node-preserved c =
    let one = c.index-checks-node.result in
    let at = check-at c.args.checks.now c.loop-node.node one c.loop-node-test.true c.index-checks-node.is in
    let none : list_any is_mismatch (issues_of one.issues) ≡ false =
    ap (λ is. list_any is_mismatch (issues_of is)) (sym c.as_slice.ensures) ∙ (sym c.has_mismatch.ensures ∙ c.if-has_mismatch.false) in
    one-more IsMismatch (checks_of c.args.checks.now) c.loop-node.node (check_of one) at (not-mismatch (check_of one) none) c.loop-node.invariant

pub returns-clause-none : goal.returns-clause-none
returns-clause-none c =
    none-left IsMismatch (checks_of c.args.checks.now) c.loop-node.node (all-checks c.args.checks.now c.loop-node.node c.loop-node-test.false) c.loop-node.invariant
