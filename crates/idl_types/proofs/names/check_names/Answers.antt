use Rattle.std.proofs.Common.{◌≡◌, ◌∙◌, Some, None, option_map, sym, ap}
use Rattle.idl_spec.specs.Faults.{first_unknown, node_number}
use Rattle.type_issues.specs.Issues.{issues_of, check_of, checks_of}
use Rattle.idl_types.specs.Passes.{IsUnknown, IsFirstOf}
use Rattle.idl_types.proofs.PassLaws.{first-here, one-more, none-left}
use Rattle.idl_types.proofs.TellLaws.{told-so, check-at, all-checks, unknown-shown, not-unknown, nothing-in}
use Rattle.idl_types.proofs.names.check_names.Goals as goal

pub returns-in-Some-clause-first : goal.returns-in-Some-clause-first
returns-in-Some-clause-first c =
    let checks = checks_of c.args.checks.now in
    let node = c.loop-node.node in
    let one = c.index-checks-node.result in
    let at = check-at c.args.checks.now node one c.loop-node-test.true c.index-checks-node.is in
    let named : first_unknown (issues_of one.issues) ≡ Some c.in-Some.name.now =
    ap (λ is. first_unknown (issues_of is)) (sym c.as_slice.ensures) ∙ (sym c.first_unknown.ensures ∙ ap (option_map (λ n. n.now)) c.in-Some.is) in
    told-so _ (IsFirstOf IsUnknown checks)
    (λ f is. first-here IsUnknown checks node (check_of one) f (ap node_number is) at (unknown-shown node c.in-Some.name.now (check_of one) f named is) c.loop-node.invariant)
    c.unknown.result c.unknown.ensures

pub loop-node-preserved : goal.loop-node-preserved
loop-node-preserved c =
    let one = c.index-checks-node.result in
    let at = check-at c.args.checks.now c.loop-node.node one c.loop-node-test.true c.index-checks-node.is in
    let none : first_unknown (issues_of one.issues) ≡ None =
    ap (λ is. first_unknown (issues_of is)) (sym c.as_slice.ensures) ∙ (sym c.first_unknown.ensures ∙ nothing-in (λ n. n.now) c.first_unknown.result c.in_default.not-Some) in
    one-more IsUnknown (checks_of c.args.checks.now) c.loop-node.node (check_of one) at (not-unknown (check_of one) none) c.loop-node.invariant

pub returns-clause-none : goal.returns-clause-none
returns-clause-none c =
    none-left IsUnknown (checks_of c.args.checks.now) c.loop-node.node (all-checks c.args.checks.now c.loop-node.node c.loop-node-test.false) c.loop-node.invariant
