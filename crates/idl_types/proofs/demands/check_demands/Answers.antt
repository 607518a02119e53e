use Rattle.std.proofs.Common.{subst}
use Rattle.type_issues.specs.Issues.{check_of, checks_of}
use Rattle.idl_types.specs.Passes.{IsShown, BreaksCheck, IsBroken, IsFirstOf}
use Rattle.idl_types.proofs.PassLaws.{first-here, one-more, none-left}
use Rattle.idl_types.proofs.TellLaws.{told-so, check-at, all-checks, node-of-shown, broken-shown, not-broken}
use Rattle.idl_types.proofs.demands.check_demands.Goals as goal

pub returns-in-Ok-Some-clause-first : goal.returns-in-Ok-Some-clause-first
returns-in-Ok-Some-clause-first c =
    let space = c.args.space.now in
    let program = c.args.program.now in
    let variables = c.args.variables.now in
    let sort = c.args.sort in
    let checks = checks_of c.args.checks.now in
    let node = c.loop-node.node in
    let one = c.index-checks-node.result in
    let shows = c.in-Ok-Some.shows in
    let at = check-at c.args.checks.now node one c.loop-node-test.true c.index-checks-node.is in
    let breaks : BreaksCheck space program variables sort (check_of one) shows =
    subst (IsShown (BreaksCheck space program variables sort (check_of one))) c.in-Ok-Some.field-0-is c.in-Ok-Some.ensures in
    told-so _ (IsFirstOf (IsBroken space program variables sort) checks)
    (λ f is. first-here (IsBroken space program variables sort) checks node (check_of one) f (node-of-shown sort node shows f is) at
    (broken-shown space program variables sort node shows (check_of one) f breaks is) c.loop-node.invariant)
    c.shown.result c.shown.ensures

pub loop-node-preserved : goal.loop-node-preserved
loop-node-preserved c =
    let space = c.args.space.now in
    let program = c.args.program.now in
    let variables = c.args.variables.now in
    let sort = c.args.sort in
    let one = c.index-checks-node.result in
    let at = check-at c.args.checks.now c.loop-node.node one c.loop-node-test.true c.index-checks-node.is in
    let none = subst (IsShown (BreaksCheck space program variables sort (check_of one))) c.in-Ok-None.field-0-is c.in-Ok-None.ensures in
    one-more (IsBroken space program variables sort) (checks_of c.args.checks.now) c.loop-node.node (check_of one) at
    (not-broken space program variables sort (check_of one) none) c.loop-node.invariant

pub returns-clause-none : goal.returns-clause-none
returns-clause-none c =
    none-left (IsBroken c.args.space.now c.args.program.now c.args.variables.now c.args.sort) (checks_of c.args.checks.now) c.loop-node.node
    (all-checks c.args.checks.now c.loop-node.node c.loop-node-test.false) c.loop-node.invariant
