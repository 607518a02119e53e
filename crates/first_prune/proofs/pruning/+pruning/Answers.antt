use Rattle.std.proofs.Common.{◌≡◌, ◌++◌, List, [], ◌∷◌, sym, subst, Some, None, true, false}
use Rattle.std.specs.Prelude.{OnOk}
use Rattle.idl_tree.specs.declared.statements.Stmt.{Stmt}
use Rattle.idl_tree.specs.declared.statements.Stmt.TheVariants as v
use Rattle.first_prune.specs.Facts.{facts_of}
use Rattle.first_prune.specs.Pruning.{pruned, pruned_one, known_truth, known_after}
use Rattle.first_prune.proofs.PruningLemmas.{stays, shown_open}
use Rattle.first_prune.proofs.pruning.+pruning.Goals as goal

pub prune_onto-returns-in_default : goal.prune_onto-returns-in_default
prune_onto-returns-in_default t c =
    subst (λ (ys : List Stmt). OnOk c.push_copy.result (c.push_copy.new.shown ≡ c.args.shown.now ++ ys))
    (sym (stays (facts_of c.args.facts.now) c.args.statement.now c.in_default.not-Block c.in_default.not-If)) c.push_copy.ensures

pub prune_onto-returns-in_ok-no-in-Some-no-2 : goal.prune_onto-returns-in_ok-no-in-Some-no-2
prune_onto-returns-in_ok-no-in-Some-no-2 t c =
    let is : c.args.statement.now ≡ v.If c.in-If.test c.in-If.yes (Some c.in-Some-no-2.no) = cc in
    let unknown : None ≡ known_truth (facts_of c.args.facts.now) c.in-If.test = c.in-None.ensures in
    let a : facts_of c.known_after-after.result ≡ known_after (facts_of c.args.facts.now) c.in-If.test true = c.known_after-after.ensures in
    let b : facts_of c.known_after-after-in-Some-no-2.result ≡ known_after (facts_of c.args.facts.now) c.in-If.test false = c.known_after-after-in-Some-no-2.ensures in
    let y : c.in_ok-yes-in-None.yes ≡ pruned (facts_of c.known_after-after.result) c.in-If.yes = cc (c.in_ok-yes-in-None.ensures, c.as_slice-in-None.ensures) in
    let n : c.in_ok-no-in-Some-no-2.no ≡ pruned (facts_of c.known_after-after-in-Some-no-2.result) c.in-Some-no-2.no = cc (c.in_ok-no-in-Some-no-2.ensures, c.as_slice-in-Some-no-2.ensures) in
    let e : pruned_one c.args.statement.now (facts_of c.args.facts.now) ≡ v.If c.in-If.test c.in_ok-yes-in-None.yes (Some c.in_ok-no-in-Some-no-2.no) ∷ [] =
    shown_open (facts_of c.args.facts.now) (facts_of c.known_after-after.result) (facts_of c.known_after-after-in-Some-no-2.result) c.args.statement.now c.in-If.test c.in-If.yes c.in-Some-no-2.no c.in_ok-yes-in-None.yes c.in_ok-no-in-Some-no-2.no is unknown a b y n in
    subst (λ (ys : List Stmt). OnOk c.push_if.result (c.push_if.new.shown ≡ c.args.shown.now ++ ys)) (sym e) c.push_if.ensures
