use Rattle.std.proofs.Common.{◌≡◌, ◌++◌, ◌∷◌, [], OnOk, Some, sym, ap, subst, ◌∙◌, append_assoc}
use Rattle.idl_spec.specs.Demands.{csr_word, csr_word_issues}
use Rattle.idl_spec.specs.Checks.{check, expr_checks}
use Rattle.type_kinds.specs.Views.{view_of}
use Rattle.type_issues.specs.Issues.{checks_of}
use Rattle.type_checks.specs.Nodes.{node_check}
use Rattle.type_checks.proofs.WalkForms.{walk-word}
use Rattle.type_checks.proofs.expressions.+expression_checks.Goals as goal

pub push_checks-returns-in-Some : goal.push_checks-returns-in-Some
push_checks-returns-in-Some t c =
    let view = view_of c.args.view.now in
    let context = c.args.context.now in
    let old = checks_of c.args.checks.now in
    let more = check context (csr_word_issues view c.in-Some.name.now) in
    let word : csr_word view c.in-SoftRead.at ≡ Some c.in-Some.name.now = ap (csr_word view) (sym c.get-in-SoftRead.ensures) ∙ c.in-Some.ensures.found in
    let walk : expr_checks view c.args.e.now context ≡ node_check view c.args.e.now context ∷ more ∷ [] =
    ap (λ x. expr_checks view x context) c.in-SoftRead.is ∙ walk-word view c.in-SoftRead.at context c.in-Some.name.now word
    ∙ sym (ap (λ x. node_check view x context ∷ more ∷ []) c.in-SoftRead.is) in
    subst (λ cs. OnOk c.push_csr_word.result (checks_of c.push_csr_word.new.checks ≡ cs))
    (ap (λ cs. cs ++ more ∷ []) c.in_ok-push_node.ensures ∙ (append_assoc old (node_check view c.args.e.now context ∷ []) (more ∷ []) ∙ ap (λ cs. old ++ cs) (sym walk)))
    c.push_csr_word.ensures
