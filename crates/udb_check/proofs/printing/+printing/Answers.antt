use Rattle.std.proofs.Common.{◌≡◌, ◌∷◌, ◌++◌, true, codes, sym, ap, ◌∙◌}
use Rattle.std.specs.Fmt.{decimal}
use Rattle.udb_spec.specs.ProofText.{kind_text, proof_lines, cut_text}
use Rattle.udb_spec.specs.ProofTextLaws.{lines-Cut}
use Rattle.udb_check.proofs.TextLaws.{line-then-two}
use Rattle.udb_check.proofs.printing.+printing.Goals as goal

pub push_proof-returns-in_ok-push_proof-in-Cut-2-clause-text : goal.push_proof-returns-in_ok-push_proof-in-Cut-2-clause-text
push_proof-returns-in_ok-push_proof-in-Cut-2-clause-text t c =
    let space = c.args.space.now in
    let lines = c.args.lines.now in
    let below = proof_lines space c.get.result.now in
    let from = proof_lines space c.get-in-Cut.result.now in
    let text : c.in_ok-line-in-Cut.line ≡ cut_text space c.in-Cut.place c.in-Cut.at = c.in_ok-line-in-Cut.ensures ∙ ap (λ n. codes "cut " ++ (kind_text true ++ (n ++ (32 ∷ decimal c.in-Cut.at)))) c.name_at-name-in-Cut.ensures in
    line-then-two lines c.push-in-Cut.new.self c.push_proof.new.lines c.push_proof-in-Cut.new.lines below from c.in_ok-line-in-Cut.line c.in_ok-push-in-Cut.ensures.ok c.in_ok-push_proof-in-Cut.ensures.text c.in_ok-push_proof-in-Cut-2.ensures.text
    ∙ ap (λ l. lines ++ (l ∷ below ++ from)) text
    ∙ ap (λ b. lines ++ (cut_text space c.in-Cut.place c.in-Cut.at ∷ proof_lines space b ++ from)) c.get.ensures
    ∙ ap (λ f. lines ++ (cut_text space c.in-Cut.place c.in-Cut.at ∷ proof_lines space c.in-Cut.below ++ proof_lines space f)) c.get-in-Cut.ensures
    ∙ ap (λ ys. lines ++ ys) (sym (lines-Cut space c.in-Cut.place c.in-Cut.at c.in-Cut.below c.in-Cut.from) ∙ ap (proof_lines space) (sym c.in-Cut.is))
