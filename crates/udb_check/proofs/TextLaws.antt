-- The lines of proofs, form by form.
use Rattle.std.proofs.Common.{◌≡◌, ℕ, List, [], ◌∷◌, ◌++◌, ap, ◌∙◌, append_assoc}
use Rattle.udb_spec.specs.ProofTextLaws.{lines-Leaf, lines-Split, lines-Cut, sized-Leaf, sized-Split, sized-Cut}

pub ruleset line_laws = (lines-Leaf, lines-Split, lines-Cut, sized-Leaf, sized-Split, sized-Cut, append_assoc)

-- a line, and the lines of two parts after it
pub line-then-two : (l0 l1 l2 l3 b f : List (List ℕ)) (line : List ℕ) → l1 ≡ l0 ++ line ∷ [] → l2 ≡ l1 ++ b → l3 ≡ l2 ++ f → l3 ≡ l0 ++ (line ∷ b ++ f)
line-then-two l0 l1 l2 l3 b f line e1 e2 e3 =
    e3 ∙ ap (λ l. l ++ f) (e2 ∙ ap (λ l. l ++ b) e1 ∙ append_assoc l0 (line ∷ []) b) ∙ append_assoc l0 (line ∷ b) f
