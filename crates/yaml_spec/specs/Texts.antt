-- Statement: what a text spells, by its lines.
use Rattle.std.specs.Prelude.{ℕ, suc, if◌then◌else◌, eqb, List, [], ◌∷◌, map}
use Rattle.yaml_spec.specs.declared.tree.Tree.{Tree}
use Rattle.yaml_spec.specs.Spells.{Line, at, Spells}

abbrev pub with_first : ℕ → List (List ℕ) → List (List ℕ)
with_first c [] = (c ∷ []) ∷ []
with_first c (l ∷ ls) = (c ∷ l) ∷ ls

-- the lines, without their line feeds; a last line needs none
abbrev pub cut : List ℕ → List (List ℕ)
cut [] = []
cut (c ∷ s) = if eqb c 10 then [] ∷ cut s else with_first c (cut s)

-- without a carriage return at the end
abbrev pub without_return : List ℕ → List ℕ
without_return [] = []
without_return (c ∷ []) = if eqb c 13 then [] else c ∷ []
without_return (c ∷ d ∷ s) = c ∷ without_return (d ∷ s)

-- behind n spaces
abbrev pub line_from : ℕ → List ℕ → Line
line_from n [] = at n []
line_from n (c ∷ s) = if eqb c 32 then line_from (suc n) s else at n (c ∷ s)

abbrev pub line_of : List ℕ → Line
line_of l = line_from 0 (without_return l)

abbrev pub lines_of : List ℕ → List Line
lines_of text = map line_of (cut text)

-- the text spells the tree
abbrev pub Spelled : List ℕ → Tree → Type 0
Spelled text x = Spells (lines_of text) x
