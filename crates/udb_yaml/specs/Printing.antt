-- The text that is written of a tree, piece by piece.
use Rattle.std.specs.Prelude.{ℕ, suc, ◌+◌, Bool, ◌||◌, if◌then◌else◌, eqb, ltb, List, [], ◌∷◌, ◌++◌}
use Rattle.yaml_spec.specs.declared.tree.Tree.{Tree}
use Rattle.yaml_spec.specs.declared.tree.Pair.{Pair}
use Rattle.yaml_spec.specs.Line.{spaces}
use Rattle.yaml_spec.specs.Print.{Shown, shown, quote, moved, text_of_lines}

-- whether a byte is written behind a backslash
abbrev pub is_escaped : ℕ → Bool
is_escaped c = eqb c 34 || (eqb c 92 || ltb c 32)

-- the place of the first such byte, or the end
abbrev pub run_place : List ℕ → ℕ
run_place [] = 0
run_place (c ∷ s) = if is_escaped c then 0 else suc (run_place s)

-- what is written behind a mark at a column
abbrev pub value_text : ℕ → Shown → List ℕ
value_text c x = if x.0 then 10 ∷ text_of_lines (moved (c + 2) x.2) else 32 ∷ x.1 ++ 10 ∷ []

abbrev pub items_text : ℕ → List Tree → List ℕ
items_text c [] = []
items_text c (x ∷ xs) = (spaces c ++ (45 ∷ value_text c (shown x))) ++ items_text c xs

abbrev pub entries_text : ℕ → List Pair → List ℕ
entries_text c [] = []
entries_text c (p ∷ ps) = (spaces c ++ (quote p.key ++ (58 ∷ value_text c (shown p.value)))) ++ entries_text c ps

-- what is written of a tree at a column
abbrev pub group_text : ℕ → Tree → List ℕ
group_text c x = text_of_lines (moved c (shown x).2)
