-- Lines of text.
use Rattle.std.specs.Prelude.{ℕ, List, [], ◌∷◌, ◌++◌}
use Rattle.std.specs.List.{flat_map}

-- each line without the line feed that ends it
abbrev pub Lines : Type 0
Lines = List (List ℕ)

-- lines, each ended by a line feed
abbrev pub text_of_lines : Lines → List ℕ
text_of_lines = flat_map (λ line. line ++ 10 ∷ [])
