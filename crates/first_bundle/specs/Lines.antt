-- Lines of bytes, and bytes as plain text.
use Rattle.std.specs.Prelude.{◌==◌, ◌++◌, ℕ, nat_lt, List, [], ◌∷◌, map, if◌then◌else◌}

-- the lines so far, and the line that is open
abbrev pub split_onto : List (List ℕ) → List ℕ → List ℕ → List (List ℕ)
split_onto lines line [] = lines
split_onto lines line (b ∷ bs) = if b == 10 then split_onto (lines ++ line ∷ []) [] bs else split_onto lines (line ++ b ∷ []) bs

abbrev pub split_lines : List ℕ → List (List ℕ)
split_lines bytes = split_onto [] [] bytes

abbrev pub plain_byte : ℕ → ℕ
plain_byte b = if nat_lt b 128 then b else 63

abbrev pub plain : List ℕ → List ℕ
plain bytes = map plain_byte bytes

-- what stands before a byte; all where the byte isn't there
abbrev pub until : ℕ → List ℕ → List ℕ
until byte [] = []
until byte (b ∷ bs) = if b == byte then [] else b ∷ until byte bs
