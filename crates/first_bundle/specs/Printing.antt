-- The lines of an instruction up to its body.
use Rattle.std.specs.Prelude.{◌++◌, ℕ, List, [], ◌∷◌, codes}
use Rattle.entry_tree.specs.declared.InstructionEntry.{InstructionEntry}
use Rattle.first_spec.specs.Bundle.{digits_among}

abbrev pub name_lines : InstructionEntry → List (List ℕ)
name_lines x =
    codes "kind: instruction" ∷ (codes "name: " ++ x.name) ∷ (codes "long_name: " ++ x.long_name)
    ∷ (codes "description: " ++ x.description) ∷ []

abbrev pub encoding_lines : List ℕ → List (List ℕ)
encoding_lines digits = codes "assembly: \"\"" ∷ codes "encoding:" ∷ (codes "  match: " ++ digits) ∷ codes "operation(): |" ∷ []

abbrev pub lines_before_body : InstructionEntry → List (List ℕ)
lines_before_body x = name_lines x ++ encoding_lines (digits_among x.encodings)
