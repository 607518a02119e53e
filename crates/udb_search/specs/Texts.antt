-- The texts that searches over a bundle's tables reply.
use Rattle.std.specs.Prelude.{◌++◌, ℕ, List, [], ◌∷◌, length, codes, Option, None, Some}
use Rattle.std.specs.List.{flat_map}
use Rattle.std.specs.Fmt.{decimal}
use Rattle.udb_base.specs.declared.kinds.Kind.{Kind}
use Rattle.udb_base.specs.declared.spaces.Space.{Space}
use Rattle.udb_base.specs.Kinds.{kind_word}
use Rattle.udb_base.specs.Lines.{Lines, text_of_lines}
use Rattle.udb_spec.specs.ProofText.{full_lines, proof_lines}
use Rattle.udb_refute.specs.declared.search.Found.{Found}
use Rattle.udb_refute.specs.declared.search.Found.TheVariants.{Completion, Refuted}
use Rattle.db_spec.specs.declared.broken.Broken.{Broken}

-- ---- refusals

-- where a rule is broken: at an entry, or in the database as a whole
abbrev pub site_text : Option Kind → Option (List ℕ) → List ℕ
site_text (Some kind) (Some name) = kind_word kind ++ (32 ∷ name)
site_text kind name = codes "database"

abbrev pub broken_line : Broken → List ℕ
broken_line b = codes "refused " ++ (site_text b.kind b.name ++ (codes " rule " ++ decimal b.rule))

-- each line that is shown stands after two spaces
abbrev pub shown_text : Lines → List ℕ
shown_text = flat_map (λ line. 32 ∷ 32 ∷ line ++ 10 ∷ [])

-- the broken rule, and the lines that show the breach
abbrev pub broken_text : Broken → List ℕ
broken_text b = text_of_lines (broken_line b ∷ []) ++ shown_text b.shows

abbrev pub no_bundle_text : ℕ → List ℕ
no_bundle_text number = text_of_lines ((codes "no bundle at line " ++ decimal number) ∷ [])

abbrev pub not_built_text : List ℕ
not_built_text = text_of_lines (codes "not built" ∷ [])

abbrev pub no_such_text : Kind → List ℕ → List ℕ
no_such_text kind name = text_of_lines ((codes "no such " ++ (kind_word kind ++ (32 ∷ name))) ∷ [])

-- ---- what a search finds

-- a word and the number of lines, then the lines
abbrev pub counted_text : List ℕ → Lines → List ℕ
counted_text word lines = text_of_lines ((word ++ (32 ∷ decimal (length lines))) ∷ lines)

abbrev pub found_text : Space → Found → List ℕ
found_text space (Completion full) = counted_text (codes "completion") (full_lines space full)
found_text space (Refuted proof) = counted_text (codes "proof") (proof_lines space proof)

-- ---- what a checker says

abbrev pub accepted_text : List ℕ
accepted_text = text_of_lines (codes "accepted" ∷ [])

abbrev pub bad_line_text : ℕ → List ℕ
bad_line_text number = text_of_lines ((codes "rejected line " ++ decimal number) ∷ [])

-- further numbers of a path, each after a dot
abbrev pub dotted : List ℕ → List ℕ
dotted = flat_map (λ n. 46 ∷ decimal n)

-- the child numbers that lead to a node, joined by dots
abbrev pub path_text : List ℕ → List ℕ
path_text [] = codes "root"
path_text (n ∷ ns) = decimal n ++ dotted ns

abbrev pub rejected_text : List ℕ → List ℕ
rejected_text path = text_of_lines ((codes "rejected " ++ path_text path) ∷ [])
